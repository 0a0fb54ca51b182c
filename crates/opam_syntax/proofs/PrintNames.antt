-- Whether a name comes twice does not depend on the places.
use Rattle.std.proofs.Common.{◌≡◌, ℕ, true, not, ◌&&◌, List, [], ◌∷◌, refl, sym, ap, ◌∙◌}
use Rattle.std.specs.List.{list_any}
use Rattle.std.specs.declared.option.Option.TheVariants.{None}
use Rattle.syntax_trees.specs.declared.file.Key.{Key}
use Rattle.syntax_trees.specs.declared.tree.Node.{Node}
use Rattle.syntax_trees.specs.Tokens.{Placed}
use Rattle.syntax_trees.specs.Files.{Contents, FieldContents, SectionContents, Entry, AreEntries}
use Rattle.syntax_trees.specs.Doubles.{key_eq, doubled_at}
use Rattle.syntax_trees.specs.Trees.{told_items}
use Rattle.syntax_trees.proofs.SingleNames.{names_of, inner_names_of, names_free, items_free, entries_free, entries_pass}
use Rattle.syntax_trees.proofs.Spanned.{InOrder}
use Rattle.opam_syntax.specs.Printed.{placeless_fields, placeless_contents, placeless_items}

placeless_names : (fields : List (List ℕ × Node)) → names_of (placeless_fields fields) ≡ names_of fields
placeless_names [] = refl
placeless_names (f ∷ fields) = ap (λ ns. f.0 ∷ ns) (placeless_names fields)

placeless_inner : (c : Contents) → inner_names_of (placeless_contents c) ≡ inner_names_of c
placeless_inner (FieldContents v) = refl
placeless_inner (SectionContents fields) = placeless_names fields

placeless_free : (keys : List Key) (items : List (Key × Contents)) → items_free keys (placeless_items items) ≡ items_free keys items
placeless_free keys [] = refl
placeless_free keys (item ∷ items) =
    ap (λ ns. not (list_any (key_eq item.0) keys) && (names_free [] ns && items_free (item.0 ∷ keys) (placeless_items items))) (placeless_inner item.1)
    ∙ ap (λ b. not (list_any (key_eq item.0) keys) && (names_free [] (inner_names_of item.1) && b)) (placeless_free (item.0 ∷ keys) items)

-- so entries with the same keys and names have no doubled name either
pub single_too : {old tokens : List Placed} {entries found : List Entry} → AreEntries old entries → doubled_at entries ≡ None → AreEntries tokens found
    → (total place : ℕ) → InOrder total place tokens → placeless_items (told_items found) ≡ placeless_items (told_items entries) → doubled_at found ≡ None
single_too {entries = entries} {found = found} p e q total place o same =
    let free : items_free [] (told_items entries) ≡ true = entries_free p [] [] (λ k h. absurd cc) e in
    let free_too : items_free [] (told_items found) ≡ true =
    sym (placeless_free [] (told_items found)) ∙ ap (items_free []) same ∙ placeless_free [] (told_items entries) ∙ free in
    entries_pass q total place o [] [] (λ k h. absurd cc) (λ s n l. refl) free_too
