-- The canonical spelling of a file spells its items again.
use Rattle.std.proofs.Common.{◌≡◌, ℕ, ◌+◌, ◌-◌, ◌≤◌, List, [], ◌∷◌, ◌++◌, length, map, max, refl, sym, ap, subst, ◌∙◌, arith}
use Rattle.std.specs.Prelude.{codes}
use Rattle.syntax_trees.specs.declared.file.Key.{Key}
use Rattle.syntax_trees.specs.declared.tree.Node.{Node}
use Rattle.syntax_trees.specs.Tokens.{AreTokens}
use Rattle.syntax_trees.specs.Files.{Contents, FieldContents, SectionContents, Entry}
use Rattle.syntax_trees.specs.Nesting.{depth, contents_depth, most}
use Rattle.opam_syntax.specs.Spelling.{label_text, field_text, fields_text, item_text, items_text, file_text}
use Rattle.syntax_trees.specs.Trees.{items_of, told_items}
use Rattle.opam_syntax.specs.Printed.{placeless, placeless_fields, placeless_contents, placeless_items, PrintedIsSpelled, PrintedIsReadBack}
use Rattle.syntax_trees.proofs.OneFile.{one_derivation}
use Rattle.syntax_trees.proofs.Spanned.{InOrder, in_order}
use Rattle.opam_syntax.proofs.Placeless.{depth_placeless, text_placeless, two_same}
use Rattle.opam_syntax.proofs.PrintTokens.{are_read}
use Rattle.opam_syntax.proofs.PrintFiles.{entries_again}
use Rattle.opam_syntax.proofs.PrintNames.{single_too}

-- depths and texts look at no place
abbrev items_depth : List (Key × Contents) → ℕ
items_depth [] = 0
items_depth (item ∷ items) = max (contents_depth item.1) (items_depth items)

told_depth : (entries : List Entry) → most (map (λ entry. contents_depth entry.contents) entries) ≡ items_depth (told_items entries)
told_depth [] = refl
told_depth (entry ∷ entries) = ap (max (contents_depth entry.contents)) (told_depth entries)

fields_depth : (fields : List (List ℕ × Node)) → most (map (λ (f : List ℕ × Node). depth f.1) (placeless_fields fields)) ≡ most (map (λ (f : List ℕ × Node). depth f.1) fields)
fields_depth [] = refl
fields_depth (f ∷ fields) = two_same max (depth_placeless f.1) (fields_depth fields)

contents_depth_placeless : (c : Contents) → contents_depth (placeless_contents c) ≡ contents_depth c
contents_depth_placeless (FieldContents v) = depth_placeless v
contents_depth_placeless (SectionContents fields) = ap (λ n. 1 + n) (fields_depth fields)

items_depth_placeless : (items : List (Key × Contents)) → items_depth (placeless_items items) ≡ items_depth items
items_depth_placeless [] = refl
items_depth_placeless (item ∷ items) = two_same max (contents_depth_placeless item.1) (items_depth_placeless items)

field_text_placeless : (name : List ℕ) (v : Node) → field_text name (placeless v) ≡ field_text name v
field_text_placeless name v = ap (λ t. name ++ codes ": " ++ t ++ codes "\n") (text_placeless v)

fields_text_placeless : (fields : List (List ℕ × Node)) → fields_text (placeless_fields fields) ≡ fields_text fields
fields_text_placeless [] = refl
fields_text_placeless (f ∷ fields) =
    two_same (λ (t more : List ℕ). (32 ∷ 32 ∷ t) ++ more) (field_text_placeless f.0 f.1) (fields_text_placeless fields)

item_text_placeless : (key : Key) (c : Contents) → item_text key (placeless_contents c) ≡ item_text key c
item_text_placeless key (FieldContents v) = field_text_placeless key.name v
item_text_placeless key (SectionContents fields) =
    ap (λ (t : List ℕ). key.name ++ codes " " ++ label_text key.label ++ codes "{\n" ++ t ++ codes "}\n") (fields_text_placeless fields)

items_text_placeless : (items : List (Key × Contents)) → items_text (placeless_items items) ≡ items_text items
items_text_placeless [] = refl
items_text_placeless (item ∷ items) = two_same (λ (t more : List ℕ). t ++ more) (item_text_placeless item.0 item.1) (items_text_placeless items)

shallow_too : (entries found : List Entry) → placeless_items (told_items found) ≡ placeless_items (told_items entries)
    → most (map (λ entry. contents_depth entry.contents) entries) ≤ 64 → most (map (λ entry. contents_depth entry.contents) found) ≤ 64
shallow_too entries found same l =
    let e : most (map (λ entry. contents_depth entry.contents) found) ≡ most (map (λ entry. contents_depth entry.contents) entries) =
    told_depth found ∙ sym (items_depth_placeless (told_items found)) ∙ ap items_depth same ∙ items_depth_placeless (told_items entries) ∙ sym (told_depth entries) in
    subst (λ n. n ≤ 64) (sym e) l

pub printed_is_spelled : PrintedIsSpelled
printed_is_spelled bytes file (entries, s, has) =
    let total = length (file_text file) in
    let a = entries_again s.derived.2 (are_read s.derived.1) total in
    let tokens : AreTokens total (file_text file) a.tokens = subst (λ b. AreTokens total b a.tokens) (sym (ap items_text has.items)) a.spelled in
    let o : InOrder total (total - total) a.tokens = in_order tokens (omega arith) in (
      a.found,
      record {
        derived = (a.tokens, tokens, a.derived);
        shallow = shallow_too entries a.found a.same s.shallow;
        single = single_too s.derived.2 s.single a.derived total (total - total) o a.same;
      },
      a.same ∙ ap placeless_items (sym has.items),
    )

pub printed_is_read_back : PrintedIsReadBack
printed_is_read_back bytes file other t (entries, s, has) =
    let p = printed_is_spelled bytes file t in
    let one : p.0 ≡ entries = one_derivation (file_text file) p.0 entries p.1.derived s.derived in
    let same : placeless_items (items_of other) ≡ placeless_items (items_of file) =
    ap placeless_items has.items ∙ ap (λ es. placeless_items (told_items es)) (sym one) ∙ p.2 in
    (same, sym (items_text_placeless (items_of other)) ∙ ap items_text same ∙ items_text_placeless (items_of file))
