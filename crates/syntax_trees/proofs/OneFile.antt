-- Bytes have at most one list of items, and so at most one tree.
use Rattle.std.proofs.Common.{◌≡◌, ℕ, true, List, ◌∷◌, refl, sym, subst, ap, ◌∙◌}
use Rattle.std.specs.Prelude.{map}
use Rattle.std.specs.declared.option.Option.{Option}
use Rattle.std.specs.declared.option.Option.TheVariants.{None, Some}
use Rattle.syntax_trees.specs.declared.token.Token.TheVariants.{CloseBraces}
use Rattle.syntax_trees.specs.declared.tree.Span.{Span}
use Rattle.syntax_trees.specs.declared.tree.Node.{Node}
use Rattle.syntax_trees.specs.declared.file.File.{File}
use Rattle.syntax_trees.specs.Tokens.{Placed, placed}
use Rattle.syntax_trees.specs.Grammar.{ValueLevel}
use Rattle.syntax_trees.specs.Files.{Entry, field_entry, section_entry, AreFields, no_field, field, AreEntries, no_entry, field_next, section_next, labelled_next}
use Rattle.syntax_trees.specs.Trees.{items_of, told_items, HasEntries}
use Rattle.syntax_trees.specs.Laws.{OneTreeForBytes, OneDerivation}
use Rattle.syntax_trees.proofs.OneTokens.{same_tokens}
use Rattle.syntax_trees.specs.Parsing.{stops}
use Rattle.syntax_trees.proofs.OneTree.{same, closes, closed}

pub fields_stop : {tokens : List Placed} {fields : List (List ℕ × Node)} {places : List ℕ} {rest : List Placed} → AreFields tokens fields places rest
    → closes rest ≡ true → stops ValueLevel tokens ≡ true
fields_stop {tokens} no_field h = closed tokens h
fields_stop (field p q) h = refl

pub entries_stop : {tokens : List Placed} {entries : List Entry} → AreEntries tokens entries → stops ValueLevel tokens ≡ true
entries_stop no_entry = refl
entries_stop (field_next p q) = refl
entries_stop (section_next p q) = refl
entries_stop (labelled_next p q) = refl

pub fields_too : {ts us : List Placed} {fs : List (List ℕ × Node)} {ps : List ℕ} {r : List Placed} → ts ≡ us → AreFields us fs ps r → AreFields ts fs ps r
fields_too {fs = fs} {ps = ps} {r = r} e p = subst (λ ts. AreFields ts fs ps r) (sym e) p

pub entries_too : {ts us : List Placed} {es : List Entry} → ts ≡ us → AreEntries us es → AreEntries ts es
entries_too {es = es} e p = subst (λ ts. AreEntries ts es) (sym e) p

abbrev pub SameFields : List (List ℕ × Node) → List (List ℕ × Node) → List ℕ → List ℕ → List Placed → List Placed → Type 0
SameFields fs gs ps qs r s = (fs ≡ gs) × (ps ≡ qs) × (r ≡ s)

same_fields_more : (name : List ℕ) (from : Span) {a b : Node} {fs gs : List (List ℕ × Node)} {ps qs : List ℕ} {r s : List Placed} → a ≡ b → SameFields fs gs ps qs r s
    → SameFields ((name, a) ∷ fs) ((name, b) ∷ gs) (from.start ∷ ps) (from.start ∷ qs) r s
same_fields_more name from e f = let g = f.0 in let h = f.1 in (cc, cc, f.2)

pub same_fields : {ts : List Placed} {fs : List (List ℕ × Node)} {ps : List ℕ} {r : List Placed} → AreFields ts fs ps r → closes r ≡ true
    → {gs : List (List ℕ × Node)} {qs : List ℕ} {s : List Placed} → AreFields ts gs qs s → closes s ≡ true → SameFields fs gs ps qs r s
same_fields no_field h no_field k = (refl, refl, refl)
same_fields no_field h (field q v) k = absurd cc
same_fields (field p t) h no_field k = absurd cc
same_fields (field {name = name} {from = from} p t) h (field q v) k =
    let e = same p (fields_stop t h) q (fields_stop v k) in
    same_fields_more name from e.0 (same_fields t h (fields_too e.1 v) k)

same_field_next : (name : List ℕ) (from : Span) {a b : Node} {es ds : List Entry} → a ≡ b → es ≡ ds
    → (field_entry name from a ∷ es) ≡ (field_entry name from b ∷ ds)
same_field_next name from e f = cc

pub same_section_next : (name : List ℕ) (label : Option (List ℕ)) (from : Span) {to by : Span} {fs gs : List (List ℕ × Node)} {ps qs : List ℕ} {r s : List Placed} {es ds : List Entry}
    → SameFields fs gs ps qs (placed CloseBraces to ∷ r) (placed CloseBraces by ∷ s) → es ≡ ds
    → (section_entry name label from fs ps to ∷ es) ≡ (section_entry name label from gs qs by ∷ ds)
same_section_next name label from e f = let g = e.0 in let h = e.1 in let i = e.2 in cc

pub after_section : {fs gs : List (List ℕ × Node)} {ps qs : List ℕ} {x y : Placed} {r s : List Placed} → SameFields fs gs ps qs (x ∷ r) (y ∷ s) → r ≡ s
after_section e = let f = e.2 in cc

pub same_entries : {ts : List Placed} {es : List Entry} → AreEntries ts es → {ds : List Entry} → AreEntries ts ds → es ≡ ds
same_entries no_entry no_entry = refl
same_entries (field_next {name = name} {from = from} p t) (field_next q v) =
    let e = same p (entries_stop t) q (entries_stop v) in
    same_field_next name from e.0 (same_entries t (entries_too e.1 v))
same_entries (section_next {name = name} {from = from} p t) (section_next q v) =
    let e = same_fields p refl q refl in
    same_section_next name None from e (same_entries t (entries_too (after_section e) v))
same_entries (labelled_next {name = name} {label = label} {from = from} p t) (labelled_next q v) =
    let e = same_fields p refl q refl in
    same_section_next name (Some label) from e (same_entries t (entries_too (after_section e) v))

pub one_derivation : OneDerivation
one_derivation bytes one other (ts, p, es) (us, q, ds) = same_entries es (entries_too (same_tokens p q) ds)

same_seen : {one other : File} {es ds : List Entry} → es ≡ ds → HasEntries one es → HasEntries other ds → (items_of one ≡ items_of other) × (one.places ≡ other.places)
same_seen {one} {other} {es} {ds} e p q =
    (p.items ∙ ap told_items e ∙ sym q.items, p.places ∙ ap (λ entries. map (λ entry. entry.span) entries) e ∙ sym q.places)

pub one_tree : OneTreeForBytes
one_tree bytes one other (es, p, i) (ds, q, j) = same_seen (one_derivation bytes es ds p.derived q.derived) i j
