-- The items of a file lie within its bytes.
use Rattle.std.proofs.Common.{◌≡◌, ℕ, ◌<◌, ◌≤◌, ◌-◌, Bool, true, ◌&&◌, List, [], ◌∷◌, length, refl, ap, ◌∙◌, arith, map}
use Rattle.std.specs.List.{list_all}
use Rattle.std.specs.declared.option.Option.{Option}
use Rattle.std.specs.declared.option.Option.TheVariants.{None, Some}
use Rattle.opam_names.proofs.Bytes.{both_left, both_right}
use Rattle.syntax_trees.specs.declared.token.Token.TheVariants.{CloseBraces}
use Rattle.syntax_trees.specs.declared.tree.Node.{Node}
use Rattle.syntax_trees.specs.declared.tree.Span.{Span}
use Rattle.syntax_trees.specs.Tokens.{Placed, placed}
use Rattle.syntax_trees.specs.Files.{Entry, field_entry, section_entry, AreFields, no_field, field, AreEntries, no_entry, field_next, section_next, labelled_next}
use Rattle.syntax_trees.specs.Spans.{span_within, within, contents_within}
use Rattle.syntax_trees.specs.Trees.{told_items}
use Rattle.syntax_trees.specs.Laws.{SpansAreWithin}
use Rattle.syntax_trees.proofs.Spanned.{InOrder, order_within, in_order, span_is_within, both, Lies, lies}

abbrev field_within : ℕ → List ℕ × Node → Bool
field_within total f = within total f.1

abbrev entry_within : ℕ → Entry → Bool
entry_within total entry = span_within total entry.span && contents_within total entry.contents

record FieldsLie (total place : ℕ) (fields : List (List ℕ × Node)) (rest : List Placed) : Type 0 where
  inside : list_all (field_within total) fields ≡ true
  next : ℕ
  later : place ≤ next
  after : InOrder total next rest

fields_lie : {tokens : List Placed} {fields : List (List ℕ × Node)} {places : List ℕ} {rest : List Placed} → AreFields tokens fields places rest
    → (total place : ℕ) → InOrder total place tokens → FieldsLie total place fields rest
fields_lie no_field total place o = record { inside = refl; next = place; later = omega arith; after = o }
fields_lie (field {at = at} {value = v} {fields = fields} p q) total place o =
    let a = lies p total at.end o.2.2 in
    let b = fields_lie q total v.span.end a.after in
    let c = o.0 in let d = o.1 in let e = o.2.0 in let f = o.2.1 in let g = a.from in let h = a.some in let i = b.later in
    record { inside = both (within total v) (list_all (field_within total) fields) a.inside b.inside; next = b.next; later = omega arith; after = b.after }

abbrev EntriesLie : ℕ → List Entry → Type 0
EntriesLie total entries = list_all (entry_within total) entries ≡ true

field_lies : (total : ℕ) (name : List ℕ) (from at : Span) (v : Node) (rest : List Placed) (entries : List Entry) → from.start < from.end → from.end ≤ at.start
    → at.start < at.end → Lies total at.end v rest → EntriesLie total entries → EntriesLie total (field_entry name from v ∷ entries)
field_lies total name from at v rest entries k l m p q =
    let a = p.from in let b = p.some in
    let s : span_within total (record { start = from.start; end = v.span.end }) ≡ true =
    span_is_within total (record { start = from.start; end = v.span.end }) (omega arith) (order_within total v.span.end rest p.after) in
    both (entry_within total (field_entry name from v)) (list_all (entry_within total) entries)
    (both (span_within total (record { start = from.start; end = v.span.end })) (within total v) s p.inside) q

section_lies : (total : ℕ) (name : List ℕ) (label : Option (List ℕ)) (from at to : Span) (fields : List (List ℕ × Node)) (places : List ℕ) (rest : List Placed) (entries : List Entry)
    → from.start < at.end → FieldsLie total at.end fields (placed CloseBraces to ∷ rest) → EntriesLie total entries
    → EntriesLie total (section_entry name label from fields places to ∷ entries)
section_lies total name label from at to fields places rest entries l p q =
    let a = p.later in let b = p.after.0 in let c = p.after.1 in
    let s : span_within total (record { start = from.start; end = to.end }) ≡ true =
    span_is_within total (record { start = from.start; end = to.end }) (omega arith) (order_within total to.end rest p.after.2) in
    both (entry_within total (section_entry name label from fields places to)) (list_all (entry_within total) entries)
    (both (span_within total (record { start = from.start; end = to.end })) (list_all (field_within total) fields) s p.inside) q

entries_lie : {tokens : List Placed} {entries : List Entry} → AreEntries tokens entries → (total place : ℕ) → InOrder total place tokens
    → EntriesLie total entries
entries_lie no_entry total place o = refl
entries_lie (field_next {name = name} {from = from} {at = at} {between = between} {value = v} {entries = entries} p q) total place o =
    let a = lies p total at.end o.2.2 in
    field_lies total name from at v between entries o.1 o.2.0 o.2.1 a (entries_lie q total v.span.end a.after)
entries_lie (section_next {name = name} {from = from} {at = at} {to = to} {between = between} {fields = fields} {places = places} {entries = entries} p q) total place o =
    let a = fields_lie p total at.end o.2.2 in
    let b = o.1 in let c = o.2.0 in let d = o.2.1 in
    section_lies total name None from at to fields places between entries (omega arith) a (entries_lie q total to.end a.after.2)
entries_lie (labelled_next {name = name} {label = label} {from = from} {by = by} {at = at} {to = to} {between = between} {fields = fields} {places = places} {entries = entries} p q) total place o =
    let a = fields_lie p total at.end o.2.2.2 in
    let b = o.1 in let c = o.2.0 in let d = o.2.1 in let e = o.2.2.0 in let f = o.2.2.1 in
    section_lies total name (Some label) from at to fields places between entries (omega arith) a (entries_lie q total to.end a.after.2)

told_within : (total : ℕ) (entries : List Entry) → EntriesLie total entries → list_all (λ item. contents_within total item.1) (told_items entries) ≡ true
told_within total [] h = refl
told_within total (entry ∷ entries) h =
    let now = both_left (entry_within total entry) (list_all (entry_within total) entries) h in
    let later = both_right (entry_within total entry) (list_all (entry_within total) entries) h in
    both (contents_within total entry.contents) (list_all (λ item. contents_within total item.1) (told_items entries))
    (both_right (span_within total entry.span) (contents_within total entry.contents) now) (told_within total entries later)

spans_within : (total : ℕ) (entries : List Entry) → EntriesLie total entries → list_all (span_within total) (map (λ entry. entry.span) entries) ≡ true
spans_within total [] h = refl
spans_within total (entry ∷ entries) h =
    let now = both_left (entry_within total entry) (list_all (entry_within total) entries) h in
    let later = both_right (entry_within total entry) (list_all (entry_within total) entries) h in
    both (span_within total entry.span) (list_all (span_within total) (map (λ entry. entry.span) entries))
    (both_left (span_within total entry.span) (contents_within total entry.contents) now) (spans_within total entries later)

pub spans_are_within : SpansAreWithin
spans_are_within bytes file (entries, p, i) =
    let n = length bytes in
    let o : InOrder n (n - n) p.derived.0 = in_order p.derived.1 (omega arith) in
    let e = entries_lie p.derived.2 n (n - n) o in (
      ap (list_all (λ item. contents_within n item.1)) i.items ∙ told_within n entries e,
      ap (list_all (span_within n)) i.places ∙ spans_within n entries e,
    )
