-- A place is nested in no more brackets and operators than there are bytes before it.
use Rattle.std.proofs.Common.{◌≡◌, ℕ, ◌<◌, ◌≤◌, ◌-◌, ◌+◌, Bool, true, false, List, [], ◌∷◌, ◌++◌, length, refl, sym, subst, arith, map, if◌then◌else◌}
use Rattle.std.specs.Prelude.{nat_lt, nat_le, ⊤}
use Rattle.std.proofs.lemmas.Bool.Decides.{nat_tests}
use Rattle.std.specs.Option.{unwrap_or}
use Rattle.std.specs.declared.option.Option.{Option}
use Rattle.std.specs.declared.option.Option.TheVariants.{None, Some}
use Rattle.opam_names.proofs.Bytes.{both_left}
use Rattle.syntax_trees.specs.declared.token.Token.{Token}
use Rattle.syntax_trees.specs.declared.token.Token.TheVariants.{Flag, Int, Text, Plain, Scoped}
use Rattle.syntax_trees.specs.declared.tree.Node.{Node}
use Rattle.syntax_trees.specs.declared.tree.Span.{Span}
use Rattle.syntax_trees.specs.declared.tree.Value.{Value, roll-Value}
use Rattle.syntax_trees.specs.declared.tree.Value.TheOpen.{Value-F}
use Rattle.syntax_trees.specs.declared.tree.Value.TheFolds.{fold-Value, map-Value}
use Rattle.syntax_trees.specs.Tokens.{Placed}
use Rattle.syntax_trees.specs.Grammar.{Level, atom_of, last_span, all_of, any_of, Spells, atom, list, group, bare, braced, pre_relation, alone, relation, no_prefix, negation, definedness, conjunction, disjunction, no_update, update, AreValues, no_value, value, AreConjuncts, last_conjunct, conjunct, AreDisjuncts, last_disjunct, disjunct}
use Rattle.syntax_trees.specs.Files.{Entry, AreFields, no_field, field, AreEntries, no_entry, field_next, section_next, labelled_next}
use Rattle.syntax_trees.specs.Nesting.{first_of, first_among, deeper, layer_around, node_around, around, contents_around, nesting_at, is_in}
use Rattle.syntax_trees.specs.Faults.{NestsAt, IsNowhereDeep}
use Rattle.syntax_trees.proofs.Folds.{node_at, fold_node}
use Rattle.syntax_trees.proofs.Spanned.{InOrder, in_order, lies}

-- what is found begins at this place or later, and each bracket before the place asked for takes a byte
abbrev Bounded : ℕ → ℕ → Option ℕ → Type 0
Bounded place from None = ⊤
Bounded place from (Some n) = from + n ≤ place

bounded_sooner : (place m n : ℕ) (o : Option ℕ) → m ≤ n → Bounded place n o → Bounded place m o
bounded_sooner place m n None l b = tt
bounded_sooner place m n (Some k) l b = omega arith

bounded_first : (place from : ℕ) (o p : Option ℕ) → Bounded place from o → Bounded place from p → Bounded place from (first_of o p)
bounded_first place from None p b c = c
bounded_first place from (Some k) p b c = b

bounded_deeper : (place from next : ℕ) (o : Option ℕ) → from < next → Bounded place next o → Bounded place from (deeper o)
bounded_deeper place from next None l b = tt
bounded_deeper place from next (Some k) l b = omega arith

bounded_if : (place from : ℕ) (c : Bool) (o : Option ℕ) → (c ≡ true → from ≤ place) → Bounded place from o
    → Bounded place from (if c then first_of o (Some 0) else None)
bounded_if place from false o l b = tt
bounded_if place from true None l b = let m = l refl in omega arith
bounded_if place from true (Some k) l b = b

begins_before : (place : ℕ) (span : Span) → is_in place span ≡ true → span.start ≤ place
begins_before place span h = let e = both_left (nat_le span.start place) (nat_lt place span.end) h in grind (arith, nat_tests)

-- what the parts of a value say of a place
abbrev pub parts_around : ℕ → Value-F Value Node → Option ℕ
parts_around place shape =
    layer_around (map-Value Value Node (Option ℕ) (Option ℕ) (fold-Value (Option ℕ) (Option ℕ) layer_around (node_around place)) (around place) shape)

pub around_at : (place : ℕ) (shape : Value-F Value Node) (span : Span) → around place (node_at shape span)
    ≡ (if is_in place span then first_of (parts_around place shape) (Some 0) else None)
around_at place = fold_node (Option ℕ) (Option ℕ) layer_around (node_around place)

bounded_node : (place : ℕ) (shape : Value-F Value Node) (span : Span) → Bounded place span.start (parts_around place shape)
    → Bounded place span.start (around place (node_at shape span))
bounded_node place shape span b =
    subst (Bounded place span.start) (sym (around_at place shape span))
    (bounded_if place span.start (is_in place span) (parts_around place shape) (begins_before place span) b)

the_same : {v w : Value} → Some v ≡ Some w → v ≡ w
the_same e = cc

none_some : {A B : Type 0} {x : A} → None ≡ Some x → B
none_some e = absurd cc

bounded_shape : (place : ℕ) (shape : Value-F Value Node) (v : Value) (span : Span) → Some (roll-Value shape) ≡ Some v
    → Bounded place span.start (parts_around place shape) → Bounded place span.start (around place (record { value = v; span = span }))
bounded_shape place shape v span e b =
    subst (λ w. Bounded place span.start (around place (record { value = w; span = span }))) (the_same e) (bounded_node place shape span b)

bounded_atom : (place : ℕ) (token : Token) (v : Value) (span : Span) → atom_of token ≡ Some v
    → Bounded place span.start (around place (record { value = v; span = span }))
bounded_atom place (Flag flag) v span e = bounded_shape place (Value-F.Flag flag) v span e tt
bounded_atom place (Int number) v span e = bounded_shape place (Value-F.Int number) v span e tt
bounded_atom place (Text bytes) v span e = bounded_shape place (Value-F.Text bytes) v span e tt
bounded_atom place (Plain name) v span e = bounded_shape place (Value-F.Ident (record { scope = None; name = name })) v span e tt
bounded_atom place (Scoped scope name) v span e = bounded_shape place (Value-F.Ident (record { scope = Some scope; name = name })) v span e tt
bounded_atom place token v span e = none_some e

abbrev among : ℕ → List Node → Option ℕ
among place nodes = first_among (map (around place) nodes)

-- the head of several parts, and the others
record PartsBounded (place from : ℕ) (head : Node) (more : List Node) : Type 0 where
  first : Bounded place from (around place head)
  others : Bounded place from (among place more)

bounded_all : (place : ℕ) (head : Node) (more : List Node) → PartsBounded place head.span.start head more
    → Bounded place (all_of head more).span.start (around place (all_of head more))
bounded_all place head [] b = b.first
bounded_all place head (next ∷ more) b =
    bounded_node place (Value-F.And (head ∷ next ∷ more)) (record { start = head.span.start; end = (last_span next more).end })
    (bounded_first place head.span.start (around place head) (among place (next ∷ more)) b.first b.others)

bounded_any : (place : ℕ) (head : Node) (more : List Node) → PartsBounded place head.span.start head more
    → Bounded place (any_of head more).span.start (around place (any_of head more))
bounded_any place head [] b = b.first
bounded_any place head (next ∷ more) b =
    bounded_node place (Value-F.Or (head ∷ next ∷ more)) (record { start = head.span.start; end = (last_span next more).end })
    (bounded_first place head.span.start (around place head) (among place (next ∷ more)) b.first b.others)

conjuncts_from : {tokens : List Placed} {head : Node} {more : List Node} {rest : List Placed} → AreConjuncts tokens head more rest → (total from : ℕ)
    → InOrder total from tokens → from ≤ head.span.start
conjuncts_from (last_conjunct p) total at o = (lies p total at o).from
conjuncts_from (conjunct p q) total at o = (lies p total at o).from

disjuncts_from : {tokens : List Placed} {head : Node} {more : List Node} {rest : List Placed} → AreDisjuncts tokens head more rest → (total from : ℕ)
    → InOrder total from tokens → from ≤ head.span.start
disjuncts_from (last_disjunct p) total at o = (lies p total at o).from
disjuncts_from (disjunct p q) total at o = (lies p total at o).from

mutual
  bounded : {level : Level} {tokens : List Placed} {n : Node} {rest : List Placed} → Spells level tokens n rest → (total from place : ℕ)
      → InOrder total from tokens → Bounded place n.span.start (around place n)
  bounded (atom {token = token} {value = v} {span = span} e) total at place o = bounded_atom place token v span e
  bounded (list {from = from} {to = to} {nodes = nodes} p) total at place o =
      bounded_node place (Value-F.List nodes) (record { start = from.start; end = to.end })
      (bounded_deeper place from.start from.end (among place nodes) o.1 (values_bounded p total from.end place o.2))
  bounded (group {from = from} {to = to} {nodes = nodes} p) total at place o =
      bounded_node place (Value-F.Group nodes) (record { start = from.start; end = to.end })
      (bounded_deeper place from.start from.end (among place nodes) o.1 (values_bounded p total from.end place o.2))
  bounded (bare p) total at place o = bounded p total at place o
  bounded (braced {from = from} {to = to} {value = v} {nodes = nodes} p q) total at place o =
      let a = lies p total at o in
      let b = a.some in let c = a.after.0 in let d = a.after.1 in
      bounded_node place (Value-F.Braced v nodes) (record { start = v.span.start; end = to.end })
      (bounded_first place v.span.start (around place v) (deeper (among place nodes)) (bounded p total at place o)
      (bounded_deeper place v.span.start from.end (among place nodes) (omega arith) (values_bounded q total from.end place a.after.2)))
  bounded (pre_relation {op = op} {from = from} {right = right} p) total at place o =
      let a = lies p total from.end o.2 in
      let b = a.from in let c = o.1 in
      bounded_node place (Value-F.PreRel op right) (record { start = from.start; end = right.span.end })
      (bounded_sooner place from.start right.span.start (around place right) (omega arith) (bounded p total from.end place o.2))
  bounded (alone p h) total at place o = bounded p total at place o
  bounded (relation {op = op} {at = sign} {left = left} {right = right} p q) total at place o =
      let a = lies p total at o in
      let b = lies q total sign.end a.after.2 in
      let c = a.some in let d = a.after.0 in let e = a.after.1 in let f = b.from in
      bounded_node place (Value-F.Rel op left right) (record { start = left.span.start; end = right.span.end })
      (bounded_first place left.span.start (around place left) (around place right) (bounded p total at place o)
      (bounded_sooner place left.span.start right.span.start (around place right) (omega arith) (bounded q total sign.end place a.after.2)))
  bounded (no_prefix p) total at place o = bounded p total at place o
  bounded (negation {from = from} {value = v} p) total at place o =
      let a = lies p total from.end o.2 in
      let b = a.from in let c = o.1 in
      bounded_node place (Value-F.Not v) (record { start = from.start; end = v.span.end })
      (bounded_deeper place from.start v.span.start (around place v) (omega arith) (bounded p total from.end place o.2))
  bounded (definedness {from = from} {value = v} p) total at place o =
      let a = lies p total from.end o.2 in
      let b = a.from in let c = o.1 in
      bounded_node place (Value-F.Defined v) (record { start = from.start; end = v.span.end })
      (bounded_deeper place from.start v.span.start (around place v) (omega arith) (bounded p total from.end place o.2))
  bounded (conjunction {first = head} {more = more} p) total at place o = bounded_all place head more (conjuncts_bounded p total at place o)
  bounded (disjunction {first = head} {more = more} p) total at place o = bounded_any place head more (disjuncts_bounded p total at place o)
  bounded (no_update p) total at place o = bounded p total at place o
  bounded (update {op = op} {at = sign} {left = left} {right = right} p q) total at place o =
      let a = lies p total at o in
      let b = lies q total sign.end a.after.2 in
      let c = a.some in let d = a.after.0 in let e = a.after.1 in let f = b.from in
      bounded_node place (Value-F.Env op left right) (record { start = left.span.start; end = right.span.end })
      (bounded_first place left.span.start (around place left) (around place right) (bounded p total at place o)
      (bounded_sooner place left.span.start right.span.start (around place right) (omega arith) (bounded q total sign.end place a.after.2)))

  values_bounded : {tokens : List Placed} {nodes : List Node} {rest : List Placed} → AreValues tokens nodes rest → (total from place : ℕ)
      → InOrder total from tokens → Bounded place from (among place nodes)
  values_bounded no_value total at place o = tt
  values_bounded (value {first = head} {more = more} p q) total at place o =
      let a = lies p total at o in
      let b = a.from in let c = a.some in
      bounded_first place at (around place head) (among place more)
      (bounded_sooner place at head.span.start (around place head) b (bounded p total at place o))
      (bounded_sooner place at head.span.end (among place more) (omega arith) (values_bounded q total head.span.end place a.after))

  conjuncts_bounded : {tokens : List Placed} {head : Node} {more : List Node} {rest : List Placed} → AreConjuncts tokens head more rest
      → (total from place : ℕ) → InOrder total from tokens → PartsBounded place head.span.start head more
  conjuncts_bounded (last_conjunct p) total at place o = record { first = bounded p total at place o; others = tt }
  conjuncts_bounded (conjunct {at = sign} {first = head} {next = next} {more = more} p q) total at place o =
      let a = lies p total at o in
      let b = conjuncts_bounded q total sign.end place a.after.2 in
      let n = conjuncts_from q total sign.end a.after.2 in
      let c = a.some in let d = a.after.0 in let e = a.after.1 in
      record {
        first = bounded p total at place o;
        others = bounded_sooner place head.span.start next.span.start (among place (next ∷ more)) (omega arith)
            (bounded_first place next.span.start (around place next) (among place more) b.first b.others);
      }

  disjuncts_bounded : {tokens : List Placed} {head : Node} {more : List Node} {rest : List Placed} → AreDisjuncts tokens head more rest
      → (total from place : ℕ) → InOrder total from tokens → PartsBounded place head.span.start head more
  disjuncts_bounded (last_disjunct p) total at place o = record { first = bounded p total at place o; others = tt }
  disjuncts_bounded (disjunct {at = sign} {first = head} {next = next} {more = more} p q) total at place o =
      let a = lies p total at o in
      let b = disjuncts_bounded q total sign.end place a.after.2 in
      let n = disjuncts_from q total sign.end a.after.2 in
      let c = a.some in let d = a.after.0 in let e = a.after.1 in
      record {
        first = bounded p total at place o;
        others = bounded_sooner place head.span.start next.span.start (among place (next ∷ more)) (omega arith)
            (bounded_first place next.span.start (around place next) (among place more) b.first b.others);
      }

fields_bounded : {tokens : List Placed} {fields : List (List ℕ × Node)} {places : List ℕ} {rest : List Placed} → AreFields tokens fields places rest
    → (total from place : ℕ) → InOrder total from tokens → Bounded place (from + 2) (first_among (map (λ f. around place f.1) fields))
fields_bounded no_field total at place o = tt
fields_bounded (field {at = sign} {value = v} {fields = fields} p q) total at place o =
    let a = lies p total sign.end o.2.2 in
    let b = o.0 in let c = o.1 in let d = o.2.0 in let e = o.2.1 in let f = a.from in let g = a.some in
    bounded_first place (at + 2) (around place v) (first_among (map (λ f. around place f.1) fields))
    (bounded_sooner place (at + 2) v.span.start (around place v) (omega arith) (bounded p total sign.end place o.2.2))
    (bounded_sooner place (at + 2) (v.span.end + 2) (first_among (map (λ f. around place f.1) fields)) (omega arith) (fields_bounded q total v.span.end place a.after))

fields_after : {tokens : List Placed} {fields : List (List ℕ × Node)} {places : List ℕ} {to : Placed} {rest : List Placed} → AreFields tokens fields places (to ∷ rest)
    → (total from : ℕ) → InOrder total from tokens → (next : ℕ) × InOrder total next (to ∷ rest)
fields_after no_field total at o = (at, o)
fields_after (field {at = sign} {value = v} p q) total at o = fields_after q total v.span.end (lies p total sign.end o.2.2).after

abbrev in_entries : ℕ → List Entry → Option ℕ
in_entries place entries = first_among (map (λ entry. contents_around place entry.contents) entries)

bounded_section : (place next : ℕ) (o p : Option ℕ) → 2 < next → Bounded place next o → Bounded place 2 p → Bounded place 2 (first_of (deeper o) p)
bounded_section place next o p l b c = bounded_first place 2 (deeper o) p (bounded_deeper place 2 next o l b) c

entries_bounded : {tokens : List Placed} {entries : List Entry} → AreEntries tokens entries → (total from place : ℕ) → InOrder total from tokens
    → Bounded place 2 (in_entries place entries)
entries_bounded no_entry total at place o = tt
entries_bounded (field_next {at = sign} {value = v} {entries = entries} p q) total at place o =
    let a = lies p total sign.end o.2.2 in
    let b = o.0 in let c = o.1 in let d = o.2.0 in let e = o.2.1 in let f = a.from in
    bounded_first place 2 (around place v) (in_entries place entries)
    (bounded_sooner place 2 v.span.start (around place v) (omega arith) (bounded p total sign.end place o.2.2))
    (entries_bounded q total v.span.end place a.after)
entries_bounded (section_next {at = sign} {to = to} {fields = fields} {entries = entries} p q) total at place o =
    let b = o.1 in let c = o.2.0 in let d = o.2.1 in
    let e = fields_after p total sign.end o.2.2 in
    bounded_section place (sign.end + 2) (first_among (map (λ f. around place f.1) fields)) (in_entries place entries) (omega arith)
    (fields_bounded p total sign.end place o.2.2) (entries_bounded q total to.end place e.1.2)
entries_bounded (labelled_next {at = sign} {to = to} {fields = fields} {entries = entries} p q) total at place o =
    let b = o.1 in let c = o.2.0 in let d = o.2.1 in let f = o.2.2.0 in let g = o.2.2.1 in
    let e = fields_after p total sign.end o.2.2.2 in
    bounded_section place (sign.end + 2) (first_among (map (λ f. around place f.1) fields)) (in_entries place entries) (omega arith)
    (fields_bounded p total sign.end place o.2.2.2) (entries_bounded q total to.end place e.1.2)

bounded_number : (place : ℕ) (o : Option ℕ) → Bounded place 2 o → 0 < unwrap_or o 0 → unwrap_or o 0 + 2 ≤ place
bounded_number place None b l = absurd (omega arith)
bounded_number place (Some n) b l = omega arith

-- a field has a name and a colon before its value
pub nesting_bounded : (total place : ℕ) (tokens : List Placed) (entries : List Entry) → InOrder total 0 tokens → AreEntries tokens entries
    → 0 < nesting_at place entries → nesting_at place entries + 2 ≤ place
nesting_bounded total place tokens entries o p = bounded_number place (in_entries place entries) (entries_bounded p total 0 place o)

pub not_so_soon : (bytes : List ℕ) (place : ℕ) → NestsAt bytes place → 66 ≤ place
not_so_soon bytes place n =
    let total = length (bytes ++ n.more) in
    let o : InOrder total (total - total) n.tokens = in_order n.spelled (omega arith) in
    let c = n.nested in
    let b = nesting_bounded total place n.tokens n.entries (subst (λ z. InOrder total z n.tokens) (omega arith) o) n.derived (omega arith) in
    omega arith

-- a short text is nowhere too deep
pub short_is_shallow : (bytes : List ℕ) → length bytes ≤ 64 → IsNowhereDeep bytes
short_is_shallow bytes l place d = let a = not_so_soon _ place d.nests in let b = d.within in omega arith
