-- Tokens stand one after another within the bytes, and so do the nodes that they spell.
use Rattle.std.proofs.Common.{◌≡◌, ℕ, ◌<◌, ◌≤◌, ◌-◌, Bool, true, false, ◌&&◌, List, [], ◌∷◌, length, refl, ◌∙◌, subst, arith, map}
use Rattle.std.proofs.lemmas.Bool.Decides.{nat_tests}
use Rattle.std.specs.List.{list_all}
use Rattle.opam_names.proofs.Bytes.{both_left, both_right}
use Rattle.std.specs.declared.option.Option.TheVariants.{None, Some}
use Rattle.syntax_trees.specs.declared.token.Token.{Token}
use Rattle.syntax_trees.specs.declared.token.Token.TheVariants.{Flag, Int, Text, Plain, Scoped, CloseList, OpenBraces, CloseBraces, CloseGroup, Relation, Update}
use Rattle.syntax_trees.specs.declared.tree.Node.{Node}
use Rattle.syntax_trees.specs.declared.tree.Span.{Span}
use Rattle.syntax_trees.specs.declared.tree.Value.{Value, roll-Value}
use Rattle.syntax_trees.specs.declared.tree.Value.TheOpen.{Value-F}
use Rattle.syntax_trees.specs.declared.tree.Value.TheFolds.{fold-Value, map-Value}
use Rattle.syntax_trees.specs.Tokens.{Placed, placed, span_between, AreTokens, ends, gap, single, text}
use Rattle.syntax_trees.specs.Grammar.{Level, atom_of, node, last_span, all_of, any_of, Spells, atom, list, group, bare, braced, pre_relation, alone, relation, no_prefix, negation, definedness, conjunction, disjunction, no_update, update, AreValues, no_value, value, AreConjuncts, last_conjunct, conjunct, AreDisjuncts, last_disjunct, disjunct}
use Rattle.syntax_trees.specs.Spans.{span_within, parts_within, node_within, within}
use Rattle.syntax_trees.proofs.Folds.{node_at, fold_node}
use Rattle.syntax_trees.proofs.Shorter.{first_shrinks, after_first, inside_shrinks}

-- the tokens stand one after another from this place on, none of them empty, and end within so many bytes
abbrev pub InOrder : ℕ → ℕ → List Placed → Type 0
InOrder total place [] = place ≤ total
InOrder total place (placed token span ∷ tokens) = (place ≤ span.start) × (span.start < span.end) × InOrder total span.end tokens

pub sooner : (total m n : ℕ) (tokens : List Placed) → m ≤ n → InOrder total n tokens → InOrder total m tokens
sooner total m n [] l p = omega (arith, l, p)
sooner total m n (placed token span ∷ tokens) l p = let q = p.0 in (omega arith, p.1, p.2)

pub order_within : (total place : ℕ) (tokens : List Placed) → InOrder total place tokens → place ≤ total
order_within total place [] p = p
order_within total place (placed token span ∷ tokens) p =
    let a = p.0 in let b = p.1 in let c = order_within total span.end tokens p.2 in omega arith

-- a token from a place on, and then others
in_order_first : (total : ℕ) (token : Token) (bytes rest : List ℕ) (tokens : List Placed) → length rest < length bytes → length bytes ≤ total
    → InOrder total (total - length rest) tokens → InOrder total (total - length bytes) (placed token (span_between total bytes rest) ∷ tokens)
in_order_first total token bytes rest tokens l m p = (omega arith, omega arith, p)

pub in_order : {total : ℕ} {bytes : List ℕ} {tokens : List Placed} → AreTokens total bytes tokens → length bytes ≤ total
    → InOrder total (total - length bytes) tokens
in_order (ends e) m = omega arith
in_order {total} {bytes} {tokens} (gap {rest = rest} e p) m =
    let l : length rest < length bytes = after_first (length bytes) e (first_shrinks bytes) in
    sooner total (total - length bytes) (total - length rest) tokens (omega arith) (in_order p (omega arith))
in_order {total} {bytes} (single {rest = rest} {token = token} {tokens = tokens} e p) m =
    let l : length rest < length bytes = after_first (length bytes) e (first_shrinks bytes) in
    in_order_first total token bytes rest tokens l m (in_order p (omega arith))
in_order {total} {bytes} (text {inside = inside} {text = t} {rest = rest} {tokens = tokens} e i p) m =
    let k : length inside < length bytes = after_first (length bytes) e (first_shrinks bytes) in
    let j = inside_shrinks i in
    let l : length rest < length bytes = omega arith in
    in_order_first total (Text t) bytes rest tokens l m (in_order p (omega arith))

-- a node is within where its span and its parts are
within_at : (total : ℕ) (shape : Value-F Value Node) (span : Span) → within total (node_at shape span)
    ≡ (span_within total span && parts_within (map-Value Value Node Bool Bool (fold-Value Bool Bool parts_within (node_within total)) (within total) shape))
within_at total = fold_node Bool Bool parts_within (node_within total)

-- whether the parts of a value are within
abbrev parts_in : ℕ → Value-F Value Node → Bool
parts_in total shape = parts_within (map-Value Value Node Bool Bool (fold-Value Bool Bool parts_within (node_within total)) (within total) shape)

pub span_is_within : (total : ℕ) (span : Span) → span.start < span.end → span.end ≤ total → span_within total span ≡ true
span_is_within total span l m = grind (arith, nat_tests)

pub both : (x y : Bool) → x ≡ true → y ≡ true → (x && y) ≡ true
both true true h k = refl
both true false h k = k
both false y h k = absurd cc

node_is_within : (total : ℕ) (shape : Value-F Value Node) (span : Span) → span.start < span.end → span.end ≤ total → parts_in total shape ≡ true
    → within total (node_at shape span) ≡ true
node_is_within total shape span l m h = within_at total shape span ∙ both (span_within total span) (parts_in total shape) (span_is_within total span l m) h

all_parts : (total : ℕ) (nodes : List Node) → list_all (within total) nodes ≡ true → list_all (λ w. w) (map (within total) nodes) ≡ true
all_parts total [] h = refl
all_parts total (n ∷ nodes) h =
    both (within total n) (list_all (λ w. w) (map (within total) nodes)) (both_left (within total n) (list_all (within total) nodes) h)
    (all_parts total nodes (both_right (within total n) (list_all (within total) nodes) h))

-- a node that is spelled from a place on: it is not empty, it is within with all of its parts, and the rest stands after it
pub record Lies (total place : ℕ) (n : Node) (rest : List Placed) : Type 0 where
  pub from : place ≤ n.span.start
  pub some : n.span.start < n.span.end
  pub inside : within total n ≡ true
  pub after : InOrder total n.span.end rest

pub record AllLie (total place : ℕ) (nodes : List Node) (rest : List Placed) : Type 0 where
  pub inside : list_all (within total) nodes ≡ true
  pub next : ℕ
  pub later : place ≤ next
  pub after : InOrder total next rest

pub record PartsLie (total place : ℕ) (head : Node) (more : List Node) (rest : List Placed) : Type 0 where
  pub from : place ≤ head.span.start
  pub some : head.span.start < (last_span head more).end
  pub inside : within total head ≡ true
  pub others : list_all (within total) more ≡ true
  pub after : InOrder total (last_span head more).end rest

made : (total place : ℕ) (shape : Value-F Value Node) (from to : Span) (rest : List Placed) → place ≤ from.start → from.start < to.end
    → InOrder total to.end rest → parts_in total shape ≡ true → Lies total place (node shape from to) rest
made total place shape from to rest l m o h = record {
  from = l;
  some = m;
  inside = node_is_within total shape (record { start = from.start; end = to.end }) m (order_within total to.end rest o) h;
  after = o;
}

the_same : {v w : Value} → Some v ≡ Some w → v ≡ w
the_same e = cc

atom_inside : (total : ℕ) (shape : Value-F Value Node) (v : Value) (span : Span) → Some (roll-Value shape) ≡ Some v → span.start < span.end
    → span.end ≤ total → parts_in total shape ≡ true → within total (record { value = v; span = span }) ≡ true
atom_inside total shape v span e l m h =
    subst (λ w. within total (record { value = w; span = span }) ≡ true) (the_same e) (node_is_within total shape span l m h)

none_some : {A B : Type 0} {x : A} → None ≡ Some x → B
none_some e = absurd cc

atom_within : (total : ℕ) (token : Token) (v : Value) (span : Span) → atom_of token ≡ Some v → span.start < span.end → span.end ≤ total
    → within total (record { value = v; span = span }) ≡ true
atom_within total (Flag flag) v span e l m = atom_inside total (Value-F.Flag flag) v span e l m refl
atom_within total (Int number) v span e l m = atom_inside total (Value-F.Int number) v span e l m refl
atom_within total (Text bytes) v span e l m = atom_inside total (Value-F.Text bytes) v span e l m refl
atom_within total (Plain name) v span e l m = atom_inside total (Value-F.Ident (record { scope = None; name = name })) v span e l m refl
atom_within total (Scoped scope name) v span e l m = atom_inside total (Value-F.Ident (record { scope = Some scope; name = name })) v span e l m refl
atom_within total token v span e l m = none_some e

all_lies : (total place : ℕ) (head : Node) (more : List Node) (rest : List Placed) → PartsLie total place head more rest → Lies total place (all_of head more) rest
all_lies total place head [] rest p = record { from = p.from; some = p.some; inside = p.inside; after = p.after }
all_lies total place head (next ∷ more) rest p =
    made total place (Value-F.And (head ∷ next ∷ more)) head.span (last_span next more) rest p.from p.some p.after
    (all_parts total (head ∷ next ∷ more) (both (within total head) (list_all (within total) (next ∷ more)) p.inside p.others))

any_lies : (total place : ℕ) (head : Node) (more : List Node) (rest : List Placed) → PartsLie total place head more rest → Lies total place (any_of head more) rest
any_lies total place head [] rest p = record { from = p.from; some = p.some; inside = p.inside; after = p.after }
any_lies total place head (next ∷ more) rest p =
    made total place (Value-F.Or (head ∷ next ∷ more)) head.span (last_span next more) rest p.from p.some p.after
    (all_parts total (head ∷ next ∷ more) (both (within total head) (list_all (within total) (next ∷ more)) p.inside p.others))

two_lie : (total place : ℕ) (shape : Value-F Value Node) (left right : Node) (token : Token) (at : Span) (more rest : List Placed)
    → Lies total place left (placed token at ∷ more) → Lies total at.end right rest → parts_in total shape ≡ true
    → Lies total place (node shape left.span right.span) rest
two_lie total place shape left right token at more rest p q h =
    let a = p.some in let b = p.after.0 in let c = p.after.1 in let d = q.from in let e = q.some in
    made total place shape left.span right.span rest p.from (omega arith) q.after h

prefix_lies : (total place : ℕ) (shape : Value-F Value Node) (from : Span) (right : Node) (rest : List Placed) → place ≤ from.start → from.start < from.end
    → Lies total from.end right rest → parts_in total shape ≡ true → Lies total place (node shape from right.span) rest
prefix_lies total place shape from right rest l m q h =
    let d = q.from in let e = q.some in
    made total place shape from right.span rest l (omega arith) q.after h

brackets_lie : (total place : ℕ) (shape : Value-F Value Node) (from to : Span) (nodes : List Node) (token : Token) (rest : List Placed)
    → place ≤ from.start → from.start < from.end → AllLie total from.end nodes (placed token to ∷ rest) → parts_in total shape ≡ true
    → Lies total place (node shape from to) rest
brackets_lie total place shape from to nodes token rest l m q h =
    let a = q.later in let b = q.after.0 in let c = q.after.1 in
    made total place shape from to rest l (omega arith) q.after.2 h

braces_lie : (total place : ℕ) (v : Node) (nodes : List Node) (from to : Span) {inner : List Placed} (rest : List Placed)
    → Lies total place v (placed OpenBraces from ∷ inner) → AllLie total from.end nodes (placed CloseBraces to ∷ rest)
    → Lies total place (node (Value-F.Braced v nodes) v.span to) rest
braces_lie total place v nodes from to rest p q =
    let a = p.some in let b = p.after.0 in let c = p.after.1 in let d = q.later in let e = q.after.0 in let f = q.after.1 in
    made total place (Value-F.Braced v nodes) v.span to rest p.from (omega arith) q.after.2
    (both (within total v) (list_all (λ w. w) (map (within total) nodes)) p.inside (all_parts total nodes q.inside))

mutual
  pub lies : {level : Level} {tokens : List Placed} {n : Node} {rest : List Placed} → Spells level tokens n rest → (total place : ℕ)
      → InOrder total place tokens → Lies total place n rest
  lies (atom {token = token} {value = v} {span = span} {rest = rest} e) total place o = record {
    from = o.0;
    some = o.1;
    inside = atom_within total token v span e o.1 (order_within total span.end rest o.2);
    after = o.2;
  }
  lies (list {from = from} {to = to} {rest = rest} {nodes = nodes} p) total place o =
      let a = all_lie p total from.end o.2 in
      brackets_lie total place (Value-F.List nodes) from to nodes CloseList rest o.0 o.1 a (all_parts total nodes a.inside)
  lies (group {from = from} {to = to} {rest = rest} {nodes = nodes} p) total place o =
      let a = all_lie p total from.end o.2 in
      brackets_lie total place (Value-F.Group nodes) from to nodes CloseGroup rest o.0 o.1 a (all_parts total nodes a.inside)
  lies (bare p) total place o = lies p total place o
  lies (braced {from = from} {to = to} {rest = rest} {value = v} {nodes = nodes} p q) total place o =
      let a = lies p total place o in
      let b = all_lie q total from.end a.after.2 in
      braces_lie total place v nodes from to rest a b
  lies (pre_relation {op = op} {from = from} {rest = rest} {right = right} p) total place o =
      let a = lies p total from.end o.2 in prefix_lies total place (Value-F.PreRel op right) from right rest o.0 o.1 a a.inside
  lies (alone p h) total place o = lies p total place o
  lies (relation {op = op} {at = at} {more = more} {rest = rest} {left = left} {right = right} p q) total place o =
      let a = lies p total place o in
      let b = lies q total at.end a.after.2 in
      two_lie total place (Value-F.Rel op left right) left right (Relation op) at more rest a b (both (within total left) (within total right) a.inside b.inside)
  lies (no_prefix p) total place o = lies p total place o
  lies (negation {from = from} {rest = rest} {value = v} p) total place o =
      let a = lies p total from.end o.2 in prefix_lies total place (Value-F.Not v) from v rest o.0 o.1 a a.inside
  lies (definedness {from = from} {rest = rest} {value = v} p) total place o =
      let a = lies p total from.end o.2 in prefix_lies total place (Value-F.Defined v) from v rest o.0 o.1 a a.inside
  lies (conjunction {rest = rest} {first = head} {more = more} p) total place o = all_lies total place head more rest (conjuncts_lie p total place o)
  lies (disjunction {rest = rest} {first = head} {more = more} p) total place o = any_lies total place head more rest (disjuncts_lie p total place o)
  lies (no_update p) total place o = lies p total place o
  lies (update {op = op} {at = at} {more = more} {rest = rest} {left = left} {right = right} p q) total place o =
      let a = lies p total place o in
      let b = lies q total at.end a.after.2 in
      two_lie total place (Value-F.Env op left right) left right (Update op) at more rest a b (both (within total left) (within total right) a.inside b.inside)

  all_lie : {tokens : List Placed} {nodes : List Node} {rest : List Placed} → AreValues tokens nodes rest → (total place : ℕ)
      → InOrder total place tokens → AllLie total place nodes rest
  all_lie no_value total place o = record { inside = refl; next = place; later = omega arith; after = o }
  all_lie (value {first = head} {more = more} p q) total place o =
      let a = lies p total place o in
      let b = all_lie q total head.span.end a.after in
      let c = a.from in let d = a.some in let e = b.later in
      record { inside = both (within total head) (list_all (within total) more) a.inside b.inside; next = b.next; later = omega arith; after = b.after }

  conjuncts_lie : {tokens : List Placed} {head : Node} {more : List Node} {rest : List Placed} → AreConjuncts tokens head more rest → (total place : ℕ)
      → InOrder total place tokens → PartsLie total place head more rest
  conjuncts_lie (last_conjunct p) total place o =
      let a = lies p total place o in record { from = a.from; some = a.some; inside = a.inside; others = refl; after = a.after }
  conjuncts_lie (conjunct {at = at} {first = head} {next = next} {more = more} p q) total place o =
      let a = lies p total place o in
      let b = conjuncts_lie q total at.end a.after.2 in
      let c = a.some in let d = a.after.0 in let e = a.after.1 in let f = b.from in let g = b.some in
      record { from = a.from; some = omega arith; inside = a.inside; others = both (within total next) (list_all (within total) more) b.inside b.others; after = b.after }

  disjuncts_lie : {tokens : List Placed} {head : Node} {more : List Node} {rest : List Placed} → AreDisjuncts tokens head more rest → (total place : ℕ)
      → InOrder total place tokens → PartsLie total place head more rest
  disjuncts_lie (last_disjunct p) total place o =
      let a = lies p total place o in record { from = a.from; some = a.some; inside = a.inside; others = refl; after = a.after }
  disjuncts_lie (disjunct {at = at} {first = head} {next = next} {more = more} p q) total place o =
      let a = lies p total place o in
      let b = disjuncts_lie q total at.end a.after.2 in
      let c = a.some in let d = a.after.0 in let e = a.after.1 in let f = b.from in let g = b.some in
      record { from = a.from; some = omega arith; inside = a.inside; others = both (within total next) (list_all (within total) more) b.inside b.others; after = b.after }
