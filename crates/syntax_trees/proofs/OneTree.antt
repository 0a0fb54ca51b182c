-- Tokens spell at most one tree: what follows a value cannot belong to it, so that two readings of one list of tokens agree.
use Rattle.std.proofs.Common.{◌≡◌, Bool, true, false, List, [], ◌∷◌, refl, sym, subst, ap, ◌∙◌}
use Rattle.std.specs.declared.option.Option.TheVariants.{None, Some}
use Rattle.syntax_trees.specs.declared.token.Token.{Token}
use Rattle.syntax_trees.specs.declared.token.Token.TheVariants.{Flag, Int, Text, Plain, Scoped, OpenList, CloseList, OpenBraces, CloseBraces, OpenGroup, CloseGroup, Relation, Update, And, Or, Not, Defined}
use Rattle.syntax_trees.specs.declared.tree.RelOp.{RelOp}
use Rattle.syntax_trees.specs.declared.tree.EnvOp.{EnvOp}
use Rattle.syntax_trees.specs.declared.tree.Span.{Span}
use Rattle.syntax_trees.specs.declared.tree.Node.{Node}
use Rattle.syntax_trees.specs.declared.tree.Value.{Value}
use Rattle.syntax_trees.specs.declared.tree.Value.TheOpen.{Value-F}
use Rattle.syntax_trees.specs.Tokens.{Placed, placed}
use Rattle.syntax_trees.specs.Parsing.{Follower, Braces, Ampersand, Bar, Assignment, Other, follower, stops_at, stops}
use Rattle.syntax_trees.specs.Grammar.{Level, ValueLevel, OrLevel, AndLevel, UnaryLevel, RelationLevel, BracedLevel, PrimaryLevel, atom_of, node, all_of, any_of, begins_relation, Spells, atom, list, group, bare, braced, pre_relation, alone, relation, no_prefix, negation, definedness, conjunction, disjunction, no_update, update, AreValues, no_value, value, AreConjuncts, last_conjunct, conjunct, AreDisjuncts, last_disjunct, disjunct}

or_stops_at : (f : Follower) → stops_at ValueLevel f ≡ true → stops_at OrLevel f ≡ true
or_stops_at Braces h = h
or_stops_at Ampersand h = h
or_stops_at Bar h = h
or_stops_at Assignment h = refl
or_stops_at Other h = refl

and_stops_at : (f : Follower) → stops_at OrLevel f ≡ true → stops_at AndLevel f ≡ true
and_stops_at Braces h = h
and_stops_at Ampersand h = h
and_stops_at Bar h = refl
and_stops_at Assignment h = refl
and_stops_at Other h = refl

unary_stops_at : (f : Follower) → stops_at AndLevel f ≡ true → stops_at UnaryLevel f ≡ true
unary_stops_at Braces h = h
unary_stops_at Ampersand h = refl
unary_stops_at Bar h = refl
unary_stops_at Assignment h = refl
unary_stops_at Other h = refl

pub or_stops : (tokens : List Placed) → stops ValueLevel tokens ≡ true → stops OrLevel tokens ≡ true
or_stops [] h = refl
or_stops (placed token at ∷ tokens) h = or_stops_at (follower token) h

pub and_stops : (tokens : List Placed) → stops OrLevel tokens ≡ true → stops AndLevel tokens ≡ true
and_stops [] h = refl
and_stops (placed token at ∷ tokens) h = and_stops_at (follower token) h

pub unary_stops : (tokens : List Placed) → stops AndLevel tokens ≡ true → stops UnaryLevel tokens ≡ true
unary_stops [] h = refl
unary_stops (placed token at ∷ tokens) h = unary_stops_at (follower token) h

-- whether a value may begin with the token
abbrev pub begins_value : Token → Bool
begins_value (Flag b) = true
begins_value (Int n) = true
begins_value (Text t) = true
begins_value (Plain n) = true
begins_value (Scoped s n) = true
begins_value OpenList = true
begins_value OpenGroup = true
begins_value (Relation op) = true
begins_value Not = true
begins_value Defined = true
begins_value token = false

abbrev pub begins : List Placed → Bool
begins [] = false
begins (placed token at ∷ tokens) = begins_value token

pub none_some : {A B : Type 0} {x : A} → None ≡ Some x → B
none_some e = absurd cc

atom_begins : (token : Token) {v : Value} → atom_of token ≡ Some v → begins_value token ≡ true
atom_begins (Flag b) e = refl
atom_begins (Int n) e = refl
atom_begins (Text t) e = refl
atom_begins (Plain n) e = refl
atom_begins (Scoped s n) e = refl
atom_begins OpenList e = refl
atom_begins OpenGroup e = refl
atom_begins (Relation op) e = refl
atom_begins Not e = refl
atom_begins Defined e = refl
atom_begins token e = none_some e

mutual
  pub starts : {level : Level} {tokens : List Placed} {n : Node} {rest : List Placed} → Spells level tokens n rest → begins tokens ≡ true
  starts (atom {token} e) = atom_begins token e
  starts (list p) = refl
  starts (group p) = refl
  starts (bare p) = starts p
  starts (braced p q) = starts p
  starts (pre_relation p) = refl
  starts (alone p h) = starts p
  starts (relation p q) = starts p
  starts (no_prefix p) = starts p
  starts (negation p) = refl
  starts (definedness p) = refl
  starts (conjunction p) = conjuncts_start p
  starts (disjunction p) = disjuncts_start p
  starts (no_update p) = starts p
  starts (update p q) = starts p

  pub conjuncts_start : {tokens : List Placed} {n : Node} {more : List Node} {rest : List Placed} → AreConjuncts tokens n more rest → begins tokens ≡ true
  conjuncts_start (last_conjunct p) = starts p
  conjuncts_start (conjunct p q) = starts p

  pub disjuncts_start : {tokens : List Placed} {n : Node} {more : List Node} {rest : List Placed} → AreDisjuncts tokens n more rest → begins tokens ≡ true
  disjuncts_start (last_disjunct p) = starts p
  disjuncts_start (disjunct p q) = starts p

-- no value that is braced, or a relation, begins with these signs
no_relation : {op : RelOp} {at : Span} {tokens : List Placed} {n : Node} {rest : List Placed}
    → Spells PrimaryLevel (placed (Relation op) at ∷ tokens) n rest → ⊥
no_relation (atom e) = none_some e

pub no_relation_braced : {op : RelOp} {at : Span} {tokens : List Placed} {n : Node} {rest : List Placed}
    → Spells BracedLevel (placed (Relation op) at ∷ tokens) n rest → ⊥
no_relation_braced (bare p) = no_relation p
no_relation_braced (braced p q) = no_relation p

no_not : {at : Span} {tokens : List Placed} {n : Node} {rest : List Placed} → Spells PrimaryLevel (placed Not at ∷ tokens) n rest → ⊥
no_not (atom e) = none_some e

no_not_braced : {at : Span} {tokens : List Placed} {n : Node} {rest : List Placed} → Spells BracedLevel (placed Not at ∷ tokens) n rest → ⊥
no_not_braced (bare p) = no_not p
no_not_braced (braced p q) = no_not p

pub no_not_relation : {at : Span} {tokens : List Placed} {n : Node} {rest : List Placed} → Spells RelationLevel (placed Not at ∷ tokens) n rest → ⊥
no_not_relation (alone p h) = no_not_braced p
no_not_relation (relation p q) = no_not_braced p

no_defined : {at : Span} {tokens : List Placed} {n : Node} {rest : List Placed} → Spells PrimaryLevel (placed Defined at ∷ tokens) n rest → ⊥
no_defined (atom e) = none_some e

no_defined_braced : {at : Span} {tokens : List Placed} {n : Node} {rest : List Placed} → Spells BracedLevel (placed Defined at ∷ tokens) n rest → ⊥
no_defined_braced (bare p) = no_defined p
no_defined_braced (braced p q) = no_defined p

pub no_defined_relation : {at : Span} {tokens : List Placed} {n : Node} {rest : List Placed} → Spells RelationLevel (placed Defined at ∷ tokens) n rest → ⊥
no_defined_relation (alone p h) = no_defined_braced p
no_defined_relation (relation p q) = no_defined_braced p

-- what closes a list of values neither begins a value nor goes on with one
abbrev pub closes_values : Token → Bool
closes_values CloseList = true
closes_values CloseGroup = true
closes_values CloseBraces = true
closes_values token = false

abbrev pub closes : List Placed → Bool
closes [] = false
closes (placed token at ∷ tokens) = closes_values token

closer_stops : (token : Token) → closes_values token ≡ true → stops_at ValueLevel (follower token) ≡ true
closer_stops CloseList h = refl
closer_stops CloseGroup h = refl
closer_stops CloseBraces h = refl
closer_stops token h = absurd cc

starter_stops : (token : Token) → begins_value token ≡ true → stops_at ValueLevel (follower token) ≡ true
starter_stops (Flag b) h = refl
starter_stops (Int n) h = refl
starter_stops (Text t) h = refl
starter_stops (Plain n) h = refl
starter_stops (Scoped s n) h = refl
starter_stops OpenList h = refl
starter_stops OpenGroup h = refl
starter_stops (Relation op) h = refl
starter_stops Not h = refl
starter_stops Defined h = refl
starter_stops token h = absurd cc

pub closer_begins_none : (token : Token) → closes_values token ≡ true → begins_value token ≡ true → ⊥
closer_begins_none CloseList h k = cc
closer_begins_none CloseGroup h k = cc
closer_begins_none CloseBraces h k = cc
closer_begins_none token h k = absurd cc

pub closed : (tokens : List Placed) → closes tokens ≡ true → stops ValueLevel tokens ≡ true
closed [] h = refl
closed (placed token at ∷ tokens) h = closer_stops token h

started : (tokens : List Placed) → begins tokens ≡ true → stops ValueLevel tokens ≡ true
started [] h = refl
started (placed token at ∷ tokens) h = starter_stops token h

pub closed_begins_none : (tokens : List Placed) → closes tokens ≡ true → begins tokens ≡ true → ⊥
closed_begins_none [] h k = cc
closed_begins_none (placed token at ∷ tokens) h k = closer_begins_none token h k

pub values_stop : {tokens : List Placed} {nodes : List Node} {rest : List Placed} → AreValues tokens nodes rest → closes rest ≡ true
    → stops ValueLevel tokens ≡ true
values_stop {tokens} no_value h = closed tokens h
values_stop {tokens} (value p q) h = started tokens (starts p)

pub primary_stops : (tokens : List Placed) → stops PrimaryLevel tokens ≡ true
primary_stops [] = refl
primary_stops (placed token at ∷ tokens) = refl

-- what two readings agree in
abbrev pub Same : Node → Node → List Placed → List Placed → Type 0
Same n m r s = (n ≡ m) × (r ≡ s)

same_atom : (token : Token) {v w : Value} {span : Span} {rest : List Placed} → atom_of token ≡ Some v → atom_of token ≡ Some w
    → Same (record { value = v; span = span }) (record { value = w; span = span }) rest rest
same_atom token {v} {w} {span} e f =
    let same : v ≡ w = cc in (ap (λ x. let n : Node = record { value = x; span = span } in n) same, refl)

same_list : (start : Span) {from to : Span} {ns ms : List Node} {r s : List Placed} → (ns ≡ ms) × (placed CloseList from ∷ r ≡ placed CloseList to ∷ s)
    → Same (node (Value-F.List ns) start from) (node (Value-F.List ms) start to) r s
same_list start e = let a = e.0 in let b = e.1 in (cc, cc)

same_group : (start : Span) {from to : Span} {ns ms : List Node} {r s : List Placed} → (ns ≡ ms) × (placed CloseGroup from ∷ r ≡ placed CloseGroup to ∷ s)
    → Same (node (Value-F.Group ns) start from) (node (Value-F.Group ms) start to) r s
same_group start e = let a = e.0 in let b = e.1 in (cc, cc)

same_pre_relation : (op : RelOp) (from : Span) {a b : Node} {r s : List Placed} → Same a b r s
    → Same (node (Value-F.PreRel op a) from a.span) (node (Value-F.PreRel op b) from b.span) r s
same_pre_relation op from e = let f = e.0 in (cc, e.1)

same_not : (from : Span) {a b : Node} {r s : List Placed} → Same a b r s
    → Same (node (Value-F.Not a) from a.span) (node (Value-F.Not b) from b.span) r s
same_not from e = let f = e.0 in (cc, e.1)

same_defined : (from : Span) {a b : Node} {r s : List Placed} → Same a b r s
    → Same (node (Value-F.Defined a) from a.span) (node (Value-F.Defined b) from b.span) r s
same_defined from e = let f = e.0 in (cc, e.1)

same_all : {a b : Node} {ns ms : List Node} {r s : List Placed} → (a ≡ b) × (ns ≡ ms) × (r ≡ s) → Same (all_of a ns) (all_of b ms) r s
same_all e = let f = e.0 in let g = e.1 in (cc, e.2)

same_any : {a b : Node} {ns ms : List Node} {r s : List Placed} → (a ≡ b) × (ns ≡ ms) × (r ≡ s) → Same (any_of a ns) (any_of b ms) r s
same_any e = let f = e.0 in let g = e.1 in (cc, e.2)

-- a reading of equal tokens
pub spells_too : {level : Level} {ts us : List Placed} {n : Node} {r : List Placed} → ts ≡ us → Spells level us n r → Spells level ts n r
spells_too {level} {n = n} {r = r} e p = subst (λ ts. Spells level ts n r) (sym e) p

pub values_too : {ts us : List Placed} {ns : List Node} {r : List Placed} → ts ≡ us → AreValues us ns r → AreValues ts ns r
values_too {ns = ns} {r = r} e p = subst (λ ts. AreValues ts ns r) (sym e) p

pub conjuncts_too : {ts us : List Placed} {n : Node} {ns : List Node} {r : List Placed} → ts ≡ us → AreConjuncts us n ns r → AreConjuncts ts n ns r
conjuncts_too {n = n} {ns = ns} {r = r} e p = subst (λ ts. AreConjuncts ts n ns r) (sym e) p

pub disjuncts_too : {ts us : List Placed} {n : Node} {ns : List Node} {r : List Placed} → ts ≡ us → AreDisjuncts us n ns r → AreDisjuncts ts n ns r
disjuncts_too {n = n} {ns = ns} {r = r} e p = subst (λ ts. AreDisjuncts ts n ns r) (sym e) p

braces_clash : {at : Span} {rest inner : List Placed} {A : Type 0} → stops BracedLevel rest ≡ true → rest ≡ placed OpenBraces at ∷ inner → A
braces_clash {A} h e = let f = ap (stops BracedLevel) (sym e) ∙ h in absurd cc

relation_clash : {op : RelOp} {at : Span} {rest inner : List Placed} {A : Type 0} → begins_relation rest ≡ false
    → rest ≡ placed (Relation op) at ∷ inner → A
relation_clash {A} h e = let f = ap begins_relation (sym e) ∙ h in absurd cc

and_clash : {at : Span} {rest inner : List Placed} {A : Type 0} → stops AndLevel rest ≡ true → rest ≡ placed And at ∷ inner → A
and_clash {A} h e = let f = ap (stops AndLevel) (sym e) ∙ h in absurd cc

or_clash : {at : Span} {rest inner : List Placed} {A : Type 0} → stops OrLevel rest ≡ true → rest ≡ placed Or at ∷ inner → A
or_clash {A} h e = let f = ap (stops OrLevel) (sym e) ∙ h in absurd cc

update_clash : {op : EnvOp} {at : Span} {rest inner : List Placed} {A : Type 0} → stops ValueLevel rest ≡ true
    → rest ≡ placed (Update op) at ∷ inner → A
update_clash {A} h e = let f = ap (stops ValueLevel) (sym e) ∙ h in absurd cc

pub tail_same : {x y : Placed} {r s : List Placed} → (x ∷ r) ≡ (y ∷ s) → r ≡ s
tail_same e = cc

relation_of : {x y : RelOp} {a b : Span} {r s : List Placed} → (placed (Relation x) a ∷ r) ≡ (placed (Relation y) b ∷ s) → x ≡ y
relation_of e = cc

update_of : {x y : EnvOp} {a b : Span} {r s : List Placed} → (placed (Update x) a ∷ r) ≡ (placed (Update y) b ∷ s) → x ≡ y
update_of e = cc

same_rel : {x y : RelOp} {a b c d : Node} → x ≡ y → a ≡ c → b ≡ d
    → node (Value-F.Rel x a b) a.span b.span ≡ node (Value-F.Rel y c d) c.span d.span
same_rel e f g = cc

same_env : {x y : EnvOp} {a b c d : Node} → x ≡ y → a ≡ c → b ≡ d
    → node (Value-F.Env x a b) a.span b.span ≡ node (Value-F.Env y c d) c.span d.span
same_env e f g = cc

same_braced : {from to : Span} {r s : List Placed} {a c : Node} {ns ms : List Node} → a ≡ c → (ns ≡ ms) × (placed CloseBraces from ∷ r ≡ placed CloseBraces to ∷ s)
    → Same (node (Value-F.Braced a ns) a.span from) (node (Value-F.Braced c ms) c.span to) r s
same_braced e f = let g = f.0 in let h = f.1 in (cc, cc)

same_values_more : {a c : Node} {ns ms : List Node} {r s : List Placed} → a ≡ c → (ns ≡ ms) × (r ≡ s) → ((a ∷ ns) ≡ (c ∷ ms)) × (r ≡ s)
same_values_more e f = let g = f.0 in (cc, f.1)

same_parts_more : {a b c d : Node} {ns ms : List Node} {r s : List Placed} → a ≡ c → (b ≡ d) × (ns ≡ ms) × (r ≡ s)
    → (a ≡ c) × ((b ∷ ns) ≡ (d ∷ ms)) × (r ≡ s)
same_parts_more e f = let g = f.0 in let h = f.1 in (e, cc, f.2)

mutual
  pub same : {level : Level} {tokens : List Placed} {n : Node} {r : List Placed} → Spells level tokens n r → stops level r ≡ true
      → {m : Node} {s : List Placed} → Spells level tokens m s → stops level s ≡ true → Same n m r s
  same (atom {token} e) h (atom f) k = same_atom token e f
  same (atom e) h (list q) k = none_some e
  same (atom e) h (group q) k = none_some e
  same (list p) h (atom f) k = none_some f
  same (list {from = from} p) h (list q) k = same_list from (same_values p refl q refl)
  same (group p) h (atom f) k = none_some f
  same (group {from = from} p) h (group q) k = same_group from (same_values p refl q refl)
  same {r = r} (bare p) h {s = s} (bare q) k = same p (primary_stops r) q (primary_stops s)
  same {r = r} (bare p) h (braced q u) k = let e = same p (primary_stops r) q refl in braces_clash h e.1
  same (braced p t) h {s = s} (bare q) k = let e = same p refl q (primary_stops s) in braces_clash k (sym e.1)
  same (braced p t) h (braced q u) k =
      let e = same p refl q refl in
      same_braced e.0 (same_values t refl (values_too (tail_same e.1) u) refl)
  same (pre_relation {op = op} {from = from} p) h (pre_relation q) k = same_pre_relation op from (same p h q k)
  same (pre_relation p) h (alone q a) k = absurd (no_relation_braced q)
  same (pre_relation p) h (relation q r) k = absurd (no_relation_braced q)
  same (alone p a) h (pre_relation q) k = absurd (no_relation_braced p)
  same (alone p a) h (alone q b) k = same p h q k
  same (alone p a) h (relation q r) k = let e = same p h q refl in relation_clash a e.1
  same (relation p r) h (pre_relation q) k = absurd (no_relation_braced p)
  same (relation p r) h (alone q b) k = let e = same p refl q k in relation_clash b (sym e.1)
  same (relation p r) h (relation q s) k =
      let e = same p refl q refl in
      let f = same r h (spells_too (tail_same e.1) s) k in
      (same_rel (relation_of e.1) e.0 f.0, f.1)
  same (no_prefix p) h (no_prefix q) k = same p h q k
  same (no_prefix p) h (negation q) k = absurd (no_not_relation p)
  same (no_prefix p) h (definedness q) k = absurd (no_defined_relation p)
  same (negation p) h (no_prefix q) k = absurd (no_not_relation q)
  same (negation {from = from} p) h (negation q) k = same_not from (same p h q k)
  same (definedness p) h (no_prefix q) k = absurd (no_defined_relation q)
  same (definedness {from = from} p) h (definedness q) k = same_defined from (same p h q k)
  same (conjunction p) h (conjunction q) k = same_all (same_conjuncts p h q k)
  same (disjunction p) h (disjunction q) k = same_any (same_disjuncts p h q k)
  same {r = r} (no_update p) h {s = s} (no_update q) k = same p (or_stops r h) q (or_stops s k)
  same {r = r} (no_update p) h (update q t) k = let e = same p (or_stops r h) q refl in update_clash h e.1
  same (update p t) h {s = s} (no_update q) k = let e = same p refl q (or_stops s k) in update_clash k (sym e.1)
  same {r = r} (update p t) h {s = s} (update q u) k =
      let e = same p refl q refl in
      let f = same t (or_stops r h) (spells_too (tail_same e.1) u) (or_stops s k) in
      (same_env (update_of e.1) e.0 f.0, f.1)

  pub same_values : {tokens : List Placed} {ns : List Node} {r : List Placed} → AreValues tokens ns r → closes r ≡ true
      → {ms : List Node} {s : List Placed} → AreValues tokens ms s → closes s ≡ true → (ns ≡ ms) × (r ≡ s)
  same_values no_value h no_value k = (refl, refl)
  same_values {r = r} no_value h (value q t) k = absurd (closed_begins_none r h (starts q))
  same_values (value p t) h {s = s} no_value k = absurd (closed_begins_none s k (starts p))
  same_values (value p t) h (value q u) k =
      let e = same p (values_stop t h) q (values_stop u k) in
      same_values_more e.0 (same_values t h (values_too e.1 u) k)

  same_conjuncts : {tokens : List Placed} {a : Node} {ns : List Node} {r : List Placed} → AreConjuncts tokens a ns r → stops AndLevel r ≡ true
      → {b : Node} {ms : List Node} {s : List Placed} → AreConjuncts tokens b ms s → stops AndLevel s ≡ true → (a ≡ b) × (ns ≡ ms) × (r ≡ s)
  same_conjuncts {r = r} (last_conjunct p) h {s = s} (last_conjunct q) k =
      let e = same p (unary_stops r h) q (unary_stops s k) in (e.0, refl, e.1)
  same_conjuncts {r = r} (last_conjunct p) h (conjunct q u) k = let e = same p (unary_stops r h) q refl in and_clash h e.1
  same_conjuncts (conjunct p t) h {s = s} (last_conjunct q) k = let e = same p refl q (unary_stops s k) in and_clash k (sym e.1)
  same_conjuncts (conjunct p t) h (conjunct q u) k =
      let e = same p refl q refl in
      same_parts_more e.0 (same_conjuncts t h (conjuncts_too (tail_same e.1) u) k)

  same_disjuncts : {tokens : List Placed} {a : Node} {ns : List Node} {r : List Placed} → AreDisjuncts tokens a ns r → stops OrLevel r ≡ true
      → {b : Node} {ms : List Node} {s : List Placed} → AreDisjuncts tokens b ms s → stops OrLevel s ≡ true → (a ≡ b) × (ns ≡ ms) × (r ≡ s)
  same_disjuncts {r = r} (last_disjunct p) h {s = s} (last_disjunct q) k =
      let e = same p (and_stops r h) q (and_stops s k) in (e.0, refl, e.1)
  same_disjuncts {r = r} (last_disjunct p) h (disjunct q u) k = let e = same p (and_stops r h) q refl in or_clash h e.1
  same_disjuncts (disjunct p t) h {s = s} (last_disjunct q) k = let e = same p refl q (and_stops s k) in or_clash k (sym e.1)
  same_disjuncts (disjunct p t) h (disjunct q u) k =
      let e = same p refl q refl in
      same_parts_more e.0 (same_disjuncts t h (disjuncts_too (tail_same e.1) u) k)
