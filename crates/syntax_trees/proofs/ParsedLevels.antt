-- What is parsed at a level, from what is parsed at the levels in it.
use Rattle.std.proofs.Common.{◌≡◌, ◌≢◌, ℕ, ◌-◌, ◌<◌, ◌≤◌, true, false, List, [], ◌∷◌, refl, sym, ap, ◌∙◌, arith, subst}
use Rattle.std.specs.declared.option.Option.TheVariants.{None, Some}
use Rattle.syntax_trees.specs.declared.token.Token.{Token}
use Rattle.syntax_trees.specs.declared.token.Token.TheVariants.{OpenList, OpenBraces, CloseBraces, OpenGroup, Relation, Update, And, Or, Not, Defined}
use Rattle.syntax_trees.specs.declared.queue.Sign.TheVariants as sign
use Rattle.syntax_trees.specs.declared.queue.Prefix.{Prefix}
use Rattle.syntax_trees.specs.declared.queue.Prefix.TheVariants as prefix
use Rattle.syntax_trees.specs.declared.queue.Bracket.TheVariants as bracket
use Rattle.syntax_trees.specs.declared.tree.RelOp.{RelOp}
use Rattle.syntax_trees.specs.declared.tree.EnvOp.{EnvOp}
use Rattle.syntax_trees.specs.declared.tree.Span.{Span}
use Rattle.syntax_trees.specs.declared.tree.Node.{Node}
use Rattle.syntax_trees.specs.declared.tree.Value.{Value}
use Rattle.syntax_trees.specs.declared.tree.Value.TheOpen.{Value-F}
use Rattle.syntax_trees.specs.Tokens.{Placed, placed}
use Rattle.syntax_trees.specs.Grammar.{Level, ValueLevel, OrLevel, UnaryLevel, RelationLevel, BracedLevel, PrimaryLevel, atom_of, node, begins_relation, Spells, atom, list, group, bare, braced, pre_relation, alone, relation, no_prefix, negation, definedness, no_update, update, AreValues, conjunction, last_conjunct, disjunction, last_disjunct}
use Rattle.syntax_trees.specs.Nesting.{depth}
use Rattle.std.specs.Prelude.{◌&&◌}
use Rattle.opam_names.proofs.Bytes.{both_left, both_right}
use Rattle.syntax_trees.specs.declared.token.Token.TheVariants.{Flag, Int, Text, Plain, Scoped}
use Rattle.syntax_trees.specs.Parsing.{stops, stops_at, follower, sign_of, next_sign, relation_of, next_relation, update_of, next_update, prefix_token, next_prefix, prefix_node, is_atom, ends_value, end_value, next_is_lone, IsParsed, IsRefused, AreEnclosed, AreNoneEnclosed}
use Rattle.syntax_trees.proofs.OneTree.{same, same_values, starts, or_stops, primary_stops, no_relation_braced, no_not_relation, no_defined_relation, tail_same, values_too, spells_too, begins, none_some}
use Rattle.syntax_trees.proofs.Depths.{depth_list, depth_group, depth_braced, depth_not, depth_defined, depth_rel, depth_pre_rel, depth_env, depth_atom}

-- nothing begins with what no value begins with
pub no_beginning : (level : Level) (allowed : ℕ) (tokens : List Placed) → begins tokens ≡ false → IsRefused level allowed tokens
no_beginning level allowed tokens e n r p = let f = sym e ∙ starts p.spelled in absurd cc

-- primary

pub atom_parsed : (allowed : ℕ) (token : Token) (v : Value) (at : Span) (rest : List Placed) → atom_of token ≡ Some v
    → IsParsed PrimaryLevel allowed (placed token at ∷ rest) (record { value = v; span = at }) rest
atom_parsed allowed token v at rest e = record {
  spelled = atom e;
  stopped = primary_stops rest;
  shallow = let d = depth_atom token v at e in omega arith;
}

stray_none : {token : Token} {at : Span} {rest : List Placed} {n : Node} {r : List Placed} → atom_of token ≡ None → token ≢ OpenList → token ≢ OpenGroup
    → Spells PrimaryLevel (placed token at ∷ rest) n r → ⊥
stray_none e f g (atom h) = none_some (sym e ∙ h)
stray_none e f g (list p) = f refl
stray_none e f g (group p) = g refl

pub stray_refused : (allowed : ℕ) (token : Token) (at : Span) (rest : List Placed) → (atom_of token ≡ None) × (token ≢ OpenList) × (token ≢ OpenGroup)
    → IsRefused PrimaryLevel allowed (placed token at ∷ rest)
stray_refused allowed token at rest e n r p = stray_none e.0 e.1 e.2 p.spelled

pub list_parsed : (allowed : ℕ) (from to : Span) (inner : List Placed) (nodes : List Node) (rest : List Placed) → AreEnclosed bracket.List allowed inner nodes to rest
    → IsParsed PrimaryLevel allowed (placed OpenList from ∷ inner) (node (Value-F.List nodes) from to) rest
list_parsed allowed from to inner nodes rest p = record {
  spelled = list p.spelled;
  stopped = primary_stops rest;
  shallow = let d = depth_list nodes from to in let s = p.shallow in omega arith;
}

list_none : {allowed : ℕ} {from : Span} {inner : List Placed} {n : Node} {r : List Placed} → AreNoneEnclosed bracket.List allowed inner
    → Spells PrimaryLevel (placed OpenList from ∷ inner) n r → depth n ≤ allowed → ⊥
list_none h (atom e) s = none_some e
list_none {from = from} h (list {to = to} {rest = rest} {nodes = nodes} p) s =
    let d = depth_list nodes from to in h nodes to rest (record { spelled = p; shallow = omega arith })

pub list_refused : (allowed : ℕ) (from : Span) (inner : List Placed) → AreNoneEnclosed bracket.List allowed inner
    → IsRefused PrimaryLevel allowed (placed OpenList from ∷ inner)
list_refused allowed from inner h n r p = list_none h p.spelled p.shallow

pub group_parsed : (allowed : ℕ) (from to : Span) (inner : List Placed) (nodes : List Node) (rest : List Placed) → AreEnclosed bracket.Group allowed inner nodes to rest
    → IsParsed PrimaryLevel allowed (placed OpenGroup from ∷ inner) (node (Value-F.Group nodes) from to) rest
group_parsed allowed from to inner nodes rest p = record {
  spelled = group p.spelled;
  stopped = primary_stops rest;
  shallow = let d = depth_group nodes from to in let s = p.shallow in omega arith;
}

group_none : {allowed : ℕ} {from : Span} {inner : List Placed} {n : Node} {r : List Placed} → AreNoneEnclosed bracket.Group allowed inner
    → Spells PrimaryLevel (placed OpenGroup from ∷ inner) n r → depth n ≤ allowed → ⊥
group_none h (atom e) s = none_some e
group_none {from = from} h (group {to = to} {rest = rest} {nodes = nodes} p) s =
    let d = depth_group nodes from to in h nodes to rest (record { spelled = p; shallow = omega arith })

pub group_refused : (allowed : ℕ) (from : Span) (inner : List Placed) → AreNoneEnclosed bracket.Group allowed inner
    → IsRefused PrimaryLevel allowed (placed OpenGroup from ∷ inner)
group_refused allowed from inner h n r p = group_none h p.spelled p.shallow

-- braced

no_braces_at : (token : Token) → sign_of token ≢ Some sign.OpenBraces → stops_at BracedLevel (follower token) ≡ true
no_braces_at OpenBraces h = absurd (h refl)
no_braces_at token h = refl

no_braces : (rest : List Placed) → next_sign rest ≢ Some sign.OpenBraces → stops BracedLevel rest ≡ true
no_braces [] h = refl
no_braces (placed token at ∷ rest) h = no_braces_at token h

pub bare_parsed : (allowed : ℕ) (tokens : List Placed) (n : Node) (rest : List Placed) → IsParsed PrimaryLevel allowed tokens n rest
    → next_sign rest ≢ Some sign.OpenBraces → IsParsed BracedLevel allowed tokens n rest
bare_parsed allowed tokens n rest p h = record { spelled = bare p.spelled; stopped = no_braces rest h; shallow = p.shallow }

braced_none : {allowed : ℕ} {tokens : List Placed} {n : Node} {r : List Placed} → IsRefused PrimaryLevel allowed tokens
    → Spells BracedLevel tokens n r → depth n ≤ allowed → ⊥
braced_none {r = r} h (bare p) s = h _ _ (record { spelled = p; stopped = primary_stops r; shallow = s })
braced_none {r = r} h (braced {from = from} {to = to} {value = v} {nodes = nodes} p q) s =
    let d = depth_braced v nodes v.span to in h _ _ (record { spelled = p; stopped = refl; shallow = omega arith })

pub braced_refused : (allowed : ℕ) (tokens : List Placed) → IsRefused PrimaryLevel allowed tokens → IsRefused BracedLevel allowed tokens
braced_refused allowed tokens h n r p = braced_none h p.spelled p.shallow

pub braced_parsed : (allowed : ℕ) (tokens : List Placed) (from to : Span) (inner : List Placed) (v : Node) (nodes : List Node) (rest : List Placed)
    → IsParsed PrimaryLevel allowed tokens v (placed OpenBraces from ∷ inner) → AreEnclosed bracket.Braces allowed inner nodes to rest
    → next_sign rest ≢ Some sign.OpenBraces → IsParsed BracedLevel allowed tokens (node (Value-F.Braced v nodes) v.span to) rest
braced_parsed allowed tokens from to inner v nodes rest p q h = record {
  spelled = braced p.spelled q.spelled;
  stopped = no_braces rest h;
  shallow = let d = depth_braced v nodes v.span to in let s = p.shallow in let t = q.shallow in omega arith;
}

-- after a value and `{`, when nothing is enclosed
inside_none : {allowed : ℕ} {tokens : List Placed} {from : Span} {inner : List Placed} {v : Node} {n : Node} {r : List Placed}
    → Spells PrimaryLevel tokens v (placed OpenBraces from ∷ inner) → AreNoneEnclosed bracket.Braces allowed inner
    → Spells BracedLevel tokens n r → stops BracedLevel r ≡ true → depth n ≤ allowed → ⊥
inside_none {r = r} p h (bare q) k s = let e = same p refl q (primary_stops r) in let f = ap (stops BracedLevel) e.1 ∙ k in absurd cc
inside_none p h (braced {to = to} {rest = rest} {value = w} {nodes = nodes} q u) k s =
    let e = same p refl q refl in
    let d = depth_braced w nodes w.span to in
    h nodes to rest (record { spelled = values_too (tail_same e.1) u; shallow = omega arith })

pub inside_refused : (allowed : ℕ) (tokens : List Placed) (from : Span) (inner : List Placed) (v : Node)
    → IsParsed PrimaryLevel allowed tokens v (placed OpenBraces from ∷ inner) → AreNoneEnclosed bracket.Braces allowed inner
    → IsRefused BracedLevel allowed tokens
inside_refused allowed tokens from inner v p h n r q = inside_none p.spelled h q.spelled q.stopped q.shallow

-- after a value and braces, when `{` comes once more
twice_none : {tokens : List Placed} {from to again : Span} {inner more : List Placed} {v : Node} {nodes : List Node} {n : Node} {r : List Placed}
    → Spells PrimaryLevel tokens v (placed OpenBraces from ∷ inner) → AreValues inner nodes (placed CloseBraces to ∷ placed OpenBraces again ∷ more)
    → Spells BracedLevel tokens n r → stops BracedLevel r ≡ true → ⊥
twice_none {r = r} p h (bare q) k = let e = same p refl q (primary_stops r) in let f = ap (stops BracedLevel) e.1 ∙ k in absurd cc
twice_none p h (braced q u) k =
    let e = same p refl q refl in
    let f = same_values h refl (values_too (tail_same e.1) u) refl in
    let g = ap (stops BracedLevel) (tail_same f.1) ∙ k in absurd cc

pub twice_refused : (allowed : ℕ) (tokens : List Placed) (from to again : Span) (inner more : List Placed) (v : Node) (nodes : List Node)
    → IsParsed PrimaryLevel allowed tokens v (placed OpenBraces from ∷ inner)
    → AreEnclosed bracket.Braces allowed inner nodes to (placed OpenBraces again ∷ more) → IsRefused BracedLevel allowed tokens
twice_refused allowed tokens from to again inner more v nodes p h n r q = twice_none p.spelled h.spelled q.spelled q.stopped

-- relation

no_sign_at : (token : Token) (at : Span) (rest : List Placed) → relation_of token ≡ None → begins_relation (placed token at ∷ rest) ≡ false
no_sign_at (Relation op) at rest h = none_some (sym h)
no_sign_at token at rest h = refl

pub no_sign : (rest : List Placed) → next_relation rest ≡ None → begins_relation rest ≡ false
no_sign [] h = refl
no_sign (placed token at ∷ rest) h = no_sign_at token at rest h

pub pre_relation_parsed : (allowed : ℕ) (op : RelOp) (from : Span) (more : List Placed) (right : Node) (rest : List Placed)
    → IsParsed BracedLevel allowed more right rest
    → IsParsed RelationLevel allowed (placed (Relation op) from ∷ more) (node (Value-F.PreRel op right) from right.span) rest
pre_relation_parsed allowed op from more right rest p = record {
  spelled = pre_relation p.spelled;
  stopped = p.stopped;
  shallow = let d = depth_pre_rel op right from right.span in let s = p.shallow in omega arith;
}

pre_relation_none : {allowed : ℕ} {op : RelOp} {from : Span} {more : List Placed} {n : Node} {r : List Placed} → IsRefused BracedLevel allowed more
    → Spells RelationLevel (placed (Relation op) from ∷ more) n r → stops RelationLevel r ≡ true → depth n ≤ allowed → ⊥
pre_relation_none {op = op} {from = from} h (pre_relation {right = right} p) k s =
    let d = depth_pre_rel op right from right.span in h _ _ (record { spelled = p; stopped = k; shallow = omega arith })
pre_relation_none h (alone p e) k s = no_relation_braced p
pre_relation_none h (relation p q) k s = no_relation_braced p

pub pre_relation_refused : (allowed : ℕ) (op : RelOp) (from : Span) (more : List Placed) → IsRefused BracedLevel allowed more
    → IsRefused RelationLevel allowed (placed (Relation op) from ∷ more)
pre_relation_refused allowed op from more h n r p = pre_relation_none h p.spelled p.stopped p.shallow

pub alone_parsed : (allowed : ℕ) (tokens : List Placed) (n : Node) (rest : List Placed) → IsParsed BracedLevel allowed tokens n rest
    → next_relation rest ≡ None → IsParsed RelationLevel allowed tokens n rest
alone_parsed allowed tokens n rest p h = record { spelled = alone p.spelled (no_sign rest h); stopped = p.stopped; shallow = p.shallow }

left_none : {allowed : ℕ} {tokens : List Placed} {n : Node} {r : List Placed} → IsRefused BracedLevel allowed tokens → begins_relation tokens ≡ false
    → Spells RelationLevel tokens n r → stops RelationLevel r ≡ true → depth n ≤ allowed → ⊥
left_none h e (pre_relation p) k s = absurd cc
left_none h e (alone p f) k s = h _ _ (record { spelled = p; stopped = k; shallow = s })
left_none h e (relation {op = op} {left = left} {right = right} p q) k s =
    let d = depth_rel op left right left.span right.span in h _ _ (record { spelled = p; stopped = refl; shallow = omega arith })

pub left_refused : (allowed : ℕ) (tokens : List Placed) → next_relation tokens ≡ None → IsRefused BracedLevel allowed tokens
    → IsRefused RelationLevel allowed tokens
left_refused allowed tokens e h n r p = left_none h (no_sign tokens e) p.spelled p.stopped p.shallow

pub relation_parsed : (allowed : ℕ) (op : RelOp) (at : Span) (tokens more : List Placed) (left right : Node) (rest : List Placed)
    → IsParsed BracedLevel allowed tokens left (placed (Relation op) at ∷ more) → IsParsed BracedLevel allowed more right rest
    → IsParsed RelationLevel allowed tokens (node (Value-F.Rel op left right) left.span right.span) rest
relation_parsed allowed op at tokens more left right rest p q = record {
  spelled = relation p.spelled q.spelled;
  stopped = q.stopped;
  shallow = let d = depth_rel op left right left.span right.span in let s = p.shallow in let t = q.shallow in omega arith;
}

right_none : {allowed : ℕ} {op : RelOp} {at : Span} {tokens more : List Placed} {left : Node} {n : Node} {r : List Placed}
    → Spells BracedLevel tokens left (placed (Relation op) at ∷ more) → IsRefused BracedLevel allowed more
    → Spells RelationLevel tokens n r → stops RelationLevel r ≡ true → depth n ≤ allowed → ⊥
right_none p h (pre_relation q) k s = no_relation_braced p
right_none p h (alone q e) k s = let f = same p refl q k in let g = ap begins_relation f.1 ∙ e in absurd cc
right_none p h (relation {op = op} {left = left} {right = right} q u) k s =
    let f = same p refl q refl in
    let d = depth_rel op left right left.span right.span in
    h _ _ (record { spelled = spells_too (tail_same f.1) u; stopped = k; shallow = omega arith })

pub right_refused : (allowed : ℕ) (op : RelOp) (at : Span) (tokens more : List Placed) (left : Node)
    → IsParsed BracedLevel allowed tokens left (placed (Relation op) at ∷ more) → IsRefused BracedLevel allowed more
    → IsRefused RelationLevel allowed tokens
right_refused allowed op at tokens more left p h n r q = right_none p.spelled h q.spelled q.stopped q.shallow

-- unary

pub no_prefix_parsed : (allowed : ℕ) (tokens : List Placed) (n : Node) (rest : List Placed) → IsParsed RelationLevel allowed tokens n rest
    → IsParsed UnaryLevel allowed tokens n rest
no_prefix_parsed allowed tokens n rest p = record { spelled = no_prefix p.spelled; stopped = p.stopped; shallow = p.shallow }

no_prefix_none : {allowed : ℕ} {tokens : List Placed} {n : Node} {r : List Placed} → IsRefused RelationLevel allowed tokens → next_prefix tokens ≡ None
    → Spells UnaryLevel tokens n r → stops UnaryLevel r ≡ true → depth n ≤ allowed → ⊥
no_prefix_none h e (no_prefix p) k s = h _ _ (record { spelled = p; stopped = k; shallow = s })
no_prefix_none h e (negation p) k s = none_some (sym e)
no_prefix_none h e (definedness p) k s = none_some (sym e)

pub no_prefix_refused : (allowed : ℕ) (tokens : List Placed) → next_prefix tokens ≡ None → IsRefused RelationLevel allowed tokens
    → IsRefused UnaryLevel allowed tokens
no_prefix_refused allowed tokens e h n r p = no_prefix_none h e p.spelled p.stopped p.shallow

pub prefix_parsed : (allowed : ℕ) (op : Prefix) (from : Span) (more : List Placed) (operand : Node) (rest : List Placed) → allowed ≢ 0
    → IsParsed UnaryLevel (allowed - 1) more operand rest
    → IsParsed UnaryLevel allowed (placed (prefix_token op) from ∷ more) (prefix_node op from operand) rest
prefix_parsed allowed prefix.Not from more operand rest l p = record {
  spelled = negation p.spelled;
  stopped = p.stopped;
  shallow = let d = depth_not operand from operand.span in let s = p.shallow in omega arith;
}
prefix_parsed allowed prefix.Defined from more operand rest l p = record {
  spelled = definedness p.spelled;
  stopped = p.stopped;
  shallow = let d = depth_defined operand from operand.span in let s = p.shallow in omega arith;
}

not_none : {allowed : ℕ} {from : Span} {more : List Placed} {n : Node} {r : List Placed} → (0 < allowed → IsRefused UnaryLevel (allowed - 1) more)
    → Spells UnaryLevel (placed Not from ∷ more) n r → stops UnaryLevel r ≡ true → depth n ≤ allowed → ⊥
not_none h (no_prefix p) k s = no_not_relation p
not_none {from = from} h (negation {value = v} p) k s =
    let d = depth_not v from v.span in h (omega arith) _ _ (record { spelled = p; stopped = k; shallow = omega arith })

defined_none : {allowed : ℕ} {from : Span} {more : List Placed} {n : Node} {r : List Placed} → (0 < allowed → IsRefused UnaryLevel (allowed - 1) more)
    → Spells UnaryLevel (placed Defined from ∷ more) n r → stops UnaryLevel r ≡ true → depth n ≤ allowed → ⊥
defined_none h (no_prefix p) k s = no_defined_relation p
defined_none {from = from} h (definedness {value = v} p) k s =
    let d = depth_defined v from v.span in h (omega arith) _ _ (record { spelled = p; stopped = k; shallow = omega arith })

-- also where nothing may be opened any more
pub prefix_refused : (allowed : ℕ) (op : Prefix) (from : Span) (more : List Placed) → (0 < allowed → IsRefused UnaryLevel (allowed - 1) more)
    → IsRefused UnaryLevel allowed (placed (prefix_token op) from ∷ more)
prefix_refused allowed prefix.Not from more h n r p = not_none h p.spelled p.stopped p.shallow
prefix_refused allowed prefix.Defined from more h n r p = defined_none h p.spelled p.stopped p.shallow

-- value

no_update_at : (token : Token) → update_of token ≡ None → stops_at OrLevel (follower token) ≡ true → stops_at ValueLevel (follower token) ≡ true
no_update_at (Update op) e h = none_some (sym e)
no_update_at OpenBraces e h = h
no_update_at And e h = h
no_update_at Or e h = h
no_update_at token e h = refl

no_update_next : (rest : List Placed) → next_update rest ≡ None → stops OrLevel rest ≡ true → stops ValueLevel rest ≡ true
no_update_next [] e h = refl
no_update_next (placed token at ∷ rest) e h = no_update_at token e h

pub no_update_parsed : (allowed : ℕ) (tokens : List Placed) (n : Node) (rest : List Placed) → IsParsed OrLevel allowed tokens n rest
    → next_update rest ≡ None → IsParsed ValueLevel allowed tokens n rest
no_update_parsed allowed tokens n rest p h =
    record { spelled = no_update p.spelled; stopped = no_update_next rest h p.stopped; shallow = p.shallow }

value_none : {allowed : ℕ} {tokens : List Placed} {n : Node} {r : List Placed} → IsRefused OrLevel allowed tokens
    → Spells ValueLevel tokens n r → stops ValueLevel r ≡ true → depth n ≤ allowed → ⊥
value_none {r = r} h (no_update p) k s = h _ _ (record { spelled = p; stopped = or_stops r k; shallow = s })
value_none h (update {op = op} {left = left} {right = right} p q) k s =
    let d = depth_env op left right left.span right.span in h _ _ (record { spelled = p; stopped = refl; shallow = omega arith })

pub value_refused : (allowed : ℕ) (tokens : List Placed) → IsRefused OrLevel allowed tokens → IsRefused ValueLevel allowed tokens
value_refused allowed tokens h n r p = value_none h p.spelled p.stopped p.shallow

pub update_parsed : (allowed : ℕ) (op : EnvOp) (at : Span) (tokens more : List Placed) (left right : Node) (rest : List Placed)
    → IsParsed OrLevel allowed tokens left (placed (Update op) at ∷ more) → IsParsed OrLevel allowed more right rest → next_update rest ≡ None
    → IsParsed ValueLevel allowed tokens (node (Value-F.Env op left right) left.span right.span) rest
update_parsed allowed op at tokens more left right rest p q h = record {
  spelled = update p.spelled q.spelled;
  stopped = no_update_next rest h q.stopped;
  shallow = let d = depth_env op left right left.span right.span in let s = p.shallow in let t = q.shallow in omega arith;
}

-- after the left side and the sign of an update, when there is no right side or what comes after it goes on with it
update_none : {allowed : ℕ} {op : EnvOp} {at : Span} {tokens more : List Placed} {left : Node} {n : Node} {r : List Placed}
    → Spells OrLevel tokens left (placed (Update op) at ∷ more)
    → ((right : Node) (rest : List Placed) → IsParsed OrLevel allowed more right rest → stops ValueLevel rest ≡ true → ⊥)
    → Spells ValueLevel tokens n r → stops ValueLevel r ≡ true → depth n ≤ allowed → ⊥
update_none {r = r} p h (no_update q) k s = let e = same p refl q (or_stops r k) in let f = ap (stops ValueLevel) e.1 ∙ k in absurd cc
update_none {r = r} p h (update {op = op} {left = left} {right = right} q u) k s =
    let e = same p refl q refl in
    let d = depth_env op left right left.span right.span in
    h _ _ (record { spelled = spells_too (tail_same e.1) u; stopped = or_stops r k; shallow = omega arith }) k

pub update_refused : (allowed : ℕ) (op : EnvOp) (at : Span) (tokens more : List Placed) (left : Node)
    → IsParsed OrLevel allowed tokens left (placed (Update op) at ∷ more) → IsRefused OrLevel allowed more → IsRefused ValueLevel allowed tokens
update_refused allowed op at tokens more left p h n r q = update_none p.spelled (λ right rest u k. h right rest u) q.spelled q.stopped q.shallow

pub again_refused : (allowed : ℕ) (op next : EnvOp) (at by : Span) (tokens more rest : List Placed) (left right : Node)
    → IsParsed OrLevel allowed tokens left (placed (Update op) at ∷ more) → IsParsed OrLevel allowed more right (placed (Update next) by ∷ rest)
    → IsRefused ValueLevel allowed tokens
again_refused allowed op next at by tokens more rest left right p u n r q =
    update_none p.spelled
    (λ w s v k. let e = same u.spelled refl v.spelled v.stopped in let f = ap (stops ValueLevel) e.1 ∙ k in absurd cc)
    q.spelled q.stopped q.shallow

-- an atom alone

ends_at : (token : Token) → ends_value token ≡ true → stops_at ValueLevel (follower token) ≡ true
ends_at OpenBraces h = absurd cc
ends_at And h = absurd cc
ends_at Or h = absurd cc
ends_at (Update op) h = absurd cc
ends_at token h = refl

ends : (rest : List Placed) → end_value rest ≡ true → stops ValueLevel rest ≡ true
ends [] h = refl
ends (placed token at ∷ rest) h = ends_at token h

no_relation_at : (token : Token) (at : Span) (rest : List Placed) → ends_value token ≡ true → begins_relation (placed token at ∷ rest) ≡ false
no_relation_at (Relation op) at rest h = absurd cc
no_relation_at token at rest h = refl

no_relation_after : (rest : List Placed) → end_value rest ≡ true → begins_relation rest ≡ false
no_relation_after [] h = refl
no_relation_after (placed token at ∷ rest) h = no_relation_at token at rest h

pub lone_parsed : (tokens rest : List Placed) (token : Token) (v : Value) (at : Span) → tokens ≡ placed token at ∷ rest → atom_of token ≡ Some v
    → end_value rest ≡ true → (allowed : ℕ) → IsParsed ValueLevel allowed tokens (record { value = v; span = at }) rest
lone_parsed tokens rest token v at e f h allowed =
    let n : Node = record { value = v; span = at } in
    subst (λ ts. IsParsed ValueLevel allowed ts n rest) (sym e) (record {
      spelled = no_update (disjunction (last_disjunct (conjunction (last_conjunct (no_prefix (alone (bare (atom f)) (no_relation_after rest h)))))));
      stopped = ends rest h;
      shallow = let d = depth_atom token v at f in omega arith;
    })

pub lone_ends : (token : Token) (at : Span) (tokens rest : List Placed) → tokens ≡ placed token at ∷ rest → next_is_lone tokens ≡ true
    → (is_atom token ≡ true) × (end_value rest ≡ true)
lone_ends token at tokens rest e h =
    let f : (is_atom token && end_value rest) ≡ true = ap next_is_lone (sym e) ∙ h in
    (both_left (is_atom token) (end_value rest) f, both_right (is_atom token) (end_value rest) f)

pub atom_is_some : (token : Token) → is_atom token ≡ true → atom_of token ≡ None → ⊥
atom_is_some (Flag flag) h e = cc
atom_is_some (Int number) h e = cc
atom_is_some (Text bytes) h e = cc
atom_is_some (Plain name) h e = cc
atom_is_some (Scoped scope name) h e = cc
atom_is_some token h e = absurd cc
