-- Along a derivation the tokens tell how deep its nodes are, and in what each place of them is nested.
use Rattle.std.proofs.Common.{◌≡◌, ℕ, ◌<◌, ◌≤◌, ◌+◌, Bool, true, false, List, [], ◌∷◌, refl, sym, subst, ap, ◌∙◌, arith, map, max, if◌then◌else◌, inl, inr}
use Rattle.std.specs.Prelude.{⊤, ◌==◌}
use Rattle.std.specs.List.{list_any}
use Rattle.syntax_trees.specs.Faults.{is_opening, opens_at}
use Rattle.std.proofs.lemmas.Bool.Decides.{nat_tests}
use Rattle.std.specs.declared.option.Option.{Option}
use Rattle.std.specs.declared.option.Option.TheVariants.{None, Some}
use Rattle.syntax_trees.specs.declared.token.Token.{Token}
use Rattle.syntax_trees.specs.declared.token.Token.TheVariants.{Flag, Int, Text, Plain, Scoped, Colon, OpenList, CloseList, OpenBraces, CloseBraces, OpenGroup, CloseGroup, Relation, Update, And, Or, Not, Defined}
use Rattle.syntax_trees.specs.declared.tree.Node.{Node}
use Rattle.syntax_trees.specs.declared.tree.Span.{Span}
use Rattle.syntax_trees.specs.declared.tree.Value.{Value, roll-Value}
use Rattle.syntax_trees.specs.declared.tree.Value.TheOpen.{Value-F}
use Rattle.syntax_trees.specs.declared.tree.Value.TheFolds.{fold-Value, fold-roll-Node, fold-roll-Value}
use Rattle.syntax_trees.specs.declared.limits.TheConstants.{NESTING_LIMIT}
use Rattle.syntax_trees.specs.Heights.{OperandMode as Mode, Wanted, LeftRead, RightWanted, RightRead, HeightState as State, operand_height as begin_at, begun_height as begin, mode_after as after, relation_height as relation_at, operand_read as read, bracket_opened as opened, bracket_closed as closed, operand_anew as anew, operand_prefixed as prefixed, relation_begun as related, height_step as step, token_height as height, NestsBelow as Below, height_start as start}
use Rattle.syntax_trees.specs.Tokens.{Placed, placed}
use Rattle.syntax_trees.specs.Grammar.{Level, ValueLevel, OrLevel, AndLevel, UnaryLevel, RelationLevel, BracedLevel, PrimaryLevel, atom_of, node, last_span, all_of, any_of, begins_relation, Spells, atom, list, group, bare, braced, pre_relation, alone, relation, no_prefix, negation, definedness, conjunction, disjunction, no_update, update, AreValues, no_value, value, AreConjuncts, last_conjunct, conjunct, AreDisjuncts, last_disjunct, disjunct}
use Rattle.syntax_trees.specs.Files.{Entry, AreFields, no_field, field, AreEntries, no_entry, field_next, section_next, labelled_next}
use Rattle.syntax_trees.specs.Nesting.{depth, most, contents_depth, AreShallow, first_of, first_among, deeper, layer_around, node_around, around, contents_around, nesting_at, is_in}
use Rattle.syntax_trees.proofs.Folds.{node_at}
use Rattle.syntax_trees.proofs.Depths.{depth_list, depth_group, depth_braced, depth_not, depth_defined, depth_rel, depth_pre_rel, depth_env, depth_all, depth_any}
use Rattle.syntax_trees.proofs.Shallow.{around_at, parts_around}
use Rattle.syntax_trees.proofs.Spanned.{InOrder, lies}
use Rattle.syntax_trees.proofs.Heights.{at_place, num, Go, GoAll, go_then, go_after, go_prefixed, go_enclosed, go_found, all_none, all_some, here, later, order, false_true, not_opening, not_there, not_equal_after}

-- where the place is in no part that is told
num_if : (c : Bool) (o : Option ℕ) → num (if c then first_of o (Some 0) else None) ≤ num o
num_if true None = omega arith
num_if true (Some n) = omega arith
num_if false o = omega arith

none_if : (c : Bool) (o : Option ℕ) → c ≡ false → (if c then first_of o (Some 0) else None) ≡ None
none_if true o e = absurd cc
none_if false o e = refl

num_in : (c : Bool) (o : Option ℕ) → c ≡ true → num (if c then first_of o (Some 0) else None) ≡ num o
num_in true None e = refl
num_in true (Some n) e = refl
num_in false o e = absurd cc

some_in : (c : Bool) (o : Option ℕ) → c ≡ true → (n : ℕ) × ((if c then first_of o (Some 0) else None) ≡ Some n)
some_in true None e = (0, refl)
some_in true (Some n) e = (n, refl)
some_in false o e = absurd cc

is_between : (p : ℕ) (span : Span) → span.start ≤ p → p < span.end → is_in p span ≡ true
is_between p span l m = grind (arith, nat_tests)

-- no token opens before the first
order_clear : (total from : ℕ) (tokens : List Placed) → InOrder total from tokens → (p : ℕ) → p < from → list_any (opens_at p) tokens ≡ false
order_clear total from [] o p l = refl
order_clear total from (placed token span ∷ tokens) o p l =
    let a = o.0 in let b = o.1 in
    not_there (is_opening token) (span.start == p) (list_any (opens_at p) tokens) (not_equal_after span.start p (omega arith))
    ∙ order_clear total span.end tokens o.2 p (omega arith)

first_left : (o p : Option ℕ) → ((n : ℕ) × (o ≡ Some n)) → (n : ℕ) × (first_of o p ≡ Some n)
first_left None p x = let e = x.1 in absurd cc
first_left (Some n) p x = (n, refl)

first_right : (o p : Option ℕ) → o ≡ None → ((n : ℕ) × (p ≡ Some n)) → (n : ℕ) × (first_of o p ≡ Some n)
first_right None p e x = x
first_right (Some n) p e x = absurd cc

is_before : (p : ℕ) (span : Span) → p < span.start → is_in p span ≡ false
is_before p span l = grind (arith, nat_tests)

is_beyond : (p : ℕ) (span : Span) → span.end ≤ p → is_in p span ≡ false
is_beyond p span l = grind (arith, nat_tests)

abbrev parts_of : ℕ → Value → Option ℕ
parts_of p v = fold-Value (Option ℕ) (Option ℕ) layer_around (node_around p) v

around_node : (p : ℕ) (n : Node) → around p n ≡ (if is_in p n.span then first_of (parts_of p n.value) (Some 0) else None)
around_node p n = fold-roll-Node (Option ℕ) (Option ℕ) layer_around (node_around p) (record { value = n.value; span = n.span })

around_before : (p : ℕ) (n : Node) → p < n.span.start → around p n ≡ None
around_before p n l = around_node p n ∙ none_if (is_in p n.span) (parts_of p n.value) (is_before p n.span l)

around_beyond : (p : ℕ) (n : Node) → n.span.end ≤ p → around p n ≡ None
around_beyond p n l = around_node p n ∙ none_if (is_in p n.span) (parts_of p n.value) (is_beyond p n.span l)

around_le : (p : ℕ) (shape : Value-F Value Node) (span : Span) → num (around p (node_at shape span)) ≤ num (parts_around p shape)
around_le p shape span = let e = ap num (around_at p shape span) in let l = num_if (is_in p span) (parts_around p shape) in omega arith

around_eq : (p : ℕ) (shape : Value-F Value Node) (span : Span) → is_in p span ≡ true → num (around p (node_at shape span)) ≡ num (parts_around p shape)
around_eq p shape span e = ap num (around_at p shape span) ∙ num_in (is_in p span) (parts_around p shape) e

around_some : (p : ℕ) (n : Node) → n.span.start ≤ p → p < n.span.end → (k : ℕ) × (around p n ≡ Some k)
around_some p n l m =
    let s = some_in (is_in p n.span) (parts_of p n.value) (is_between p n.span l m) in (s.0, around_node p n ∙ s.1)

go_node : {s c : State} {ts r : List Placed} {base d : ℕ} {f : ℕ → Option ℕ} (shape : Value-F Value Node) (from to : Span) → Go s ts base d from.start to.end f c r
    → depth (node shape from to) ≡ d → ((p : ℕ) → num (parts_around p shape) ≡ num (f p))
    → Go s ts base (depth (node shape from to)) from.start to.end (λ p. around p (node shape from to)) c r
go_node {f = f} shape from to y e h =
    let span : Span = record { start = from.start; end = to.end } in
    go_found y e (λ p. let a = around_le p shape span in let b = h p in omega arith) (λ p l m. around_eq p shape span (is_between p span l m) ∙ h p) (λ p l. around_before p (node shape from to) l)
    (λ p l. around_beyond p (node shape from to) l)

-- a part whose nesting is told by an equal number
go_base : {s c : State} {ts r : List Placed} {m n d a b : ℕ} {f : ℕ → Option ℕ} → m ≡ n → Go s ts m d a b f c r → Go s ts n d a b f c r
go_base {s} {c} {ts} {r} {d = d} {a = a} {b = b} {f = f} e y = subst (λ x. Go s ts x d a b f c r) e y

all_base : {s c : State} {ts r : List Placed} {m n d a b : ℕ} {f : ℕ → Option ℕ} → m ≡ n → GoAll s ts m d a b f c r → GoAll s ts n d a b f c r
all_base {s} {c} {ts} {r} {d = d} {a = a} {b = b} {f = f} e y = subst (λ x. GoAll s ts x d a b f c r) e y

-- atoms
the_same : {v w : Value} → Some v ≡ Some w → v ≡ w
the_same e = cc

none_some : {A B : Type 0} {x : A} → None ≡ Some x → B
none_some e = absurd cc

none_shape : (p : ℕ) (shape : Value-F Value Node) (v : Value) → Some (roll-Value shape) ≡ Some v → parts_around p shape ≡ None → parts_of p v ≡ None
none_shape p shape v e h =
    subst (λ w. parts_of p w ≡ None) (the_same e) (fold-roll-Value (Option ℕ) (Option ℕ) layer_around (node_around p) shape ∙ h)

none_atom : (p : ℕ) (token : Token) (v : Value) → atom_of token ≡ Some v → parts_of p v ≡ None
none_atom p (Flag flag) v e = none_shape p (Value-F.Flag flag) v e refl
none_atom p (Int number) v e = none_shape p (Value-F.Int number) v e refl
none_atom p (Text bytes) v e = none_shape p (Value-F.Text bytes) v e refl
none_atom p (Plain name) v e = none_shape p (Value-F.Ident (record { scope = None; name = name })) v e refl
none_atom p (Scoped scope name) v e = none_shape p (Value-F.Ident (record { scope = Some scope; name = name })) v e refl
none_atom p token v e = none_some e

num_atom : (c : Bool) (o : Option ℕ) → o ≡ None → num (if c then first_of o (Some 0) else None) ≡ 0
num_atom true None e = refl
num_atom true (Some n) e = absurd cc
num_atom false o e = refl

around_atom : (p : ℕ) (token : Token) (v : Value) (span : Span) → atom_of token ≡ Some v → num (around p (record { value = v; span = span })) ≡ 0
around_atom p token v span e =
    ap num (around_node p (record { value = v; span = span })) ∙ num_atom (is_in p span) (parts_of p v) (none_atom p token v e)

atom_step : (s : State) (token : Token) {v : Value} → atom_of token ≡ Some v → step s token ≡ read s
atom_step s (Flag flag) e = refl
atom_step s (Int number) e = refl
atom_step s (Text bytes) e = refl
atom_step s (Plain name) e = refl
atom_step s (Scoped scope name) e = refl
atom_step s token e = none_some e

atom_height : (s : State) (token : Token) {v : Value} → atom_of token ≡ Some v → height s token ≡ begin s
atom_height s (Flag flag) e = refl
atom_height s (Int number) e = refl
atom_height s (Text bytes) e = refl
atom_height s (Plain name) e = refl
atom_height s (Scoped scope name) e = refl
atom_height s token e = none_some e

atom_opens_not : (token : Token) {v : Value} → atom_of token ≡ Some v → is_opening token ≡ false
atom_opens_not (Flag flag) e = refl
atom_opens_not (Int number) e = refl
atom_opens_not (Text bytes) e = refl
atom_opens_not (Plain name) e = refl
atom_opens_not (Scoped scope name) e = refl
atom_opens_not token e = none_some e

go_atom : (s : State) (token : Token) (v : Value) (span : Span) (rest : List Placed) → span.start < span.end → ((p : ℕ) → p < span.end → list_any (opens_at p) rest ≡ false) → atom_of token ≡ Some v
    → Go s (placed token span ∷ rest) (begin s) (depth (record { value = v; span = span })) span.start span.end (λ p. around p (record { value = v; span = span })) (read s) rest
go_atom s token v span rest long past e = record {
  keeps = λ p l. not_opening (is_opening token) (span.start == p) (list_any (opens_at p) rest) (atom_opens_not token e);
  clear = λ p l. not_opening (is_opening token) (span.start == p) (list_any (opens_at p) rest) (atom_opens_not token e) ∙ past p (omega arith);
  exact = λ p l o. false_true (not_opening (is_opening token) (span.start == p) (list_any (opens_at p) rest) (atom_opens_not token e) ∙ past p l) o;
  below = λ limit l b.
      let Here : State → Type 0 = λ z. (z.level ≤ limit) × Below limit z rest in
      subst Here (sym (atom_step s token e)) (omega arith, b);
  passes = λ p l. later p s token span.start span.end rest l ∙ ap (λ z. at_place p z rest) (atom_step s token e);
  tells = λ p l.
      let a = here p s token span.start span.end rest l in
      let b = atom_height s token e in
      let c = around_atom p token v span e in
      omega arith;
  before = λ p l. around_before p (record { value = v; span = span }) l;
  beyond = λ p l. around_beyond p (record { value = v; span = span }) l;
}

-- whether a value may begin, where what stands before it takes no sign of a relation
abbrev ReadyAt : Mode → List Placed → Type 0
ReadyAt Wanted tokens = ⊤
ReadyAt LeftRead tokens = begins_relation tokens ≡ false
ReadyAt RightWanted tokens = ⊥
ReadyAt RightRead tokens = ⊤

ready_begins : (m : Mode) (floor level : ℕ) (tokens : List Placed) → ReadyAt m tokens → begin_at (after m) floor level ≡ floor
ready_begins Wanted floor level tokens r = refl
ready_begins LeftRead floor level tokens r = refl
ready_begins RightWanted floor level tokens r = absurd r
ready_begins RightRead floor level tokens r = refl

ready_after : (m : Mode) (tokens rest : List Placed) → ReadyAt m tokens → begins_relation rest ≡ false → ReadyAt (after m) rest
ready_after Wanted tokens rest r e = e
ready_after LeftRead tokens rest r e = e
ready_after RightWanted tokens rest r e = absurd r
ready_after RightRead tokens rest r e = e

ready_relation : (m : Mode) (floor level : ℕ) (tokens : List Placed) → ReadyAt m tokens → begins_relation tokens ≡ true
    → relation_at m floor level ≡ begin_at m floor level
ready_relation Wanted floor level tokens r e = refl
ready_relation LeftRead floor level tokens r e = absurd (let f = sym r ∙ e in cc)
ready_relation RightWanted floor level tokens r e = absurd r
ready_relation RightRead floor level tokens r e = refl

ready_joins : (m : Mode) (floor level : ℕ) (tokens : List Placed) → ReadyAt m tokens → relation_at (after m) floor level ≡ level
ready_joins Wanted floor level tokens r = refl
ready_joins LeftRead floor level tokens r = refl
ready_joins RightWanted floor level tokens r = absurd r
ready_joins RightRead floor level tokens r = refl

even : (m : Mode) (floor level : ℕ) → level ≡ floor → begin_at m floor level ≡ floor
even Wanted floor level e = e
even LeftRead floor level e = refl
even RightWanted floor level e = e
even RightRead floor level e = refl

abbrev Fits : Level → State → List Placed → Type 0
Fits PrimaryLevel s tokens = ⊤
Fits BracedLevel s tokens = ⊤
Fits RelationLevel s tokens = ReadyAt s.mode tokens
Fits UnaryLevel s tokens = ReadyAt s.mode tokens
Fits AndLevel s tokens = ReadyAt s.mode tokens × (begin s ≡ s.floor)
Fits OrLevel s tokens = ReadyAt s.mode tokens × (begin s ≡ s.floor)
Fits ValueLevel s tokens = ReadyAt s.mode tokens × (begin s ≡ s.floor)

record Rests (s t : State) (rest : List Placed) : Type 0 where
  floor : t.floor ≡ s.floor
  kept : t.kept ≡ s.kept
  ready : ReadyAt t.mode rest
  begins : begin t ≡ t.floor

abbrev Reached : Level → State → State → List Placed → Type 0
Reached PrimaryLevel s t rest = t ≡ read s
Reached BracedLevel s t rest = t ≡ read s
Reached RelationLevel s t rest = Rests s t rest
Reached UnaryLevel s t rest = Rests s t rest
Reached AndLevel s t rest = Rests s t rest
Reached OrLevel s t rest = Rests s t rest
Reached ValueLevel s t rest = Rests s t rest

record Gone (level : Level) (s : State) (tokens : List Placed) (n : Node) (rest : List Placed) : Type 0 where
  to : State
  reached : Reached level s to rest
  go : Go s tokens (begin s) (depth n) n.span.start n.span.end (λ p. around p n) to rest

record AllGone (total from : ℕ) (s : State) (tokens : List Placed) (deep : ℕ) (found : ℕ → Option ℕ) (rest : List Placed) : Type 0 where
  to : State
  floor : to.floor ≡ s.floor
  kept : to.kept ≡ s.kept
  stop : ℕ
  later : from ≤ stop
  order : InOrder total stop rest
  go : GoAll s tokens s.floor deep from stop found to rest
  some : (p : ℕ) → p < stop → list_any (opens_at p) tokens ≡ true → (n : ℕ) × (found p ≡ Some n)

record EntriesGone (total from : ℕ) (s : State) (tokens : List Placed) (deep : ℕ) (found : ℕ → Option ℕ) (rest : List Placed) : Type 0 where
  to : State
  floor : to.floor ≡ s.floor
  kept : to.kept ≡ s.kept
  stop : ℕ
  later : from ≤ stop
  order : InOrder total stop rest
  go : GoAll s tokens s.floor deep from stop found to rest

abbrev among : ℕ → List Node → Option ℕ
among p nodes = first_among (map (around p) nodes)

record PartsGone (total from : ℕ) (s : State) (tokens : List Placed) (head : Node) (more : List Node) (rest : List Placed) : Type 0 where
  to : State
  reached : Rests s to rest
  starts : from ≤ head.span.start
  some : head.span.start ≤ (last_span head more).end
  go : Go s tokens s.floor (max (depth head) (most (map depth more))) head.span.start (last_span head more).end
      (λ p. first_of (around p head) (among p more)) to rest

reached_go : {s t : State} {tokens rest : List Placed} (n : Node) → t ≡ read s → Go s tokens (begin s) (depth n) n.span.start n.span.end (λ p. around p n) t rest
    → Go s tokens (begin s) (depth n) n.span.start n.span.end (λ p. around p n) (read s) rest
reached_go {s} {t} {tokens} {rest} n e g = subst (λ z. Go s tokens (begin s) (depth n) n.span.start n.span.end (λ p. around p n) z rest) e g

bracketed : (total : ℕ) (s : State) (token close : Token) (from to : Span) (inner rest : List Placed) (deep : ℕ) (found : ℕ → Option ℕ) (at : ℕ) (mode : Mode)
    → step s token ≡ opened s at mode → height s token ≡ at → ((t : State) → step t close ≡ closed t t.kept) → ((t : State) → height t close ≡ t.floor) → is_opening close ≡ false
    → from.start < from.end → AllGone total from.end (opened s at mode) inner deep found (placed close to ∷ rest)
    → Go s (placed token from ∷ inner) at (1 + deep) from.start to.end (λ p. deeper (found p)) (record { floor = s.floor; level = at; mode = mode; kept = s.kept }) rest
bracketed total s token close from to inner rest deep found at mode i j k l shut m a =
    let f = a.floor in let g = l a.to in let h = a.order.0 in let o = a.order.1 in let n = a.later in
    go_enclosed s token close from.start from.end to.start to.end i (omega arith) j a.go
    (k a.to ∙ ap (λ z. closed a.to z) a.kept) (omega arith) (omega arith) m (omega arith) a.later h o shut (λ p q. order_clear total to.end rest a.order.2 p q) a.some

all_node : {s c : State} {ts r : List Placed} {base : ℕ} (head : Node) (more : List Node)
    → Go s ts base (max (depth head) (most (map depth more))) head.span.start (last_span head more).end (λ p. first_of (around p head) (among p more)) c r
    → Go s ts base (depth (all_of head more)) (all_of head more).span.start (all_of head more).span.end (λ p. around p (all_of head more)) c r
all_node head [] y =
    go_found y (omega arith) (λ p. alone_le (around p head)) (λ p l m. alone_eq (around p head)) (λ p l. around_before p head l) (λ p l. around_beyond p head l)
  where
    alone_le : (o : Option ℕ) → num o ≤ num (first_of o None)
    alone_le None = omega arith
    alone_le (Some n) = omega arith

    alone_eq : (o : Option ℕ) → num o ≡ num (first_of o None)
    alone_eq None = refl
    alone_eq (Some n) = refl
all_node head (next ∷ more) y = go_node (Value-F.And (head ∷ next ∷ more)) head.span (last_span next more) y (depth_all head (next ∷ more)) (λ p. refl)

any_node : {s c : State} {ts r : List Placed} {base : ℕ} (head : Node) (more : List Node)
    → Go s ts base (max (depth head) (most (map depth more))) head.span.start (last_span head more).end (λ p. first_of (around p head) (among p more)) c r
    → Go s ts base (depth (any_of head more)) (any_of head more).span.start (any_of head more).span.end (λ p. around p (any_of head more)) c r
any_node head [] y =
    go_found y (omega arith) (λ p. alone_le (around p head)) (λ p l m. alone_eq (around p head)) (λ p l. around_before p head l) (λ p l. around_beyond p head l)
  where
    alone_le : (o : Option ℕ) → num o ≤ num (first_of o None)
    alone_le None = omega arith
    alone_le (Some n) = omega arith

    alone_eq : (o : Option ℕ) → num o ≡ num (first_of o None)
    alone_eq None = refl
    alone_eq (Some n) = refl
any_node head (next ∷ more) y = go_node (Value-F.Or (head ∷ next ∷ more)) head.span (last_span next more) y (depth_any head (next ∷ more)) (λ p. refl)

rests_on : {s t u : State} {ms rest : List Placed} → Rests s t ms → Rests (anew t) u rest → Rests s u rest
rests_on a b = record { floor = b.floor ∙ a.floor; kept = b.kept ∙ a.kept; ready = b.ready; begins = b.begins }

-- one part alone, and one before others that a connective joins to it
one_part : {s t : State} {tokens rest : List Placed} (total from : ℕ) (head : Node) → begin s ≡ s.floor → Rests s t rest → from ≤ head.span.start
    → head.span.start < head.span.end → Go s tokens (begin s) (depth head) head.span.start head.span.end (λ p. around p head) t rest
    → PartsGone total from s tokens head [] rest
one_part {s} {t} {tokens} {rest} total from head e r i j g = record {
  to = t;
  reached = r;
  starts = i;
  some = omega arith;
  go = go_found (go_base e g) (omega arith) (λ p. alone_ge (around p head)) (λ p l m. alone_same (around p head)) (λ p l. alone_none (around p head) (around_before p head l))
      (λ p l. alone_none (around p head) (around_beyond p head l));
}
  where
    alone_ge : (o : Option ℕ) → num (first_of o None) ≤ num o
    alone_ge None = omega arith
    alone_ge (Some n) = omega arith

    alone_same : (o : Option ℕ) → num (first_of o None) ≡ num o
    alone_same None = refl
    alone_same (Some n) = refl

    alone_none : (o : Option ℕ) → o ≡ None → first_of o None ≡ None
    alone_none None x = refl
    alone_none (Some n) x = absurd cc

more_parts : {s t : State} {tokens between rest : List Placed} (total from : ℕ) (head next : Node) (more : List Node) (token : Token) (sign : Span)
    → begin s ≡ s.floor → ((z : State) → step z token ≡ anew z) → ((z : State) → height z token ≡ z.floor) → is_opening token ≡ false
    → Rests s t (placed token sign ∷ between) → from ≤ head.span.start → head.span.start < head.span.end → head.span.end ≤ sign.start → sign.start < sign.end
    → Go s tokens (begin s) (depth head) head.span.start head.span.end (λ p. around p head) t (placed token sign ∷ between)
    → PartsGone total sign.end (anew t) between next more rest
    → PartsGone total from s tokens head (next ∷ more) rest
more_parts {s} {t} {tokens} {between} {rest} total from head next more token sign e i j shut r k l m n g a =
    let f = r.floor in let h = j t in let o = a.starts in let q = a.some in record {
      to = a.to;
      reached = rests_on r a.reached;
      starts = k;
      some = omega arith;
      go = go_then (go_base e g) (go_after t token sign.start sign.end (i t) (omega arith) (omega arith) shut (go_base r.floor a.go) (omega arith) a.starts a.some)
          (omega arith) m (omega arith);
    }

mutual
  goes : {level : Level} {tokens : List Placed} {n : Node} {rest : List Placed} → Spells level tokens n rest → (total from : ℕ)
      → InOrder total from tokens → (s : State) → Fits level s tokens → Gone level s tokens n rest
  goes (atom {token = token} {value = v} {span = span} {rest = rest} e) total at o s fit =
      record { to = read s; reached = refl; go = go_atom s token v span rest o.1 (λ p l. order_clear total span.end rest o.2 p l) e }
  goes (list {from = from} {to = to} {tokens = tokens} {rest = rest} {nodes = nodes} p) total at o s fit =
      let a = values_gone p total from.end o.2 (opened s (begin s) (after s.mode)) tt refl in
      let b = bracketed total s OpenList CloseList from to tokens rest (most (map depth nodes)) (λ p. among p nodes) (begin s) (after s.mode) refl refl (λ t. refl) (λ t. refl) refl o.1 a in
      record { to = read s; reached = refl; go = go_node (Value-F.List nodes) from to b (depth_list nodes from to) (λ p. refl) }
  goes (group {from = from} {to = to} {tokens = tokens} {rest = rest} {nodes = nodes} p) total at o s fit =
      let a = values_gone p total from.end o.2 (opened s (begin s) (after s.mode)) tt refl in
      let b = bracketed total s OpenGroup CloseGroup from to tokens rest (most (map depth nodes)) (λ p. among p nodes) (begin s) (after s.mode) refl refl (λ t. refl) (λ t. refl) refl o.1 a in
      record { to = read s; reached = refl; go = go_node (Value-F.Group nodes) from to b (depth_group nodes from to) (λ p. refl) }
  goes (bare p) total at o s fit = let g = goes p total at o s tt in record { to = g.to; reached = g.reached; go = g.go }
  goes (braced {from = from} {to = to} {inner = inner} {rest = rest} {value = v} {nodes = nodes} p q) total at o s fit =
      let g = goes p total at o s tt in
      let l = lies p total at o in
      let a = values_gone q total from.end l.after.2 (opened (read s) (begin s) (after s.mode)) tt refl in
      let b = bracketed total (read s) OpenBraces CloseBraces from to inner rest (most (map depth nodes)) (λ p. among p nodes) (begin s) (after s.mode) refl refl (λ t. refl) (λ t. refl) refl l.after.1 a in
      let c = l.some in let d = l.after.0 in let e = a.order.0 in let f = a.order.1 in let h = l.after.1 in let i = a.later in
      let both = go_then (reached_go v g.reached g.go) b (omega arith) d (omega arith) in
      record { to = read s; reached = refl; go = go_node (Value-F.Braced v nodes) v.span to both (depth_braced v nodes v.span to) (λ p. refl) }
  goes (pre_relation {op = op} {from = from} {tokens = tokens} {right = right} p) total at o s fit =
      let e = ready_relation s.mode s.floor s.level (placed (Relation op) from ∷ tokens) fit refl in
      let g = goes p total from.end o.2 (related s) tt in
      let l = lies p total from.end o.2 in
      let c = l.from in let d = l.some in let f = o.1 in
      let b = go_after s (Relation op) from.start from.end refl (omega arith) (omega arith) refl (go_base e (reached_go right g.reached g.go)) (omega arith) c (omega arith) in
      record {
        to = read (related s);
        reached = record { floor = refl; kept = refl; ready = tt; begins = refl };
        go = go_node (Value-F.PreRel op right) from right.span b (depth_pre_rel op right from right.span) (λ p. refl);
      }
  goes (alone {tokens = tokens} {rest = rest} {value = v} p h) total at o s fit =
      let g = goes p total at o s tt in
      record {
        to = read s;
        reached = record { floor = refl; kept = refl; ready = ready_after s.mode tokens rest fit h; begins = ready_begins s.mode s.floor (begin s) tokens fit };
        go = reached_go v g.reached g.go;
      }
  goes (relation {op = op} {at = sign} {tokens = tokens} {more = more} {left = left} {right = right} p q) total at o s fit =
      let g = goes p total at o s tt in
      let l = lies p total at o in
      let e = ready_joins s.mode s.floor (begin s) tokens fit in
      let r = goes q total sign.end l.after.2 (related (read s)) tt in
      let m = lies q total sign.end l.after.2 in
      let a = l.some in let b = l.after.0 in let c = l.after.1 in let d = m.from in let f = m.some in
      let second = go_after (read s) (Relation op) sign.start sign.end refl (omega arith) (omega arith) refl (go_base e (reached_go right r.reached r.go)) (omega arith) d (omega arith) in
      let both = go_then (reached_go left g.reached g.go) second (omega arith) b (omega arith) in
      record {
        to = read (related (read s));
        reached = record { floor = refl; kept = refl; ready = tt; begins = refl };
        go = go_node (Value-F.Rel op left right) left.span right.span both (depth_rel op left right left.span right.span) (λ p. refl);
      }
  goes (no_prefix p) total at o s fit = let g = goes p total at o s fit in record { to = g.to; reached = g.reached; go = g.go }
  goes (negation {from = from} {value = v} p) total at o s fit =
      let g = goes p total from.end o.2 (prefixed s) tt in
      let l = lies p total from.end o.2 in
      let a = l.from in let b = l.some in let c = o.1 in
      let d = go_prefixed s Not from.start from.end refl (omega arith) refl g.go (λ p l m. around_some p v l m) (omega arith) a (omega arith) in
      let r = g.reached in
      record {
        to = g.to;
        reached = record { floor = r.floor; kept = r.kept; ready = r.ready; begins = r.begins };
        go = go_node (Value-F.Not v) from v.span d (depth_not v from v.span) (λ p. refl);
      }
  goes (definedness {from = from} {value = v} p) total at o s fit =
      let g = goes p total from.end o.2 (prefixed s) tt in
      let l = lies p total from.end o.2 in
      let a = l.from in let b = l.some in let c = o.1 in
      let d = go_prefixed s Defined from.start from.end refl (omega arith) refl g.go (λ p l m. around_some p v l m) (omega arith) a (omega arith) in
      let r = g.reached in
      record {
        to = g.to;
        reached = record { floor = r.floor; kept = r.kept; ready = r.ready; begins = r.begins };
        go = go_node (Value-F.Defined v) from v.span d (depth_defined v from v.span) (λ p. refl);
      }
  goes (conjunction {first = head} {more = more} p) total at o s fit =
      let a = conjuncts_gone p total at o s fit in record { to = a.to; reached = a.reached; go = go_base (sym fit.1) (all_node head more a.go) }
  goes (disjunction {first = head} {more = more} p) total at o s fit =
      let a = disjuncts_gone p total at o s fit in record { to = a.to; reached = a.reached; go = go_base (sym fit.1) (any_node head more a.go) }
  goes (no_update p) total at o s fit = let g = goes p total at o s fit in record { to = g.to; reached = g.reached; go = g.go }
  goes (update {op = op} {at = sign} {left = left} {right = right} p q) total at o s fit =
      let g = goes p total at o s fit in
      let l = lies p total at o in
      let t = g.to in let w = g.reached in
      let r = goes q total sign.end l.after.2 (anew t) (tt, refl) in
      let m = lies q total sign.end l.after.2 in
      let a = l.some in let b = l.after.0 in let c = l.after.1 in let d = m.from in let f = m.some in let h = w.floor in
      let i = go_base (h ∙ sym fit.1) r.go in let j = fit.1 in
      let second = go_after t (Update op) sign.start sign.end refl (omega arith) (omega arith) refl i (omega arith) d (omega arith) in
      let both = go_then g.go second (omega arith) b (omega arith) in
      record {
        to = r.to;
        reached = rests_on w r.reached;
        go = go_node (Value-F.Env op left right) left.span right.span both (depth_env op left right left.span right.span) (λ p. refl);
      }

  values_gone : {tokens : List Placed} {nodes : List Node} {rest : List Placed} → AreValues tokens nodes rest → (total from : ℕ)
      → InOrder total from tokens → (s : State) → ReadyAt s.mode tokens → begin s ≡ s.floor
      → AllGone total from s tokens (most (map depth nodes)) (λ p. among p nodes) rest
  values_gone (no_value {rest = rest}) total at o s r e = record {
    to = s;
    floor = refl;
    kept = refl;
    stop = at;
    later = omega arith;
    order = o;
    go = all_none (λ p l. order_clear total at rest o p l);
    some = λ p l h. false_true (order_clear total at rest o p l) h;
  }
  values_gone (value {first = head} {more = more} p q) total at o s r e =
      let g = goes p total at o s (r, e) in
      let l = lies p total at o in
      let w = g.reached in
      let a = values_gone q total head.span.end l.after g.to w.ready w.begins in
      let b = l.from in let c = l.some in let d = a.later in
      record {
        to = a.to;
        floor = a.floor ∙ w.floor;
        kept = a.kept ∙ w.kept;
        stop = a.stop;
        later = omega arith;
        order = a.order;
        go = all_some (go_base e g.go) (all_base w.floor a.go) at b (omega arith) (omega arith) d;
        some = λ p l h. elim (order p head.span.end) [
          | inl i ↦ elim (order p head.span.start) [
            | inl j ↦ false_true (g.go.clear p j) h
            | inr j ↦ first_left (around p head) (among p more) (around_some p head j i)
          ]
          | inr i ↦ first_right (around p head) (among p more) (around_beyond p head i) (a.some p l (sym (g.go.keeps p i) ∙ h))
        ];
      }

  conjuncts_gone : {tokens : List Placed} {head : Node} {more : List Node} {rest : List Placed} → AreConjuncts tokens head more rest → (total from : ℕ)
      → InOrder total from tokens → (s : State) → ReadyAt s.mode tokens × (begin s ≡ s.floor) → PartsGone total from s tokens head more rest
  conjuncts_gone (last_conjunct {last = head} p) total at o s fit =
      let g = goes p total at o s fit.0 in let l = lies p total at o in one_part total at head fit.1 g.reached l.from l.some g.go
  conjuncts_gone (conjunct {at = sign} {first = head} {next = next} {more = more} p q) total at o s fit =
      let g = goes p total at o s fit.0 in
      let l = lies p total at o in
      let a = conjuncts_gone q total sign.end l.after.2 (anew g.to) (tt, refl) in
      more_parts total at head next more And sign fit.1 (λ z. refl) (λ z. refl) refl g.reached l.from l.some l.after.0 l.after.1 g.go a

  disjuncts_gone : {tokens : List Placed} {head : Node} {more : List Node} {rest : List Placed} → AreDisjuncts tokens head more rest → (total from : ℕ)
      → InOrder total from tokens → (s : State) → ReadyAt s.mode tokens × (begin s ≡ s.floor) → PartsGone total from s tokens head more rest
  disjuncts_gone (last_disjunct {last = head} p) total at o s fit =
      let g = goes p total at o s fit in let l = lies p total at o in one_part total at head fit.1 g.reached l.from l.some g.go
  disjuncts_gone (disjunct {at = sign} {first = head} {next = next} {more = more} p q) total at o s fit =
      let g = goes p total at o s fit in
      let l = lies p total at o in
      let a = disjuncts_gone q total sign.end l.after.2 (anew g.to) (tt, refl) in
      more_parts total at head next more Or sign fit.1 (λ z. refl) (λ z. refl) refl g.reached l.from l.some l.after.0 l.after.1 g.go a

abbrev in_fields : ℕ → List (List ℕ × Node) → Option ℕ
in_fields p fields = first_among (map (λ f. around p f.1) fields)

-- a name, a colon and a value
go_field : {s t : State} {tokens rest : List Placed} (total from : ℕ) (name : List ℕ) (before colon : Span) (v : Node) → begin s ≡ s.floor
    → before.start < before.end → before.end ≤ colon.start → colon.start < colon.end → colon.end ≤ v.span.start → v.span.start < v.span.end
    → Go (anew (read s)) tokens s.floor (depth v) v.span.start v.span.end (λ p. around p v) t rest
    → Go s (placed (Plain name) before ∷ placed Colon colon ∷ tokens) s.floor (depth v) before.start v.span.end (λ p. around p v) t rest
go_field {s} total from name before colon v e i j k l m g =
    go_after s (Plain name) before.start before.end refl (omega arith) (omega arith) refl
    (go_after (read s) Colon colon.start colon.end refl (omega arith) (omega arith) refl g (omega arith) l (omega arith))
    (omega arith) j (omega arith)

fields_gone : {tokens : List Placed} {fields : List (List ℕ × Node)} {places : List ℕ} {rest : List Placed} → AreFields tokens fields places rest
    → (total from : ℕ) → InOrder total from tokens → (s : State) → begin s ≡ s.floor
    → AllGone total from s tokens (most (map (λ f. depth f.1) fields)) (λ p. in_fields p fields) rest
fields_gone (no_field {rest = rest}) total at o s e = record {
  to = s;
  floor = refl;
  kept = refl;
  stop = at;
  later = omega arith;
  order = o;
  go = all_none (λ p l. order_clear total at rest o p l);
  some = λ p l h. false_true (order_clear total at rest o p l) h;
}
fields_gone (field {name = name} {from = from} {at = sign} {value = v} {fields = fields} p q) total at o s e =
    let g = goes p total sign.end o.2.2 (anew (read s)) (tt, refl) in
    let l = lies p total sign.end o.2.2 in
    let w = g.reached in
    let a = fields_gone q total v.span.end l.after g.to w.begins in
    let b = l.from in let c = l.some in let d = a.later in let f = o.0 in let h = o.1 in let i = o.2.0 in let j = o.2.1 in
    record {
      to = a.to;
      floor = a.floor ∙ w.floor;
      kept = a.kept ∙ w.kept;
      stop = a.stop;
      later = omega arith;
      order = a.order;
      go = all_some (go_field total at name from sign v e h i j b c g.go) (all_base w.floor a.go) at f (omega arith) (omega arith) d;
      some = λ p q k. elim (order p v.span.end) [
        | inl x ↦ elim (order p v.span.start) [
          | inl y ↦ false_true (g.go.clear p y) k
          | inr y ↦ first_left (around p v) (in_fields p fields) (around_some p v y x)
        ]
        | inr x ↦ first_right (around p v) (in_fields p fields) (around_beyond p v x) (a.some p q (sym (g.go.keeps p x) ∙ k))
      ];
    }

abbrev in_entries : ℕ → List Entry → Option ℕ
in_entries p entries = first_among (map (λ entry. contents_around p entry.contents) entries)

-- the fields of a section in its braces
braces_gone : {tokens between : List Placed} {fields : List (List ℕ × Node)} {places : List ℕ} {to : Span}
    → AreFields tokens fields places (placed CloseBraces to ∷ between) → (total : ℕ) (sign : Span) → sign.start < sign.end → InOrder total sign.end tokens → (s : State)
    → s.level ≡ s.floor
    → Go s (placed OpenBraces sign ∷ tokens) s.floor (1 + most (map (λ f. depth f.1) fields)) sign.start to.end (λ p. deeper (in_fields p fields)) s between
    × (sign.end < to.end) × InOrder total to.end between
braces_gone {tokens} {between} {fields} {places} {to} p total sign i o s e =
    let a = fields_gone p total sign.end o (opened s s.level s.mode) refl in
    let b = a.order.0 in let c = a.order.1 in let d = a.later in (
      go_base e (bracketed total s OpenBraces CloseBraces sign to tokens between (most (map (λ f. depth f.1) fields)) (λ p. in_fields p fields) s.level s.mode
          refl refl (λ t. refl) (λ t. refl) refl i a),
      omega arith,
      a.order.2,
    )

entries_gone : {tokens : List Placed} {entries : List Entry} → AreEntries tokens entries → (total from : ℕ) → InOrder total from tokens → (s : State)
    → begin s ≡ s.floor → EntriesGone total from s tokens (most (map (λ entry. contents_depth entry.contents) entries)) (λ p. in_entries p entries) []
entries_gone no_entry total at o s e = record { to = s; floor = refl; kept = refl; stop = at; later = omega arith; order = o; go = all_none (λ p l. refl) }
entries_gone (field_next {name = name} {from = from} {at = sign} {value = v} {entries = entries} p q) total at o s e =
    let g = goes p total sign.end o.2.2 (anew (read s)) (tt, refl) in
    let l = lies p total sign.end o.2.2 in
    let w = g.reached in
    let a = entries_gone q total v.span.end l.after g.to w.begins in
    let b = l.from in let c = l.some in let d = a.later in let f = o.0 in let h = o.1 in let i = o.2.0 in let j = o.2.1 in
    record {
      to = a.to;
      floor = a.floor ∙ w.floor;
      kept = a.kept ∙ w.kept;
      stop = a.stop;
      later = omega arith;
      order = a.order;
      go = all_some (go_field total at name from sign v e h i j b c g.go) (all_base w.floor a.go) at f (omega arith) (omega arith) d;
    }
entries_gone (section_next {name = name} {from = from} {at = sign} {to = to} {tokens = tokens} {fields = fields} {entries = entries} p q) total at o s e =
    let c = even (after s.mode) s.floor (begin s) e in
    let b = braces_gone p total sign o.2.1 o.2.2 (read s) e in
    let a = entries_gone q total to.end b.2 (read s) c in
    let d = a.later in let f = o.0 in let h = o.1 in let i = o.2.0 in let j = o.2.1 in let k = b.1 in
    record {
      to = a.to;
      floor = a.floor;
      kept = a.kept;
      stop = a.stop;
      later = omega arith;
      order = a.order;
      go = all_some (go_after s (Plain name) from.start from.end refl (omega arith) (omega arith) refl b.0 (omega arith) i (omega arith)) a.go at f (omega arith) (omega arith) d;
    }
entries_gone (labelled_next {name = name} {label = label} {from = from} {by = by} {at = sign} {to = to} {tokens = tokens} {fields = fields} {entries = entries} p q) total at o s e =
    let c = even (after s.mode) s.floor (begin s) e in
    let x = even (after (after s.mode)) s.floor (begin (read s)) c in
    let b = braces_gone p total sign o.2.2.1 o.2.2.2 (read (read s)) c in
    let a = entries_gone q total to.end b.2 (read (read s)) x in
    let d = a.later in let f = o.0 in let h = o.1 in let i = o.2.0 in let j = o.2.1 in let k = b.1 in let m = o.2.2.0 in let n = o.2.2.1 in
    record {
      to = a.to;
      floor = a.floor;
      kept = a.kept;
      stop = a.stop;
      later = omega arith;
      order = a.order;
      go = all_some (go_after s (Plain name) from.start from.end refl (omega arith) (omega arith) refl
          (go_after (read s) (Text label) by.start by.end refl (omega arith) (omega arith) refl b.0 (omega arith) m (omega arith)) (omega arith) i (omega arith))
          a.go at f (omega arith) (omega arith) d;
    }

-- nothing that shallow entries have is nested in more than the limit
pub shallow_below : (total : ℕ) (tokens : List Placed) (entries : List Entry) → InOrder total 0 tokens → AreEntries tokens entries → AreShallow entries
    → Below NESTING_LIMIT start tokens
shallow_below total tokens entries o p s = (entries_gone p total 0 o start refl).go.below NESTING_LIMIT (omega arith) tt

-- a place is nested in no more than the tokens before it tell
pub nesting_told : (total place : ℕ) (tokens : List Placed) (entries : List Entry) → InOrder total 0 tokens → AreEntries tokens entries
    → nesting_at place entries ≤ at_place place start tokens
nesting_told total place tokens entries o p = let a = (entries_gone p total 0 o start refl).go.tells place (omega arith) in omega arith

-- where a token opens, its place is nested in just as much as the tokens before it tell
pub nesting_exact : (total place : ℕ) (tokens : List Placed) (entries : List Entry) → InOrder total 0 tokens → AreEntries tokens entries
    → list_any (opens_at place) tokens ≡ true → at_place place start tokens ≡ nesting_at place entries
nesting_exact total place tokens entries o p h =
    let a = entries_gone p total 0 o start refl in elim (order place a.stop) [
      | inl i ↦ (let b = a.go.exact place i h in omega arith)
      | inr i ↦ false_true (a.go.keeps place i) h
    ]
