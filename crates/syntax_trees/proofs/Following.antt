-- Which tokens may follow others, and that what was read so far can always be completed to a file.
use Rattle.std.proofs.Common.{◌≡◌, ℕ, Bool, true, false, List, [], ◌∷◌, ◌++◌, refl, sym, subst, ap, ◌∙◌, ◌⊎◌, inl, inr, map}
use Rattle.std.specs.declared.option.Option.{Option}
use Rattle.std.specs.declared.option.Option.TheVariants.{None, Some}
use Rattle.syntax_trees.specs.declared.token.Token.{Token}
use Rattle.syntax_trees.specs.declared.token.Token.TheVariants.{Flag, Int, Text, Plain, Scoped, Colon, OpenList, CloseList, OpenBraces, CloseBraces, OpenGroup, CloseGroup, Relation, Update, And, Or, Not, Defined}
use Rattle.syntax_trees.specs.declared.tree.RelOp.{RelOp}
use Rattle.syntax_trees.specs.declared.tree.EnvOp.{EnvOp}
use Rattle.syntax_trees.specs.declared.tree.Node.{Node}
use Rattle.syntax_trees.specs.declared.tree.Span.{Span}
use Rattle.syntax_trees.specs.declared.tree.Value.{Value}
use Rattle.syntax_trees.specs.Following.{ExpectedNext as Expected, ValueBracket as Within, OpenBracket as Frame, TokenControl as Control, now_expecting as expecting, further_operand as further, operand_begun as begun, control_mapped as mapped, bracket_pushed as pushed, same_within, bracket_popped_if as popped_if, bracket_popped as popped, section_ends, closes_braces, name_begun as named, follow_atom, follow_plain, follow_text, follow_open, follow_braces, follow_close, follow_close_braces, follow_relation, follow_update, follow_connective, follow_colon, token_follows as follow, followed_after as followed_from, tokens_followed as followed, AtEntry, AfterName, AfterLabel, Operand, Inside, Side, AfterPrimary, AfterBraces, InList, InGroup, InBraces, token_of}
use Rattle.syntax_trees.specs.Tokens.{Placed, placed}
use Rattle.syntax_trees.specs.Grammar.{ValueLevel, UnaryLevel, BracedLevel, PrimaryLevel, atom_of, begins_relation, Spells, atom, list, group, bare, braced, pre_relation, alone, relation, no_prefix, negation, definedness, conjunction, disjunction, no_update, update, AreValues, no_value, value, last_conjunct, conjunct, AreDisjuncts, last_disjunct, disjunct}
use Rattle.syntax_trees.specs.Files.{Entry, AreFields, no_field, field, AreEntries, no_entry, field_next, section_next, labelled_next}

-- what completes a value, where something is known of what stands after it: the rest after an operand, and from an operand on
mutual
  pub data Tail (A : List Placed → Type 0) : Bool → List Placed → Type 0 where
    stop : {u : Bool} {tokens : List Placed} → A tokens → Tail A u tokens
    and_on : {u : Bool} {at : Span} {tokens : List Placed} → OperandOwed A u tokens → Tail A u (placed And at ∷ tokens)
    or_on : {u : Bool} {at : Span} {tokens : List Placed} → OperandOwed A u tokens → Tail A u (placed Or at ∷ tokens)
    update_on : {op : EnvOp} {at : Span} {tokens : List Placed} → OperandOwed A true tokens → Tail A false (placed (Update op) at ∷ tokens)

  pub data OperandOwed (A : List Placed → Type 0) : Bool → List Placed → Type 0 where
    operand : {u : Bool} {tokens rest : List Placed} {n : Node} → Spells UnaryLevel tokens n rest → Tail A u rest → OperandOwed A u tokens

pub data RightOwed (A : List Placed → Type 0) : Bool → List Placed → Type 0 where
  right_side : {u : Bool} {tokens rest : List Placed} {n : Node} → Spells BracedLevel tokens n rest → Tail A u rest → RightOwed A u tokens

pub data BracedOwed (A : List Placed → Type 0) : Bool → Bool → List Placed → Type 0 where
  right_done : {u : Bool} {tokens : List Placed} → Tail A u tokens → BracedOwed A true u tokens
  left_done : {u : Bool} {tokens : List Placed} → begins_relation tokens ≡ false → Tail A u tokens → BracedOwed A false u tokens
  relates : {u : Bool} {op : RelOp} {at : Span} {tokens : List Placed} → RightOwed A u tokens → BracedOwed A false u (placed (Relation op) at ∷ tokens)

pub data PrimaryOwed (A : List Placed → Type 0) : Bool → Bool → List Placed → Type 0 where
  no_braces : {right u : Bool} {tokens : List Placed} → BracedOwed A right u tokens → PrimaryOwed A right u tokens
  braces : {right u : Bool} {from to : Span} {inner rest : List Placed} {nodes : List Node} → AreValues inner nodes (placed CloseBraces to ∷ rest)
      → BracedOwed A right u rest → PrimaryOwed A right u (placed OpenBraces from ∷ inner)

abbrev pub close_of : Within → Token
close_of InList = CloseList
close_of InGroup = CloseGroup
close_of InBraces = CloseBraces

abbrev pub ClosedOwed : (List Placed → Type 0) → Within → Bool → Bool → List Placed → Type 0
ClosedOwed A InList right u tokens = PrimaryOwed A right u tokens
ClosedOwed A InGroup right u tokens = PrimaryOwed A right u tokens
ClosedOwed A InBraces right u tokens = BracedOwed A right u tokens

-- the fields up to the end of a section, and entries after it
pub record SectionRest (tokens : List Placed) : Type 0 where
  pub fields : List (List ℕ × Node)
  pub places : List ℕ
  pub to : Span
  pub rest : List Placed
  pub spelled : AreFields tokens fields places (placed CloseBraces to ∷ rest)
  pub entries : List Entry
  pub others : AreEntries rest entries

-- the values up to the end of a bracket, and what is owed after it
pub record BracketRest (A : List Placed → Type 0) (f : Frame) (tokens : List Placed) : Type 0 where
  pub nodes : List Node
  pub to : Span
  pub rest : List Placed
  pub spelled : AreValues tokens nodes (placed (close_of f.within) to ∷ rest)
  pub owed : ClosedOwed A f.within f.right f.updated rest

abbrev pub AfterEntry : Bool → List Placed → Type 0
AfterEntry false tokens = (entries : List Entry) × AreEntries tokens entries
AfterEntry true tokens = SectionRest tokens

-- what may stand after a value
abbrev pub AfterValue : List Frame → Bool → List Placed → Type 0
AfterValue [] section tokens = AfterEntry section tokens
AfterValue (f ∷ frames) section tokens = BracketRest (AfterValue frames section) f tokens

-- the tokens complete what was read so far to a file
abbrev pub OwedAt : Expected → Bool → List Frame → Bool → List Placed → Type 0
OwedAt AtEntry updated frames section tokens = AfterEntry section tokens
OwedAt AfterName updated frames section tokens = (name : List ℕ) (from : Span) → AfterEntry section (placed (Plain name) from ∷ tokens)
OwedAt AfterLabel updated frames section tokens =
    (name label : List ℕ) (from by : Span) → AfterEntry false (placed (Plain name) from ∷ placed (Text label) by ∷ tokens)
OwedAt Operand updated frames section tokens = OperandOwed (AfterValue frames section) updated tokens
OwedAt Inside updated frames section tokens = AfterValue frames section tokens
OwedAt Side updated frames section tokens = RightOwed (AfterValue frames section) updated tokens
OwedAt (AfterPrimary right) updated frames section tokens = PrimaryOwed (AfterValue frames section) right updated tokens
OwedAt (AfterBraces right) updated frames section tokens = BracedOwed (AfterValue frames section) right updated tokens

abbrev pub Owed : Control → List Placed → Type 0
Owed c tokens = OwedAt c.expected c.updated c.frames c.section tokens

-- an operand and its tail are a value
record Joined (tokens rest : List Placed) : Type 0 where
  n : Node
  more : List Node
  spelled : AreDisjuncts tokens n more rest

record Done (A : List Placed → Type 0) (tokens : List Placed) : Type 0 where
  n : Node
  rest : List Placed
  spelled : Spells ValueLevel tokens n rest
  owed : A rest

and_joined : {tokens between rest : List Placed} {n : Node} {at : Span} → Spells UnaryLevel tokens n (placed And at ∷ between) → Joined between rest → Joined tokens rest
and_joined p j = and_first p j.spelled
  where
    and_first : {tokens between rest : List Placed} {n first : Node} {more : List Node} {at : Span} → Spells UnaryLevel tokens n (placed And at ∷ between)
        → AreDisjuncts between first more rest → Joined tokens rest
    and_first p (last_disjunct (conjunction q)) = record { n = _; more = []; spelled = last_disjunct (conjunction (conjunct p q)) }
    and_first p (disjunct (conjunction q) r) = record { n = _; more = _; spelled = disjunct (conjunction (conjunct p q)) r }

or_joined : {tokens between rest : List Placed} {n : Node} {at : Span} → Spells UnaryLevel tokens n (placed Or at ∷ between) → Joined between rest → Joined tokens rest
or_joined p j = record { n = _; more = _; spelled = disjunct (conjunction (last_conjunct p)) j.spelled }

one_joined : {tokens rest : List Placed} {n : Node} → Spells UnaryLevel tokens n rest → Joined tokens rest
one_joined p = record { n = _; more = []; spelled = last_disjunct (conjunction (last_conjunct p)) }

-- operands that are joined, up to an update or to the end of the value
data Run (A : List Placed → Type 0) : Bool → List Placed → Type 0 where
  run_end : {u : Bool} {tokens rest : List Placed} → Joined tokens rest → A rest → Run A u tokens
  run_update : {op : EnvOp} {at : Span} {tokens between : List Placed} → Joined tokens (placed (Update op) at ∷ between) → Run A true between → Run A false tokens

run_and : {A : List Placed → Type 0} {u : Bool} {tokens between : List Placed} {n : Node} {at : Span} → Spells UnaryLevel tokens n (placed And at ∷ between)
    → Run A u between → Run A u tokens
run_and p (run_end j a) = run_end (and_joined p j) a
run_and p (run_update j r) = run_update (and_joined p j) r

run_or : {A : List Placed → Type 0} {u : Bool} {tokens between : List Placed} {n : Node} {at : Span} → Spells UnaryLevel tokens n (placed Or at ∷ between)
    → Run A u between → Run A u tokens
run_or p (run_end j a) = run_end (or_joined p j) a
run_or p (run_update j r) = run_update (or_joined p j) r

mutual
  owed_run : {A : List Placed → Type 0} {u : Bool} {tokens : List Placed} → OperandOwed A u tokens → Run A u tokens
  owed_run (operand p t) = tail_run p t

  tail_run : {A : List Placed → Type 0} {u : Bool} {tokens rest : List Placed} {n : Node} → Spells UnaryLevel tokens n rest → Tail A u rest → Run A u tokens
  tail_run p (stop a) = run_end (one_joined p) a
  tail_run p (and_on o) = run_and p (owed_run o)
  tail_run p (or_on o) = run_or p (owed_run o)
  tail_run p (update_on o) = run_update (one_joined p) (owed_run o)

run_done : {A : List Placed → Type 0} {tokens : List Placed} → Run A false tokens → Done A tokens
run_done (run_end {rest = rest} j a) = record { n = _; rest = rest; spelled = no_update (disjunction j.spelled); owed = a }
run_done (run_update j r) = with_right j r
  where
    with_right : {A : List Placed → Type 0} {op : EnvOp} {at : Span} {tokens between : List Placed} → Joined tokens (placed (Update op) at ∷ between)
        → Run A true between → Done A tokens
    with_right j (run_end {rest = rest} k a) = record { n = _; rest = rest; spelled = update (disjunction j.spelled) (disjunction k.spelled); owed = a }

owed_done : {A : List Placed → Type 0} {tokens : List Placed} → OperandOwed A false tokens → Done A tokens
owed_done o = run_done (owed_run o)

-- one value more
more_values : {A : List Placed → Type 0} {f : Frame} {tokens : List Placed} → OperandOwed (BracketRest A f) false tokens → BracketRest A f tokens
more_values o =
    let d = owed_done o in
    let b = d.owed in
    record { nodes = d.n ∷ b.nodes; to = b.to; rest = b.rest; spelled = value d.spelled b.spelled; owed = b.owed }

primary_operand : {A : List Placed → Type 0} {u : Bool} {tokens rest : List Placed} {n : Node} → Spells PrimaryLevel tokens n rest → PrimaryOwed A false u rest → OperandOwed A u tokens
primary_operand p (no_braces (left_done h t)) = operand (no_prefix (alone (bare p) h)) t
primary_operand p (no_braces (relates (right_side q t))) = operand (no_prefix (relation (bare p) q)) t
primary_operand p (braces v (left_done h t)) = operand (no_prefix (alone (braced p v) h)) t
primary_operand p (braces v (relates (right_side q t))) = operand (no_prefix (relation (braced p v) q)) t

primary_side : {A : List Placed → Type 0} {u : Bool} {tokens rest : List Placed} {n : Node} → Spells PrimaryLevel tokens n rest → PrimaryOwed A true u rest → RightOwed A u tokens
primary_side p (no_braces (right_done t)) = right_side (bare p) t
primary_side p (braces v (right_done t)) = right_side (braced p v) t

side_operand : {A : List Placed → Type 0} {u : Bool} {op : RelOp} {at : Span} {tokens : List Placed} → RightOwed A u tokens → OperandOwed A u (placed (Relation op) at ∷ tokens)
side_operand (right_side q t) = operand (no_prefix (pre_relation q)) t

not_operand : {A : List Placed → Type 0} {u : Bool} {at : Span} {tokens : List Placed} → OperandOwed A u tokens → OperandOwed A u (placed Not at ∷ tokens)
not_operand (operand p t) = operand (negation p) t

defined_operand : {A : List Placed → Type 0} {u : Bool} {at : Span} {tokens : List Placed} → OperandOwed A u tokens → OperandOwed A u (placed Defined at ∷ tokens)
defined_operand (operand p t) = operand (definedness p) t

-- a tail where a primary or its braces stand before it
tail_braced : {A : List Placed → Type 0} (right : Bool) {u : Bool} {tokens : List Placed} → begins_relation tokens ≡ false → Tail A u tokens → BracedOwed A right u tokens
tail_braced true h t = right_done t
tail_braced false h t = left_done h t

tail_primary : {A : List Placed → Type 0} (right : Bool) {u : Bool} {tokens : List Placed} → begins_relation tokens ≡ false → Tail A u tokens → PrimaryOwed A right u tokens
tail_primary right h t = no_braces (tail_braced right h t)

list_rest : {A : List Placed → Type 0} {u : Bool} {from : Span} {tokens : List Placed} → BracketRest A (record { within = InList; right = false; updated = u }) tokens
    → OperandOwed A u (placed OpenList from ∷ tokens)
list_rest b = primary_operand (list b.spelled) b.owed

list_side : {A : List Placed → Type 0} {u : Bool} {from : Span} {tokens : List Placed} → BracketRest A (record { within = InList; right = true; updated = u }) tokens
    → RightOwed A u (placed OpenList from ∷ tokens)
list_side b = primary_side (list b.spelled) b.owed

group_rest : {A : List Placed → Type 0} {u : Bool} {from : Span} {tokens : List Placed} → BracketRest A (record { within = InGroup; right = false; updated = u }) tokens
    → OperandOwed A u (placed OpenGroup from ∷ tokens)
group_rest b = primary_operand (group b.spelled) b.owed

group_side : {A : List Placed → Type 0} {u : Bool} {from : Span} {tokens : List Placed} → BracketRest A (record { within = InGroup; right = true; updated = u }) tokens
    → RightOwed A u (placed OpenGroup from ∷ tokens)
group_side b = primary_side (group b.spelled) b.owed

field_owed : (name : List ℕ) (from at : Span) {tokens : List Placed} (section : Bool) → Done (AfterEntry section) tokens
    → AfterEntry section (placed (Plain name) from ∷ placed Colon at ∷ tokens)
field_owed name from at false d = (_, field_next d.spelled d.owed.1)
field_owed name from at true d =
    let s = d.owed in
    record { fields = _; places = _; to = s.to; rest = s.rest; spelled = field d.spelled s.spelled; entries = s.entries; others = s.others }

-- equal states
the_same : {A : Type 0} {x y : A} → Some x ≡ Some y → x ≡ y
the_same e = cc

from_some : {A : Type 0} {x y : A} (P : A → Type 0) → Some x ≡ Some y → P y → P x
from_some P e p = subst P (sym (the_same e)) p

into_some : {A : Type 0} {x y : A} (P : A → Type 0) → Some x ≡ Some y → P x → P y
into_some P e p = subst P (the_same e) p

none_some : {A : Type 0} {B : Type 0} {x : A} → None ≡ Some x → B
none_some e = absurd cc

abbrev mk : Expected → Bool → List Frame → Bool → Control
mk e u fs s = record { expected = e; updated = u; frames = fs; section = s }

abbrev FromOperand : List Placed → Control → Type 0
FromOperand tokens d = OperandOwed (AfterValue d.frames d.section) d.updated tokens

begun_owed : (e : Expected) (u : Bool) (fs : List Frame) (s : Bool) (d : Control) (tokens : List Placed) → begun e (mk e u fs s) ≡ Some d
    → begins_relation tokens ≡ false → FromOperand tokens d → OwedAt e u fs s tokens
begun_owed Operand u fs s d tokens e h o = from_some (FromOperand tokens) e o
begun_owed Inside u [] s d tokens e h o = none_some e
begun_owed Inside u (f ∷ fs) s d tokens e h o = more_values (from_some (FromOperand tokens) e o)
begun_owed (AfterPrimary right) u [] s d tokens e h o = none_some e
begun_owed (AfterPrimary right) u (f ∷ fs) s d tokens e h o = tail_primary right h (stop (more_values (from_some (FromOperand tokens) e o)))
begun_owed (AfterBraces right) u [] s d tokens e h o = none_some e
begun_owed (AfterBraces right) u (f ∷ fs) s d tokens e h o = tail_braced right h (stop (more_values (from_some (FromOperand tokens) e o)))
begun_owed AtEntry u fs s d tokens e h o = none_some e
begun_owed AfterName u fs s d tokens e h o = none_some e
begun_owed AfterLabel u fs s d tokens e h o = none_some e
begun_owed Side u fs s d tokens e h o = none_some e

mapped_some : (f : Control → Control) (o : Option Control) (d : Control) → mapped f o ≡ Some d → (x : Control) × (o ≡ Some x) × (f x ≡ d)
mapped_some f None d e = none_some e
mapped_some f (Some x) d e = (x, refl, the_same e)

-- an operand that begins with a primary
mapped_owed : (e : Expected) (u : Bool) (fs : List Frame) (s : Bool) (d : Control) (tokens ts : List Placed) (f : Control → Control)
    → mapped f (begun e (mk e u fs s)) ≡ Some d → begins_relation tokens ≡ false → ((x : Control) → Owed (f x) ts → FromOperand tokens x) → Owed d ts → OwedAt e u fs s tokens
mapped_owed e u fs s d tokens ts f i h k o =
    let m = mapped_some f (begun e (mk e u fs s)) d i in
    let Here : Control → Type 0 = λ z. Owed z ts in
    begun_owed e u fs s m.0 tokens m.1 h (k m.0 (subst Here (sym m.2) o))

follow_atom_owed : (e : Expected) (u : Bool) (fs : List Frame) (s : Bool) (d : Control) (token : Token) (at : Span) (ts : List Placed) (v : Value)
    → atom_of token ≡ Some v → begins_relation (placed token at ∷ ts) ≡ false → follow_atom e (mk e u fs s) ≡ Some d → Owed d ts → OwedAt e u fs s (placed token at ∷ ts)
follow_atom_owed Side u fs s d token at ts v a h e o = primary_side (atom a) (from_some (λ z. Owed z ts) e o)
follow_atom_owed AtEntry u fs s d token at ts v a h e o = none_some e
follow_atom_owed AfterName u fs s d token at ts v a h e o = none_some e
follow_atom_owed AfterLabel u fs s d token at ts v a h e o = none_some e
follow_atom_owed Operand u fs s d token at ts v a h e o =
    mapped_owed Operand u fs s d (placed token at ∷ ts) ts (expecting (AfterPrimary false)) e h (λ x p. primary_operand (atom a) p) o
follow_atom_owed Inside u fs s d token at ts v a h e o =
    mapped_owed Inside u fs s d (placed token at ∷ ts) ts (expecting (AfterPrimary false)) e h (λ x p. primary_operand (atom a) p) o
follow_atom_owed (AfterPrimary right) u fs s d token at ts v a h e o =
    mapped_owed (AfterPrimary right) u fs s d (placed token at ∷ ts) ts (expecting (AfterPrimary false)) e h (λ x p. primary_operand (atom a) p) o
follow_atom_owed (AfterBraces right) u fs s d token at ts v a h e o =
    mapped_owed (AfterBraces right) u fs s d (placed token at ∷ ts) ts (expecting (AfterPrimary false)) e h (λ x p. primary_operand (atom a) p) o

named_owed : (fs : List Frame) (u s : Bool) (e : Expected) (d : Control) (name : List ℕ) (at : Span) (ts : List Placed)
    → named fs (mk e u fs s) ≡ Some d → Owed d ts → AfterValue fs s (placed (Plain name) at ∷ ts)
named_owed [] u s e d name at ts i o = (from_some (λ z. Owed z ts) i o) name at
named_owed (f ∷ fs) u s e d name at ts i o = more_values (primary_operand (atom refl) (from_some (λ z. Owed z ts) i o))

follow_plain_owed : (e : Expected) (u : Bool) (fs : List Frame) (s : Bool) (d : Control) (name : List ℕ) (at : Span) (ts : List Placed)
    → follow_plain e (mk e u fs s) ≡ Some d → Owed d ts → OwedAt e u fs s (placed (Plain name) at ∷ ts)
follow_plain_owed Side u fs s d name at ts e o = follow_atom_owed Side u fs s d (Plain name) at ts _ refl refl e o
follow_plain_owed Operand u fs s d name at ts e o = follow_atom_owed Operand u fs s d (Plain name) at ts _ refl refl e o
follow_plain_owed Inside u fs s d name at ts e o = follow_atom_owed Inside u fs s d (Plain name) at ts _ refl refl e o
follow_plain_owed (AfterPrimary right) u fs s d name at ts e o = tail_primary right refl (stop (named_owed fs u s (AfterPrimary right) d name at ts e o))
follow_plain_owed (AfterBraces right) u fs s d name at ts e o = tail_braced right refl (stop (named_owed fs u s (AfterBraces right) d name at ts e o))
follow_plain_owed AtEntry u fs s d name at ts e o = (from_some (λ z. Owed z ts) e o) name at
follow_plain_owed AfterName u fs s d name at ts e o = none_some e
follow_plain_owed AfterLabel u fs s d name at ts e o = none_some e

follow_text_owed : (e : Expected) (u : Bool) (fs : List Frame) (s : Bool) (d : Control) (bytes : List ℕ) (at : Span) (ts : List Placed)
    → follow_text e (mk e u fs s) ≡ Some d → Owed d ts → OwedAt e u fs s (placed (Text bytes) at ∷ ts)
follow_text_owed AfterName u fs true d bytes at ts e o = none_some e
follow_text_owed AfterName u fs false d bytes at ts e o = λ name from. (from_some (λ z. Owed z ts) e o) name bytes from at
follow_text_owed Side u fs s d bytes at ts e o = follow_atom_owed Side u fs s d (Text bytes) at ts _ refl refl e o
follow_text_owed Operand u fs s d bytes at ts e o = follow_atom_owed Operand u fs s d (Text bytes) at ts _ refl refl e o
follow_text_owed Inside u fs s d bytes at ts e o = follow_atom_owed Inside u fs s d (Text bytes) at ts _ refl refl e o
follow_text_owed (AfterPrimary right) u fs s d bytes at ts e o = follow_atom_owed (AfterPrimary right) u fs s d (Text bytes) at ts _ refl refl e o
follow_text_owed (AfterBraces right) u fs s d bytes at ts e o = follow_atom_owed (AfterBraces right) u fs s d (Text bytes) at ts _ refl refl e o
follow_text_owed AtEntry u fs s d bytes at ts e o = none_some e
follow_text_owed AfterLabel u fs s d bytes at ts e o = none_some e

open_owed : (within : Within) (token : Token) (e : Expected) (u : Bool) (fs : List Frame) (s : Bool) (d : Control) (at : Span) (ts : List Placed)
    → begins_relation (placed token at ∷ ts) ≡ false
    → ((A : List Placed → Type 0) (v : Bool) → BracketRest A (record { within = within; right = false; updated = v }) ts → OperandOwed A v (placed token at ∷ ts))
    → ((A : List Placed → Type 0) (v : Bool) → BracketRest A (record { within = within; right = true; updated = v }) ts → RightOwed A v (placed token at ∷ ts))
    → follow_open within e (mk e u fs s) ≡ Some d → Owed d ts → OwedAt e u fs s (placed token at ∷ ts)
open_owed within token Side u fs s d at ts h k l e o = l (AfterValue fs s) u (from_some (λ z. Owed z ts) e o)
open_owed within token Operand u fs s d at ts h k l e o =
    mapped_owed Operand u fs s d (placed token at ∷ ts) ts (pushed within false) e h (λ x p. k (AfterValue x.frames x.section) x.updated p) o
open_owed within token Inside u fs s d at ts h k l e o =
    mapped_owed Inside u fs s d (placed token at ∷ ts) ts (pushed within false) e h (λ x p. k (AfterValue x.frames x.section) x.updated p) o
open_owed within token (AfterPrimary right) u fs s d at ts h k l e o =
    mapped_owed (AfterPrimary right) u fs s d (placed token at ∷ ts) ts (pushed within false) e h (λ x p. k (AfterValue x.frames x.section) x.updated p) o
open_owed within token (AfterBraces right) u fs s d at ts h k l e o =
    mapped_owed (AfterBraces right) u fs s d (placed token at ∷ ts) ts (pushed within false) e h (λ x p. k (AfterValue x.frames x.section) x.updated p) o
open_owed within token AtEntry u fs s d at ts h k l e o = none_some e
open_owed within token AfterName u fs s d at ts h k l e o = none_some e
open_owed within token AfterLabel u fs s d at ts h k l e o = none_some e

follow_braces_owed : (e : Expected) (u : Bool) (fs : List Frame) (s : Bool) (d : Control) (at : Span) (ts : List Placed)
    → follow_braces e (mk e u fs s) ≡ Some d → Owed d ts → OwedAt e u fs s (placed OpenBraces at ∷ ts)
follow_braces_owed (AfterPrimary right) u fs s d at ts e o =
    let b : BracketRest (AfterValue fs s) (record { within = InBraces; right = right; updated = u }) ts = from_some (λ z. Owed z ts) e o in braces b.spelled b.owed
follow_braces_owed AfterName u fs true d at ts e o = none_some e
follow_braces_owed AfterName u fs false d at ts e o =
    λ name from. let r : SectionRest ts = from_some (λ z. Owed z ts) e o in (_, section_next r.spelled r.others)
follow_braces_owed AfterLabel u fs s d at ts e o =
    λ name label from by. let r : SectionRest ts = from_some (λ z. Owed z ts) e o in (_, labelled_next r.spelled r.others)
follow_braces_owed (AfterBraces right) u fs s d at ts e o = none_some e
follow_braces_owed AtEntry u fs s d at ts e o = none_some e
follow_braces_owed Operand u fs s d at ts e o = none_some e
follow_braces_owed Inside u fs s d at ts e o = none_some e
follow_braces_owed Side u fs s d at ts e o = none_some e

popped_in : (within w : Within) (right u : Bool) (fs : List Frame) (s : Bool) (d : Control) (at : Span) (ts : List Placed)
    → popped_if (same_within within w) (record { within = w; right = right; updated = u }) fs s ≡ Some d → Owed d ts
    → BracketRest (AfterValue fs s) (record { within = w; right = right; updated = u }) (placed (close_of within) at ∷ ts)
popped_in InList InList right u fs s d at ts e o = record { nodes = []; to = at; rest = ts; spelled = no_value; owed = from_some (λ z. Owed z ts) e o }
popped_in InGroup InGroup right u fs s d at ts e o = record { nodes = []; to = at; rest = ts; spelled = no_value; owed = from_some (λ z. Owed z ts) e o }
popped_in InBraces InBraces right u fs s d at ts e o = record { nodes = []; to = at; rest = ts; spelled = no_value; owed = from_some (λ z. Owed z ts) e o }
popped_in InList InGroup right u fs s d at ts e o = none_some e
popped_in InList InBraces right u fs s d at ts e o = none_some e
popped_in InGroup InList right u fs s d at ts e o = none_some e
popped_in InGroup InBraces right u fs s d at ts e o = none_some e
popped_in InBraces InList right u fs s d at ts e o = none_some e
popped_in InBraces InGroup right u fs s d at ts e o = none_some e

popped_owed : (within : Within) (fs : List Frame) (s : Bool) (d : Control) (at : Span) (ts : List Placed) → popped within fs s ≡ Some d → Owed d ts
    → AfterValue fs s (placed (close_of within) at ∷ ts)
popped_owed within [] s d at ts e o = none_some e
popped_owed within (f ∷ fs) s d at ts e o = popped_in within f.within f.right f.updated fs s d at ts e o

close_plain : (within : Within) (at : Span) (ts : List Placed) → begins_relation (placed (close_of within) at ∷ ts) ≡ false
close_plain InList at ts = refl
close_plain InGroup at ts = refl
close_plain InBraces at ts = refl

follow_close_owed : (within : Within) (e : Expected) (u : Bool) (fs : List Frame) (s : Bool) (d : Control) (at : Span) (ts : List Placed)
    → follow_close within e (mk e u fs s) ≡ Some d → Owed d ts → OwedAt e u fs s (placed (close_of within) at ∷ ts)
follow_close_owed within Inside u fs s d at ts e o = popped_owed within fs s d at ts e o
follow_close_owed within (AfterPrimary right) u fs s d at ts e o = tail_primary right (close_plain within at ts) (stop (popped_owed within fs s d at ts e o))
follow_close_owed within (AfterBraces right) u fs s d at ts e o = tail_braced right (close_plain within at ts) (stop (popped_owed within fs s d at ts e o))
follow_close_owed within AtEntry u fs s d at ts e o = none_some e
follow_close_owed within AfterName u fs s d at ts e o = none_some e
follow_close_owed within AfterLabel u fs s d at ts e o = none_some e
follow_close_owed within Operand u fs s d at ts e o = none_some e
follow_close_owed within Side u fs s d at ts e o = none_some e

section_owed : (s : Bool) (d : Control) (at : Span) (ts : List Placed) → section_ends s ≡ Some d → Owed d ts → AfterEntry s (placed CloseBraces at ∷ ts)
section_owed false d at ts e o = none_some e
section_owed true d at ts e o =
    let r : (entries : List Entry) × AreEntries ts entries = from_some (λ z. Owed z ts) e o in
    record { fields = []; places = []; to = at; rest = ts; spelled = no_field; entries = r.0; others = r.1 }

closes_owed : (fs : List Frame) (s : Bool) (d : Control) (at : Span) (ts : List Placed) → closes_braces fs s ≡ Some d → Owed d ts → AfterValue fs s (placed CloseBraces at ∷ ts)
closes_owed [] s d at ts e o = section_owed s d at ts e o
closes_owed (f ∷ fs) s d at ts e o = popped_owed InBraces (f ∷ fs) s d at ts e o

follow_close_braces_owed : (e : Expected) (u : Bool) (fs : List Frame) (s : Bool) (d : Control) (at : Span) (ts : List Placed)
    → follow_close_braces e (mk e u fs s) ≡ Some d → Owed d ts → OwedAt e u fs s (placed CloseBraces at ∷ ts)
follow_close_braces_owed AtEntry u fs s d at ts e o = section_owed s d at ts e o
follow_close_braces_owed Inside u fs s d at ts e o = popped_owed InBraces fs s d at ts e o
follow_close_braces_owed (AfterPrimary right) u fs s d at ts e o = tail_primary right refl (stop (closes_owed fs s d at ts e o))
follow_close_braces_owed (AfterBraces right) u fs s d at ts e o = tail_braced right refl (stop (closes_owed fs s d at ts e o))
follow_close_braces_owed AfterName u fs s d at ts e o = none_some e
follow_close_braces_owed AfterLabel u fs s d at ts e o = none_some e
follow_close_braces_owed Operand u fs s d at ts e o = none_some e
follow_close_braces_owed Side u fs s d at ts e o = none_some e

-- a relation that begins a further value
side_owed : (fs : List Frame) (u s : Bool) (e : Expected) (d : Control) (op : RelOp) (at : Span) (ts : List Placed)
    → mapped (expecting Side) (further fs (mk e u fs s)) ≡ Some d → Owed d ts → AfterValue fs s (placed (Relation op) at ∷ ts)
side_owed [] u s e d op at ts i o = none_some i
side_owed (f ∷ fs) u s e d op at ts i o = more_values (side_operand (from_some (λ z. Owed z ts) i o))

follow_relation_owed : (e : Expected) (u : Bool) (fs : List Frame) (s : Bool) (d : Control) (op : RelOp) (at : Span) (ts : List Placed)
    → follow_relation e (mk e u fs s) ≡ Some d → Owed d ts → OwedAt e u fs s (placed (Relation op) at ∷ ts)
follow_relation_owed Operand u fs s d op at ts e o = side_operand (from_some (λ z. Owed z ts) e o)
follow_relation_owed Inside u fs s d op at ts e o = side_owed fs u s Inside d op at ts e o
follow_relation_owed (AfterPrimary true) u fs s d op at ts e o = no_braces (right_done (stop (side_owed fs u s (AfterPrimary true) d op at ts e o)))
follow_relation_owed (AfterPrimary false) u fs s d op at ts e o = no_braces (relates (from_some (λ z. Owed z ts) e o))
follow_relation_owed (AfterBraces true) u fs s d op at ts e o = right_done (stop (side_owed fs u s (AfterBraces true) d op at ts e o))
follow_relation_owed (AfterBraces false) u fs s d op at ts e o = relates (from_some (λ z. Owed z ts) e o)
follow_relation_owed AtEntry u fs s d op at ts e o = none_some e
follow_relation_owed AfterName u fs s d op at ts e o = none_some e
follow_relation_owed AfterLabel u fs s d op at ts e o = none_some e
follow_relation_owed Side u fs s d op at ts e o = none_some e

follow_update_owed : (e : Expected) (u : Bool) (fs : List Frame) (s : Bool) (d : Control) (op : EnvOp) (at : Span) (ts : List Placed)
    → follow_update e (mk e u fs s) ≡ Some d → Owed d ts → OwedAt e u fs s (placed (Update op) at ∷ ts)
follow_update_owed (AfterPrimary right) true fs s d op at ts e o = none_some e
follow_update_owed (AfterPrimary right) false fs s d op at ts e o = tail_primary right refl (update_on (from_some (λ z. Owed z ts) e o))
follow_update_owed (AfterBraces right) true fs s d op at ts e o = none_some e
follow_update_owed (AfterBraces right) false fs s d op at ts e o = tail_braced right refl (update_on (from_some (λ z. Owed z ts) e o))
follow_update_owed AtEntry u fs s d op at ts e o = none_some e
follow_update_owed AfterName u fs s d op at ts e o = none_some e
follow_update_owed AfterLabel u fs s d op at ts e o = none_some e
follow_update_owed Operand u fs s d op at ts e o = none_some e
follow_update_owed Inside u fs s d op at ts e o = none_some e
follow_update_owed Side u fs s d op at ts e o = none_some e

follow_and_owed : (e : Expected) (u : Bool) (fs : List Frame) (s : Bool) (d : Control) (at : Span) (ts : List Placed)
    → follow_connective e (mk e u fs s) ≡ Some d → Owed d ts → OwedAt e u fs s (placed And at ∷ ts)
follow_and_owed (AfterPrimary right) u fs s d at ts e o = tail_primary right refl (and_on (from_some (λ z. Owed z ts) e o))
follow_and_owed (AfterBraces right) u fs s d at ts e o = tail_braced right refl (and_on (from_some (λ z. Owed z ts) e o))
follow_and_owed AtEntry u fs s d at ts e o = none_some e
follow_and_owed AfterName u fs s d at ts e o = none_some e
follow_and_owed AfterLabel u fs s d at ts e o = none_some e
follow_and_owed Operand u fs s d at ts e o = none_some e
follow_and_owed Inside u fs s d at ts e o = none_some e
follow_and_owed Side u fs s d at ts e o = none_some e

follow_or_owed : (e : Expected) (u : Bool) (fs : List Frame) (s : Bool) (d : Control) (at : Span) (ts : List Placed)
    → follow_connective e (mk e u fs s) ≡ Some d → Owed d ts → OwedAt e u fs s (placed Or at ∷ ts)
follow_or_owed (AfterPrimary right) u fs s d at ts e o = tail_primary right refl (or_on (from_some (λ z. Owed z ts) e o))
follow_or_owed (AfterBraces right) u fs s d at ts e o = tail_braced right refl (or_on (from_some (λ z. Owed z ts) e o))
follow_or_owed AtEntry u fs s d at ts e o = none_some e
follow_or_owed AfterName u fs s d at ts e o = none_some e
follow_or_owed AfterLabel u fs s d at ts e o = none_some e
follow_or_owed Operand u fs s d at ts e o = none_some e
follow_or_owed Inside u fs s d at ts e o = none_some e
follow_or_owed Side u fs s d at ts e o = none_some e

follow_colon_owed : (e : Expected) (u : Bool) (fs : List Frame) (s : Bool) (d : Control) (at : Span) (ts : List Placed)
    → follow_colon e (mk e u fs s) ≡ Some d → Owed d ts → OwedAt e u fs s (placed Colon at ∷ ts)
follow_colon_owed AfterName u fs s d at ts e o = λ name from. field_owed name from at s (owed_done (from_some (λ z. Owed z ts) e o))
follow_colon_owed AtEntry u fs s d at ts e o = none_some e
follow_colon_owed AfterLabel u fs s d at ts e o = none_some e
follow_colon_owed Operand u fs s d at ts e o = none_some e
follow_colon_owed Inside u fs s d at ts e o = none_some e
follow_colon_owed Side u fs s d at ts e o = none_some e
follow_colon_owed (AfterPrimary right) u fs s d at ts e o = none_some e
follow_colon_owed (AfterBraces right) u fs s d at ts e o = none_some e

-- what begins an operand leaves one wanted
further_wants : (fs : List Frame) (c d : Control) (ts : List Placed) → further fs c ≡ Some d → Owed d ts → FromOperand ts d
further_wants [] c d ts e o = none_some e
further_wants (f ∷ fs) c d ts e o = (into_some (λ z. Owed z ts → FromOperand ts z) e (λ p. p)) o

begun_wants : (e : Expected) (c d : Control) (ts : List Placed) → begun e c ≡ Some d → Owed d ts → FromOperand ts d
begun_wants Operand c d ts e o = (into_some (λ z. Owed z ts → FromOperand ts z) e (λ p. p)) o
begun_wants Inside c d ts e o = further_wants c.frames c d ts e o
begun_wants (AfterPrimary right) c d ts e o = further_wants c.frames c d ts e o
begun_wants (AfterBraces right) c d ts e o = further_wants c.frames c d ts e o
begun_wants AtEntry c d ts e o = none_some e
begun_wants AfterName c d ts e o = none_some e
begun_wants AfterLabel c d ts e o = none_some e
begun_wants Side c d ts e o = none_some e

-- what completes the state after a token completes, with that token, the state before it
pub follow_owed : (c : Control) (token : Token) (at : Span) (ts : List Placed) (d : Control) → follow c token ≡ Some d → Owed d ts → Owed c (placed token at ∷ ts)
follow_owed c (Flag flag) at ts d e o = follow_atom_owed c.expected c.updated c.frames c.section d (Flag flag) at ts _ refl refl e o
follow_owed c (Int number) at ts d e o = follow_atom_owed c.expected c.updated c.frames c.section d (Int number) at ts _ refl refl e o
follow_owed c (Text bytes) at ts d e o = follow_text_owed c.expected c.updated c.frames c.section d bytes at ts e o
follow_owed c (Plain name) at ts d e o = follow_plain_owed c.expected c.updated c.frames c.section d name at ts e o
follow_owed c (Scoped scope name) at ts d e o = follow_atom_owed c.expected c.updated c.frames c.section d (Scoped scope name) at ts _ refl refl e o
follow_owed c Colon at ts d e o = follow_colon_owed c.expected c.updated c.frames c.section d at ts e o
follow_owed c OpenList at ts d e o =
    open_owed InList OpenList c.expected c.updated c.frames c.section d at ts refl (λ A v b. list_rest b) (λ A v b. list_side b) e o
follow_owed c CloseList at ts d e o = follow_close_owed InList c.expected c.updated c.frames c.section d at ts e o
follow_owed c OpenBraces at ts d e o = follow_braces_owed c.expected c.updated c.frames c.section d at ts e o
follow_owed c CloseBraces at ts d e o = follow_close_braces_owed c.expected c.updated c.frames c.section d at ts e o
follow_owed c OpenGroup at ts d e o =
    open_owed InGroup OpenGroup c.expected c.updated c.frames c.section d at ts refl (λ A v b. group_rest b) (λ A v b. group_side b) e o
follow_owed c CloseGroup at ts d e o = follow_close_owed InGroup c.expected c.updated c.frames c.section d at ts e o
follow_owed c (Relation op) at ts d e o = follow_relation_owed c.expected c.updated c.frames c.section d op at ts e o
follow_owed c (Update op) at ts d e o = follow_update_owed c.expected c.updated c.frames c.section d op at ts e o
follow_owed c And at ts d e o = follow_and_owed c.expected c.updated c.frames c.section d at ts e o
follow_owed c Or at ts d e o = follow_or_owed c.expected c.updated c.frames c.section d at ts e o
follow_owed c Not at ts d e o =
    begun_owed c.expected c.updated c.frames c.section d (placed Not at ∷ ts) e refl (not_operand (begun_wants c.expected c d ts e o))
follow_owed c Defined at ts d e o =
    begun_owed c.expected c.updated c.frames c.section d (placed Defined at ∷ ts) e refl (defined_operand (begun_wants c.expected c d ts e o))

pub none_followed : (tokens : List Token) → followed_from None tokens ≡ None
none_followed [] = refl
none_followed (token ∷ tokens) = refl

-- tokens of these kinds, wherever they stand
pub data HasKinds : List Token → List Placed → Type 0 where
  no_kind : HasKinds [] []
  kind : {token : Token} {at : Span} {kinds : List Token} {tokens : List Placed} → HasKinds kinds tokens → HasKinds (token ∷ kinds) (placed token at ∷ tokens)

-- the signs that close all that is open
abbrev pub closers : List Frame → Bool → List Token
closers [] false = []
closers [] true = CloseBraces ∷ []
closers (f ∷ frames) section = close_of f.within ∷ closers frames section

abbrev pub operand_word : Token
operand_word = Plain (120 ∷ [])

-- tokens that complete what was read so far
abbrev pub completion_at : Expected → List Frame → Bool → List Token
completion_at AtEntry frames section = closers [] section
completion_at AfterName frames section = Colon ∷ operand_word ∷ closers [] section
completion_at AfterLabel frames section = OpenBraces ∷ CloseBraces ∷ []
completion_at Operand frames section = operand_word ∷ closers frames section
completion_at Inside frames section = closers frames section
completion_at Side frames section = operand_word ∷ closers frames section
completion_at (AfterPrimary right) frames section = closers frames section
completion_at (AfterBraces right) frames section = closers frames section

abbrev pub completion : Control → List Token
completion c = completion_at c.expected c.frames c.section

closers_plain : (fs : List Frame) (s : Bool) (us : List Placed) → HasKinds (closers fs s) us → begins_relation us ≡ false
closers_plain [] false us no_kind = refl
closers_plain [] true us (kind k) = refl
closers_plain (f ∷ fs) s us (kind {at = at} {tokens = tokens} k) = close_plain f.within at tokens

closed_tail : {A : List Placed → Type 0} (w : Within) (right u : Bool) {tokens : List Placed} → begins_relation tokens ≡ false → Tail A u tokens → ClosedOwed A w right u tokens
closed_tail InList right u h t = tail_primary right h t
closed_tail InGroup right u h t = tail_primary right h t
closed_tail InBraces right u h t = tail_braced right h t

pub closers_owed : (fs : List Frame) (s : Bool) (us : List Placed) → HasKinds (closers fs s) us → AfterValue fs s us
closers_owed [] false us no_kind = ([], no_entry)
closers_owed [] true us (kind {at = at} no_kind) = record { fields = []; places = []; to = at; rest = []; spelled = no_field; entries = []; others = no_entry }
closers_owed (f ∷ fs) s us (kind {at = at} {tokens = tokens} k) =
    record { nodes = []; to = at; rest = tokens; spelled = no_value; owed = closed_tail f.within f.right f.updated (closers_plain fs s tokens k) (stop (closers_owed fs s tokens k)) }

word_operand : (fs : List Frame) (s u : Bool) (us : List Placed) → HasKinds (operand_word ∷ closers fs s) us → OperandOwed (AfterValue fs s) u us
word_operand fs s u us (kind {tokens = tokens} k) = primary_operand (atom refl) (tail_primary false (closers_plain fs s tokens k) (stop (closers_owed fs s tokens k)))

pub completion_owed : (e : Expected) (u : Bool) (fs : List Frame) (s : Bool) (us : List Placed) → HasKinds (completion_at e fs s) us → OwedAt e u fs s us
completion_owed AtEntry u fs s us k = closers_owed [] s us k
completion_owed AfterName u fs s us (kind {at = at} {tokens = tokens} k) = λ name from. field_owed name from at s (owed_done (word_operand [] s false tokens k))
completion_owed AfterLabel u fs s us (kind (kind no_kind)) = λ name label from by. (_, labelled_next no_field no_entry)
completion_owed Operand u fs s us k = word_operand fs s u us k
completion_owed Inside u fs s us k = closers_owed fs s us k
completion_owed Side u fs s us (kind {tokens = tokens} k) = primary_side (atom refl) (tail_primary true (closers_plain fs s tokens k) (stop (closers_owed fs s tokens k)))
completion_owed (AfterPrimary right) u fs s us k = tail_primary right (closers_plain fs s us k) (stop (closers_owed fs s us k))
completion_owed (AfterBraces right) u fs s us k = tail_braced right (closers_plain fs s us k) (stop (closers_owed fs s us k))

found : (o : Option Control) → (o ≡ None) ⊎ ((c : Control) × (o ≡ Some c))
found None = inl refl
found (Some c) = inr (c, refl)

completed_from : (tokens : List Placed) (o : Option Control) (us : List Placed) (d : Control) → followed_from o (map token_of tokens) ≡ Some d
    → HasKinds (completion d) us → (c : Control) → o ≡ Some c → Owed c (tokens ++ us)
completed_from [] o us d e k c i = from_some (λ z. Owed z us) (sym i ∙ e) (completion_owed d.expected d.updated d.frames d.section us k)
completed_from (placed token at ∷ tokens) None us d e k c i = none_some i
completed_from (placed token at ∷ tokens) (Some x) us d e k c i =
    elim (found (follow x token)) [
      | inl n ↦ none_some (sym (none_followed (map token_of tokens)) ∙ ap (λ o. followed_from o (map token_of tokens)) (sym n) ∙ e)
      | inr m ↦ (
          let p : Owed m.0 (tokens ++ us) = completed_from tokens (follow x token) us d e k m.0 m.1 in
          into_some (λ z. Owed z (placed token at ∷ tokens ++ us)) i (follow_owed x token at (tokens ++ us) m.0 m.1 p))
    ]

-- tokens that follow one another can be completed to a file
pub completed : (c : Control) (tokens us : List Placed) (d : Control) → followed c (map token_of tokens) ≡ Some d → HasKinds (completion d) us
    → Owed c (tokens ++ us)
completed c tokens us d e k = completed_from tokens (Some c) us d e k c refl
