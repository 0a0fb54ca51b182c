-- The tokens of what the grammar derives follow one another.
use Rattle.std.proofs.Common.{◌≡◌, ℕ, Bool, true, false, List, [], ◌∷◌, refl, ap, ◌∙◌, map}
use Rattle.std.specs.declared.option.Option.TheVariants.{None, Some}
use Rattle.syntax_trees.specs.declared.token.Token.{Token}
use Rattle.syntax_trees.specs.declared.token.Token.TheVariants.{Flag, Int, Text, Plain, Scoped, Colon, OpenList, CloseList, OpenBraces, CloseBraces, OpenGroup, CloseGroup, Relation, Update, And, Or, Not, Defined}
use Rattle.syntax_trees.specs.declared.tree.RelOp.{RelOp}
use Rattle.syntax_trees.specs.declared.tree.EnvOp.{EnvOp}
use Rattle.syntax_trees.specs.declared.tree.Node.{Node}
use Rattle.syntax_trees.specs.declared.tree.Span.{Span}
use Rattle.syntax_trees.specs.declared.tree.Value.{Value}
use Rattle.syntax_trees.specs.Following.{ExpectedNext as Expected, AtEntry, AfterName, AfterLabel, Operand, Inside, Side, AfterPrimary, AfterBraces, ValueBracket as Within, InList, InGroup, InBraces, OpenBracket as Frame, TokenControl as Control, at_entry, token_follows as follow, followed_after as followed_from, token_of}
use Rattle.syntax_trees.specs.Tokens.{Placed, placed}
use Rattle.syntax_trees.specs.Grammar.{Level, ValueLevel, OrLevel, AndLevel, UnaryLevel, RelationLevel, BracedLevel, PrimaryLevel, atom_of, begins_relation, Spells, atom, list, group, bare, braced, pre_relation, alone, relation, no_prefix, negation, definedness, conjunction, disjunction, no_update, update, AreValues, no_value, value, AreConjuncts, last_conjunct, conjunct, AreDisjuncts, last_disjunct, disjunct}
use Rattle.syntax_trees.specs.Files.{Entry, AreFields, no_field, field, AreEntries, no_entry, field_next, section_next, labelled_next}

abbrev mk : Expected → Bool → List Frame → Bool → Control
mk e u fs s = record { expected = e; updated = u; frames = fs; section = s }

-- an operand may begin, of a value that has had an update or has not
data Ready : Expected → Bool → List Frame → Bool → List Placed → Type 0 where
  at_operand : {u : Bool} {fs : List Frame} {tokens : List Placed} → Ready Operand u fs u tokens
  at_inside : {v : Bool} {f : Frame} {fs : List Frame} {tokens : List Placed} → Ready Inside v (f ∷ fs) false tokens
  after_left : {v : Bool} {f : Frame} {fs : List Frame} {tokens : List Placed} → begins_relation tokens ≡ false → Ready (AfterPrimary false) v (f ∷ fs) false tokens
  after_right : {v : Bool} {f : Frame} {fs : List Frame} {tokens : List Placed} → Ready (AfterPrimary true) v (f ∷ fs) false tokens
  braced_left : {v : Bool} {f : Frame} {fs : List Frame} {tokens : List Placed} → begins_relation tokens ≡ false → Ready (AfterBraces false) v (f ∷ fs) false tokens
  braced_right : {v : Bool} {f : Frame} {fs : List Frame} {tokens : List Placed} → Ready (AfterBraces true) v (f ∷ fs) false tokens

-- a primary may begin, as a right side or as none
data Starts : Bool → Expected → Bool → List Frame → Bool → List Placed → Type 0 where
  ready : {e : Expected} {v u : Bool} {fs : List Frame} {tokens : List Placed} → Ready e v fs u tokens → Starts false e v fs u tokens
  side : {u : Bool} {fs : List Frame} {tokens : List Placed} → Starts true Side u fs u tokens

data Ends : Bool → Expected → Type 0 where
  ends_primary : {right : Bool} → Ends right (AfterPrimary right)
  ends_braces : {right : Bool} → Ends right (AfterBraces right)

-- a whole operand was read, and what follows it does not join to it as a relation
data Complete : Expected → List Placed → Type 0 where
  right_complete : {e : Expected} {rest : List Placed} → Ends true e → Complete e rest
  left_complete : {e : Expected} {rest : List Placed} → Ends false e → begins_relation rest ≡ false → Complete e rest

none_some : {A B : Type 0} {x : A} → None ≡ Some x → B
none_some e = absurd cc

ready_atom : {e : Expected} {v u : Bool} {fs : List Frame} {tokens : List Placed} (s : Bool) (token : Token) {w : Value} → Ready e v fs u tokens → atom_of token ≡ Some w
    → follow (mk e v fs s) token ≡ Some (mk (AfterPrimary false) u fs s)
ready_atom s (Flag b) at_operand a = refl
ready_atom s (Flag b) at_inside a = refl
ready_atom s (Flag b) (after_left h) a = refl
ready_atom s (Flag b) after_right a = refl
ready_atom s (Flag b) (braced_left h) a = refl
ready_atom s (Flag b) braced_right a = refl
ready_atom s (Int b) at_operand a = refl
ready_atom s (Int b) at_inside a = refl
ready_atom s (Int b) (after_left h) a = refl
ready_atom s (Int b) after_right a = refl
ready_atom s (Int b) (braced_left h) a = refl
ready_atom s (Int b) braced_right a = refl
ready_atom s (Text b) at_operand a = refl
ready_atom s (Text b) at_inside a = refl
ready_atom s (Text b) (after_left h) a = refl
ready_atom s (Text b) after_right a = refl
ready_atom s (Text b) (braced_left h) a = refl
ready_atom s (Text b) braced_right a = refl
ready_atom s (Plain b) at_operand a = refl
ready_atom s (Plain b) at_inside a = refl
ready_atom s (Plain b) (after_left h) a = refl
ready_atom s (Plain b) after_right a = refl
ready_atom s (Plain b) (braced_left h) a = refl
ready_atom s (Plain b) braced_right a = refl
ready_atom s (Scoped b c) at_operand a = refl
ready_atom s (Scoped b c) at_inside a = refl
ready_atom s (Scoped b c) (after_left h) a = refl
ready_atom s (Scoped b c) after_right a = refl
ready_atom s (Scoped b c) (braced_left h) a = refl
ready_atom s (Scoped b c) braced_right a = refl
ready_atom s token r a = none_some a

side_atom : (u : Bool) (fs : List Frame) (s : Bool) (token : Token) {w : Value} → atom_of token ≡ Some w → follow (mk Side u fs s) token ≡ Some (mk (AfterPrimary true) u fs s)
side_atom u fs s (Flag b) a = refl
side_atom u fs s (Int b) a = refl
side_atom u fs s (Text b) a = refl
side_atom u fs s (Plain b) a = refl
side_atom u fs s (Scoped b c) a = refl
side_atom u fs s token a = none_some a

starts_atom : {right : Bool} {e : Expected} {v u : Bool} {fs : List Frame} {tokens : List Placed} (s : Bool) (token : Token) {w : Value} → Starts right e v fs u tokens
    → atom_of token ≡ Some w → follow (mk e v fs s) token ≡ Some (mk (AfterPrimary right) u fs s)
starts_atom s token (ready r) a = ready_atom s token r a
starts_atom {u = u} {fs = fs} s token side a = side_atom u fs s token a

abbrev frame : Within → Bool → Bool → Frame
frame within right u = record { within = within; right = right; updated = u }

starts_list : {right : Bool} {e : Expected} {v u : Bool} {fs : List Frame} {tokens : List Placed} (s : Bool) → Starts right e v fs u tokens
    → follow (mk e v fs s) OpenList ≡ Some (mk Inside false (frame InList right u ∷ fs) s)
starts_list s (ready at_operand) = refl
starts_list s (ready at_inside) = refl
starts_list s (ready (after_left h)) = refl
starts_list s (ready after_right) = refl
starts_list s (ready (braced_left h)) = refl
starts_list s (ready braced_right) = refl
starts_list s side = refl

starts_group : {right : Bool} {e : Expected} {v u : Bool} {fs : List Frame} {tokens : List Placed} (s : Bool) → Starts right e v fs u tokens
    → follow (mk e v fs s) OpenGroup ≡ Some (mk Inside false (frame InGroup right u ∷ fs) s)
starts_group s (ready at_operand) = refl
starts_group s (ready at_inside) = refl
starts_group s (ready (after_left h)) = refl
starts_group s (ready after_right) = refl
starts_group s (ready (braced_left h)) = refl
starts_group s (ready braced_right) = refl
starts_group s side = refl

not_relation : {A : Type 0} → true ≡ false → A
not_relation e = absurd cc

ready_relation : {e : Expected} {v u : Bool} {fs : List Frame} {op : RelOp} {at : Span} {tokens : List Placed} (s : Bool) → Ready e v fs u (placed (Relation op) at ∷ tokens)
    → follow (mk e v fs s) (Relation op) ≡ Some (mk Side u fs s)
ready_relation s at_operand = refl
ready_relation s at_inside = refl
ready_relation s (after_left h) = not_relation h
ready_relation s after_right = refl
ready_relation s (braced_left h) = not_relation h
ready_relation s braced_right = refl

ready_prefix : {e : Expected} {v u : Bool} {fs : List Frame} {tokens : List Placed} (s : Bool) → Ready e v fs u tokens
    → (follow (mk e v fs s) Not ≡ Some (mk Operand u fs s)) × (follow (mk e v fs s) Defined ≡ Some (mk Operand u fs s))
ready_prefix s at_operand = (refl, refl)
ready_prefix s at_inside = (refl, refl)
ready_prefix s (after_left h) = (refl, refl)
ready_prefix s after_right = (refl, refl)
ready_prefix s (braced_left h) = (refl, refl)
ready_prefix s braced_right = (refl, refl)

left_relation : {e : Expected} (u : Bool) (fs : List Frame) (s : Bool) (op : RelOp) → Ends false e → follow (mk e u fs s) (Relation op) ≡ Some (mk Side u fs s)
left_relation u fs s op ends_primary = refl
left_relation u fs s op ends_braces = refl

complete_and : {e : Expected} {rest : List Placed} (u : Bool) (fs : List Frame) (s : Bool) → Complete e rest
    → (follow (mk e u fs s) And ≡ Some (mk Operand u fs s)) × (follow (mk e u fs s) Or ≡ Some (mk Operand u fs s))
complete_and u fs s (right_complete ends_primary) = (refl, refl)
complete_and u fs s (right_complete ends_braces) = (refl, refl)
complete_and u fs s (left_complete ends_primary h) = (refl, refl)
complete_and u fs s (left_complete ends_braces h) = (refl, refl)

complete_update : {e : Expected} {rest : List Placed} (fs : List Frame) (s : Bool) (op : EnvOp) → Complete e rest
    → follow (mk e false fs s) (Update op) ≡ Some (mk Operand true fs s)
complete_update fs s op (right_complete ends_primary) = refl
complete_update fs s op (right_complete ends_braces) = refl
complete_update fs s op (left_complete ends_primary h) = refl
complete_update fs s op (left_complete ends_braces h) = refl

-- within a bracket a value or its end may come
data Between : Expected → List Placed → Type 0 where
  none_yet : {tokens : List Placed} → Between Inside tokens
  some_read : {e : Expected} {tokens : List Placed} → Complete e tokens → Between e tokens

between_ready : {e : Expected} {tokens : List Placed} (v : Bool) (f : Frame) (fs : List Frame) → Between e tokens → Ready e v (f ∷ fs) false tokens
between_ready v f fs none_yet = at_inside
between_ready v f fs (some_read (right_complete ends_primary)) = after_right
between_ready v f fs (some_read (right_complete ends_braces)) = braced_right
between_ready v f fs (some_read (left_complete ends_primary h)) = after_left h
between_ready v f fs (some_read (left_complete ends_braces h)) = braced_left h

between_list : {e : Expected} {tokens : List Placed} (v right u : Bool) (fs : List Frame) (s : Bool) → Between e tokens
    → follow (mk e v (frame InList right u ∷ fs) s) CloseList ≡ Some (mk (AfterPrimary right) u fs s)
between_list v right u fs s none_yet = refl
between_list v right u fs s (some_read (right_complete ends_primary)) = refl
between_list v right u fs s (some_read (right_complete ends_braces)) = refl
between_list v right u fs s (some_read (left_complete ends_primary h)) = refl
between_list v right u fs s (some_read (left_complete ends_braces h)) = refl

between_group : {e : Expected} {tokens : List Placed} (v right u : Bool) (fs : List Frame) (s : Bool) → Between e tokens
    → follow (mk e v (frame InGroup right u ∷ fs) s) CloseGroup ≡ Some (mk (AfterPrimary right) u fs s)
between_group v right u fs s none_yet = refl
between_group v right u fs s (some_read (right_complete ends_primary)) = refl
between_group v right u fs s (some_read (right_complete ends_braces)) = refl
between_group v right u fs s (some_read (left_complete ends_primary h)) = refl
between_group v right u fs s (some_read (left_complete ends_braces h)) = refl

between_braces : {e : Expected} {tokens : List Placed} (v right u : Bool) (fs : List Frame) (s : Bool) → Between e tokens
    → follow (mk e v (frame InBraces right u ∷ fs) s) CloseBraces ≡ Some (mk (AfterBraces right) u fs s)
between_braces v right u fs s none_yet = refl
between_braces v right u fs s (some_read (right_complete ends_primary)) = refl
between_braces v right u fs s (some_read (right_complete ends_braces)) = refl
between_braces v right u fs s (some_read (left_complete ends_primary h)) = refl
between_braces v right u fs s (some_read (left_complete ends_braces h)) = refl

-- the tokens lead from a state to another
abbrev Leads : Control → List Placed → Control → List Placed → Type 0
Leads c tokens d rest = followed_from (Some c) (map token_of tokens) ≡ followed_from (Some d) (map token_of rest)

one_step : (c d : Control) (token : Token) (at : Span) (tokens : List Placed) → follow c token ≡ Some d → Leads c (placed token at ∷ tokens) d tokens
one_step c d token at tokens e = ap (λ o. followed_from o (map token_of tokens)) e

record BracedLeads (right : Bool) (c : Control) (tokens : List Placed) (u : Bool) (fs : List Frame) (s : Bool) (rest : List Placed) : Type 0 where
  e : Expected
  ends : Ends right e
  leads : Leads c tokens (mk e u fs s) rest

record OperandLeads (c : Control) (tokens : List Placed) (u : Bool) (fs : List Frame) (s : Bool) (rest : List Placed) : Type 0 where
  e : Expected
  complete : Complete e rest
  leads : Leads c tokens (mk e u fs s) rest

record ValueLeads (c : Control) (tokens : List Placed) (fs : List Frame) (s : Bool) (rest : List Placed) : Type 0 where
  e : Expected
  u : Bool
  complete : Complete e rest
  leads : Leads c tokens (mk e u fs s) rest

record ValuesLead (c : Control) (tokens : List Placed) (fs : List Frame) (s : Bool) (rest : List Placed) : Type 0 where
  e : Expected
  u : Bool
  between : Between e rest
  leads : Leads c tokens (mk e u fs s) rest

abbrev In : Level → Bool → Expected → Bool → List Frame → Bool → List Placed → Type 0
In PrimaryLevel right e v fs u tokens = Starts right e v fs u tokens
In BracedLevel right e v fs u tokens = Starts right e v fs u tokens
In RelationLevel right e v fs u tokens = Ready e v fs u tokens
In UnaryLevel right e v fs u tokens = Ready e v fs u tokens
In AndLevel right e v fs u tokens = Ready e v fs u tokens
In OrLevel right e v fs u tokens = Ready e v fs u tokens
In ValueLevel right e v fs u tokens = Ready e v fs false tokens

abbrev Out : Level → Bool → Control → List Placed → Bool → List Frame → Bool → List Placed → Type 0
Out PrimaryLevel right c tokens u fs s rest = Leads c tokens (mk (AfterPrimary right) u fs s) rest
Out BracedLevel right c tokens u fs s rest = BracedLeads right c tokens u fs s rest
Out RelationLevel right c tokens u fs s rest = OperandLeads c tokens u fs s rest
Out UnaryLevel right c tokens u fs s rest = OperandLeads c tokens u fs s rest
Out AndLevel right c tokens u fs s rest = OperandLeads c tokens u fs s rest
Out OrLevel right c tokens u fs s rest = OperandLeads c tokens u fs s rest
Out ValueLevel right c tokens u fs s rest = ValueLeads c tokens fs s rest

mutual
  leads : {level : Level} {tokens : List Placed} {n : Node} {rest : List Placed} → Spells level tokens n rest → (right : Bool) (e : Expected) (v : Bool)
      (fs : List Frame) (s u : Bool) → In level right e v fs u tokens → Out level right (mk e v fs s) tokens u fs s rest
  leads (atom {token = token} {span = span} {rest = rest} a) right e v fs s u i =
      one_step (mk e v fs s) (mk (AfterPrimary right) u fs s) token span rest (starts_atom s token i a)
  leads (list {from = from} {to = to} {tokens = tokens} {rest = rest} p) right e v fs s u i =
      let a = values_lead p Inside false (frame InList right u) fs s none_yet in
      one_step (mk e v fs s) (mk Inside false (frame InList right u ∷ fs) s) OpenList from tokens (starts_list s i)
      ∙ a.leads ∙ one_step (mk a.e a.u (frame InList right u ∷ fs) s) (mk (AfterPrimary right) u fs s) CloseList to rest (between_list a.u right u fs s a.between)
  leads (group {from = from} {to = to} {tokens = tokens} {rest = rest} p) right e v fs s u i =
      let a = values_lead p Inside false (frame InGroup right u) fs s none_yet in
      one_step (mk e v fs s) (mk Inside false (frame InGroup right u ∷ fs) s) OpenGroup from tokens (starts_group s i)
      ∙ a.leads ∙ one_step (mk a.e a.u (frame InGroup right u ∷ fs) s) (mk (AfterPrimary right) u fs s) CloseGroup to rest (between_group a.u right u fs s a.between)
  leads (bare p) right e v fs s u i = record { e = AfterPrimary right; ends = ends_primary; leads = leads p right e v fs s u i }
  leads (braced {from = from} {to = to} {inner = inner} {rest = rest} p q) right e v fs s u i =
      let a = values_lead q Inside false (frame InBraces right u) fs s none_yet in
      record {
        e = AfterBraces right;
        ends = ends_braces;
        leads = leads p right e v fs s u i
            ∙ one_step (mk (AfterPrimary right) u fs s) (mk Inside false (frame InBraces right u ∷ fs) s) OpenBraces from inner refl
            ∙ a.leads ∙ one_step (mk a.e a.u (frame InBraces right u ∷ fs) s) (mk (AfterBraces right) u fs s) CloseBraces to rest (between_braces a.u right u fs s a.between);
      }
  leads (pre_relation {op = op} {from = from} {tokens = tokens} p) right e v fs s u i =
      let a = leads p true Side u fs s u side in
      record {
        e = a.e;
        complete = right_complete a.ends;
        leads = one_step (mk e v fs s) (mk Side u fs s) (Relation op) from tokens (ready_relation s i) ∙ a.leads;
      }
  leads (alone p h) right e v fs s u i =
      let a = leads p false e v fs s u (ready i) in record { e = a.e; complete = left_complete a.ends h; leads = a.leads }
  leads (relation {op = op} {at = at} {more = more} p q) right e v fs s u i =
      let a = leads p false e v fs s u (ready i) in
      let b = leads q true Side u fs s u side in
      record {
        e = b.e;
        complete = right_complete b.ends;
        leads = a.leads ∙ one_step (mk a.e u fs s) (mk Side u fs s) (Relation op) at more (left_relation u fs s op a.ends) ∙ b.leads;
      }
  leads (no_prefix p) right e v fs s u i = leads p right e v fs s u i
  leads (negation {from = from} {tokens = tokens} p) right e v fs s u i =
      let a = leads p right Operand u fs s u at_operand in
      record {
        e = a.e;
        complete = a.complete;
        leads = one_step (mk e v fs s) (mk Operand u fs s) Not from tokens (ready_prefix s i).0 ∙ a.leads;
      }
  leads (definedness {from = from} {tokens = tokens} p) right e v fs s u i =
      let a = leads p right Operand u fs s u at_operand in
      record {
        e = a.e;
        complete = a.complete;
        leads = one_step (mk e v fs s) (mk Operand u fs s) Defined from tokens (ready_prefix s i).1 ∙ a.leads;
      }
  leads (conjunction p) right e v fs s u i = conjuncts_lead p e v fs s u i
  leads (disjunction p) right e v fs s u i = disjuncts_lead p e v fs s u i
  leads (no_update p) right e v fs s u i =
      let a = leads p right e v fs s false i in record { e = a.e; u = false; complete = a.complete; leads = a.leads }
  leads (update {op = op} {at = at} {more = more} p q) right e v fs s u i =
      let a = leads p right e v fs s false i in
      let b = leads q right Operand true fs s true at_operand in
      record {
        e = b.e;
        u = true;
        complete = b.complete;
        leads = a.leads ∙ one_step (mk a.e false fs s) (mk Operand true fs s) (Update op) at more (complete_update fs s op a.complete) ∙ b.leads;
      }

  values_lead : {tokens : List Placed} {nodes : List Node} {rest : List Placed} → AreValues tokens nodes rest → (e : Expected) (v : Bool) (f : Frame) (fs : List Frame) (s : Bool)
      → Between e tokens → ValuesLead (mk e v (f ∷ fs) s) tokens (f ∷ fs) s rest
  values_lead no_value e v f fs s b = record { e = e; u = v; between = b; leads = refl }
  values_lead (value p q) e v f fs s b =
      let a = leads p false e v (f ∷ fs) s false (between_ready v f fs b) in
      let c = values_lead q a.e a.u f fs s (some_read a.complete) in
      record { e = c.e; u = c.u; between = c.between; leads = a.leads ∙ c.leads }

  conjuncts_lead : {tokens : List Placed} {n : Node} {more : List Node} {rest : List Placed} → AreConjuncts tokens n more rest → (e : Expected) (v : Bool) (fs : List Frame)
      (s u : Bool) → Ready e v fs u tokens → OperandLeads (mk e v fs s) tokens u fs s rest
  conjuncts_lead (last_conjunct p) e v fs s u i = leads p false e v fs s u i
  conjuncts_lead (conjunct {at = at} {between = between} p q) e v fs s u i =
      let a = leads p false e v fs s u i in
      let b = conjuncts_lead q Operand u fs s u at_operand in
      record {
        e = b.e;
        complete = b.complete;
        leads = a.leads ∙ one_step (mk a.e u fs s) (mk Operand u fs s) And at between (complete_and u fs s a.complete).0 ∙ b.leads;
      }

  disjuncts_lead : {tokens : List Placed} {n : Node} {more : List Node} {rest : List Placed} → AreDisjuncts tokens n more rest → (e : Expected) (v : Bool) (fs : List Frame)
      (s u : Bool) → Ready e v fs u tokens → OperandLeads (mk e v fs s) tokens u fs s rest
  disjuncts_lead (last_disjunct p) e v fs s u i = leads p false e v fs s u i
  disjuncts_lead (disjunct {at = at} {between = between} p q) e v fs s u i =
      let a = leads p false e v fs s u i in
      let b = disjuncts_lead q Operand u fs s u at_operand in
      record {
        e = b.e;
        complete = b.complete;
        leads = a.leads ∙ one_step (mk a.e u fs s) (mk Operand u fs s) Or at between (complete_and u fs s a.complete).1 ∙ b.leads;
      }

-- where an entry may begin, or its list may end
pub data EntryAt : Expected → Type 0 where
  entry_first : EntryAt AtEntry
  after_primary : {right : Bool} → EntryAt (AfterPrimary right)
  after_braces : {right : Bool} → EntryAt (AfterBraces right)

entry_complete : {e : Expected} {rest : List Placed} → Complete e rest → EntryAt e
entry_complete (right_complete ends_primary) = after_primary
entry_complete (right_complete ends_braces) = after_braces
entry_complete (left_complete ends_primary h) = after_primary
entry_complete (left_complete ends_braces h) = after_braces

entry_name : {e : Expected} (v s : Bool) (name : List ℕ) → EntryAt e → follow (mk e v [] s) (Plain name) ≡ Some (mk AfterName false [] s)
entry_name v s name entry_first = refl
entry_name v s name after_primary = refl
entry_name v s name after_braces = refl

entry_braces : {e : Expected} (v : Bool) → EntryAt e → follow (mk e v [] true) CloseBraces ≡ Some (at_entry false)
entry_braces v entry_first = refl
entry_braces v after_primary = refl
entry_braces v after_braces = refl

pub record EntriesLead (c : Control) (tokens : List Placed) (s : Bool) (rest : List Placed) : Type 0 where
  pub e : Expected
  pub u : Bool
  pub at : EntryAt e
  pub leads : Leads c tokens (mk e u [] s) rest

field_leads : {e : Expected} {tokens between : List Placed} {n : Node} (v s : Bool) (name : List ℕ) (from colon : Span) → EntryAt e → Spells ValueLevel tokens n between
    → EntriesLead (mk e v [] s) (placed (Plain name) from ∷ placed Colon colon ∷ tokens) s between
field_leads {e} {tokens} {between} v s name from colon i p =
    let a = leads p false Operand false [] s false at_operand in
    record {
      e = a.e;
      u = a.u;
      at = entry_complete a.complete;
      leads = one_step (mk e v [] s) (mk AfterName false [] s) (Plain name) from (placed Colon colon ∷ tokens) (entry_name v s name i)
          ∙ one_step (mk AfterName false [] s) (mk Operand false [] s) Colon colon tokens refl ∙ a.leads;
    }

fields_lead : {tokens : List Placed} {fields : List (List ℕ × Node)} {places : List ℕ} {rest : List Placed} → AreFields tokens fields places rest → (e : Expected) (v s : Bool)
    → EntryAt e → EntriesLead (mk e v [] s) tokens s rest
fields_lead no_field e v s i = record { e = e; u = v; at = i; leads = refl }
fields_lead (field {name = name} {from = from} {at = colon} p q) e v s i =
    let a = field_leads v s name from colon i p in
    let b = fields_lead q a.e a.u s a.at in
    record { e = b.e; u = b.u; at = b.at; leads = a.leads ∙ b.leads }

braces_lead : {tokens between : List Placed} {fields : List (List ℕ × Node)} {places : List ℕ} (to : Span) → AreFields tokens fields places (placed CloseBraces to ∷ between)
    → Leads (at_entry true) tokens (at_entry false) between
braces_lead {tokens} {between} to p =
    let a = fields_lead p AtEntry false true entry_first in
    a.leads ∙ one_step (mk a.e a.u [] true) (at_entry false) CloseBraces to between (entry_braces a.u a.at)

pub entries_lead : {tokens : List Placed} {entries : List Entry} → AreEntries tokens entries → (e : Expected) (v : Bool) → EntryAt e
    → EntriesLead (mk e v [] false) tokens false []
entries_lead no_entry e v i = record { e = e; u = v; at = i; leads = refl }
entries_lead (field_next {name = name} {from = from} {at = colon} p q) e v i =
    let a = field_leads v false name from colon i p in
    let b = entries_lead q a.e a.u a.at in
    record { e = b.e; u = b.u; at = b.at; leads = a.leads ∙ b.leads }
entries_lead (section_next {name = name} {from = from} {at = sign} {to = to} {tokens = tokens} p q) e v i =
    let b = entries_lead q AtEntry false entry_first in
    record {
      e = b.e;
      u = b.u;
      at = b.at;
      leads = one_step (mk e v [] false) (mk AfterName false [] false) (Plain name) from (placed OpenBraces sign ∷ tokens) (entry_name v false name i)
          ∙ one_step (mk AfterName false [] false) (at_entry true) OpenBraces sign tokens refl ∙ braces_lead to p ∙ b.leads;
    }
entries_lead (labelled_next {name = name} {label = label} {from = from} {by = by} {at = sign} {to = to} {tokens = tokens} p q) e v i =
    let b = entries_lead q AtEntry false entry_first in
    record {
      e = b.e;
      u = b.u;
      at = b.at;
      leads = one_step (mk e v [] false) (mk AfterName false [] false) (Plain name) from (placed (Text label) by ∷ placed OpenBraces sign ∷ tokens) (entry_name v false name i)
          ∙ one_step (mk AfterName false [] false) (mk AfterLabel false [] false) (Text label) by (placed OpenBraces sign ∷ tokens) refl
          ∙ one_step (mk AfterLabel false [] false) (at_entry true) OpenBraces sign tokens refl ∙ braces_lead to p ∙ b.leads;
    }

-- the tokens of a file follow one another, up to where an entry may begin
pub file_followed : {tokens : List Placed} {entries : List Entry} → AreEntries tokens entries → EntriesLead (at_entry false) tokens false []
file_followed p = entries_lead p AtEntry false entry_first
