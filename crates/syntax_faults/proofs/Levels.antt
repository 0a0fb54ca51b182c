-- Tokens whose opening ones are nested in less than a limit leave nothing nested in more.
use Rattle.std.proofs.Common.{◌≡◌, ℕ, ◌<◌, ◌≤◌, true, List, [], ◌∷◌, refl, arith}
use Rattle.std.specs.Prelude.{⊤}
use Rattle.syntax_trees.specs.declared.token.Token.{Token}
use Rattle.syntax_trees.specs.declared.token.Token.TheVariants.{Flag, Int, Text, Plain, Scoped, Colon, OpenList, CloseList, OpenBraces, CloseBraces, OpenGroup, CloseGroup, Relation, Update, And, Or, Not, Defined}
use Rattle.syntax_trees.specs.Faults.{is_opening}
use Rattle.syntax_trees.specs.Heights.{OperandMode as Mode, Wanted, LeftRead, RightWanted, RightRead, HeightState as State, KeptHeight as Kept, operand_height as begin_at, begun_height as begin, relation_height as relation_at, bracket_closed as closed, height_step as step, token_height as height}

-- what is known again is no higher
abbrev pub KeptWithin : ℕ → List Kept → Type 0
KeptWithin limit [] = ⊤
KeptWithin limit (k ∷ kept) = (k.floor ≤ limit) × (k.level ≤ limit) × KeptWithin limit kept

-- nothing that is open is nested in more than a limit
pub record Within (limit : ℕ) (s : State) : Type 0 where
  pub floor : s.floor ≤ limit
  pub level : s.level ≤ limit
  pub kept : KeptWithin limit s.kept

begin_within : (m : Mode) (floor level limit : ℕ) → floor ≤ limit → level ≤ limit → begin_at m floor level ≤ limit
begin_within Wanted floor level limit k l = l
begin_within RightWanted floor level limit k l = l
begin_within LeftRead floor level limit k l = k
begin_within RightRead floor level limit k l = k

relation_within : (m : Mode) (floor level limit : ℕ) → floor ≤ limit → level ≤ limit → relation_at m floor level ≤ limit
relation_within Wanted floor level limit k l = l
relation_within RightWanted floor level limit k l = l
relation_within LeftRead floor level limit k l = l
relation_within RightRead floor level limit k l = k

closed_within : (limit : ℕ) (s : State) (kept : List Kept) → Within limit s → KeptWithin limit kept → Within limit (closed s kept)
closed_within limit s [] w h = w
closed_within limit s (k ∷ kept) w h = record { floor = h.0; level = h.1; kept = h.2 }

read_within : (limit : ℕ) (s : State) → Within limit s → begin s ≤ limit
read_within limit s w = begin_within s.mode s.floor s.level limit w.floor w.level

-- a step, where an opening token is nested in less
pub within_step : (limit : ℕ) (s : State) (token : Token) → Within limit s → (is_opening token ≡ true → height s token < limit) → Within limit (step s token)
within_step limit s (Flag flag) w h = record { floor = w.floor; level = read_within limit s w; kept = w.kept }
within_step limit s (Int number) w h = record { floor = w.floor; level = read_within limit s w; kept = w.kept }
within_step limit s (Text bytes) w h = record { floor = w.floor; level = read_within limit s w; kept = w.kept }
within_step limit s (Plain name) w h = record { floor = w.floor; level = read_within limit s w; kept = w.kept }
within_step limit s (Scoped scope name) w h = record { floor = w.floor; level = read_within limit s w; kept = w.kept }
within_step limit s Colon w h = record { floor = w.floor; level = w.floor; kept = w.kept }
within_step limit s OpenList w h =
    let l = h refl in record { floor = omega arith; level = omega arith; kept = (w.floor, read_within limit s w, w.kept) }
within_step limit s CloseList w h = closed_within limit s s.kept w w.kept
within_step limit s OpenBraces w h = let l = h refl in record { floor = omega arith; level = omega arith; kept = (w.floor, w.level, w.kept) }
within_step limit s CloseBraces w h = closed_within limit s s.kept w w.kept
within_step limit s OpenGroup w h =
    let l = h refl in record { floor = omega arith; level = omega arith; kept = (w.floor, read_within limit s w, w.kept) }
within_step limit s CloseGroup w h = closed_within limit s s.kept w w.kept
within_step limit s (Relation op) w h = record { floor = w.floor; level = relation_within s.mode s.floor s.level limit w.floor w.level; kept = w.kept }
within_step limit s (Update op) w h = record { floor = w.floor; level = w.floor; kept = w.kept }
within_step limit s And w h = record { floor = w.floor; level = w.floor; kept = w.kept }
within_step limit s Or w h = record { floor = w.floor; level = w.floor; kept = w.kept }
within_step limit s Not w h = let l = h refl in record { floor = w.floor; level = omega arith; kept = w.kept }
within_step limit s Defined w h = let l = h refl in record { floor = w.floor; level = omega arith; kept = w.kept }
