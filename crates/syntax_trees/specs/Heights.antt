-- How many brackets and prefix operators are open, told by tokens alone (opam manual, file format: grammar). What is told is tied to the
-- trees by the laws that cite it.
use Rattle.std.specs.Prelude.{ℕ, ◌+◌, ◌≤◌, List, [], ◌∷◌, ⊤}
use Rattle.syntax_trees.specs.declared.token.Token.{Token}
use Rattle.syntax_trees.specs.declared.token.Token.TheVariants.{Flag, Int, Text, Plain, Scoped, Colon, OpenList, CloseList, OpenBraces, CloseBraces, OpenGroup, CloseGroup, Relation, Update, And, Or, Not, Defined}
use Rattle.syntax_trees.specs.Tokens.{Placed, placed}

-- what may come next in a value: an operand, the sign of a relation after its left side, its right side, or what stands after that
pub data OperandMode : Type 0 where
  Wanted : OperandMode
  LeftRead : OperandMode
  RightWanted : OperandMode
  RightRead : OperandMode

-- what is known again where a bracket closes
pub record KeptHeight : Type 0 where
  pub floor : ℕ
  pub level : ℕ
  pub mode : OperandMode

-- how many brackets are open, and how many with the prefix operators of the operand that is read
pub record HeightState : Type 0 where
  pub floor : ℕ
  pub level : ℕ
  pub mode : OperandMode
  pub kept : List KeptHeight

abbrev pub operand_height : OperandMode → ℕ → ℕ → ℕ
operand_height Wanted floor level = level
operand_height RightWanted floor level = level
operand_height LeftRead floor level = floor
operand_height RightRead floor level = floor

-- what begins here is nested so deep
abbrev pub begun_height : HeightState → ℕ
begun_height s = operand_height s.mode s.floor s.level

abbrev pub mode_after : OperandMode → OperandMode
mode_after RightWanted = RightRead
mode_after Wanted = LeftRead
mode_after LeftRead = LeftRead
mode_after RightRead = LeftRead

-- a sign of a relation joins to what stands to its left, but not to a relation
abbrev pub relation_height : OperandMode → ℕ → ℕ → ℕ
relation_height RightRead floor level = floor
relation_height Wanted floor level = level
relation_height LeftRead floor level = level
relation_height RightWanted floor level = level

-- after an operand
abbrev pub operand_read : HeightState → HeightState
operand_read s = record { floor = s.floor; level = begun_height s; mode = mode_after s.mode; kept = s.kept }

abbrev pub bracket_opened : HeightState → ℕ → OperandMode → HeightState
bracket_opened s at mode = record { floor = at + 1; level = at + 1; mode = Wanted; kept = (record { floor = s.floor; level = at; mode = mode }) ∷ s.kept }

abbrev pub bracket_closed : HeightState → List KeptHeight → HeightState
bracket_closed s [] = s
bracket_closed s (k ∷ kept) = record { floor = k.floor; level = k.level; mode = k.mode; kept = kept }

-- after a connective or a colon
abbrev pub operand_anew : HeightState → HeightState
operand_anew s = record { floor = s.floor; level = s.floor; mode = Wanted; kept = s.kept }

abbrev pub operand_prefixed : HeightState → HeightState
operand_prefixed s = record { floor = s.floor; level = begun_height s + 1; mode = Wanted; kept = s.kept }

abbrev pub relation_begun : HeightState → HeightState
relation_begun s = record { floor = s.floor; level = relation_height s.mode s.floor s.level; mode = RightWanted; kept = s.kept }

abbrev pub height_step : HeightState → Token → HeightState
height_step s (Flag flag) = operand_read s
height_step s (Int number) = operand_read s
height_step s (Text bytes) = operand_read s
height_step s (Plain name) = operand_read s
height_step s (Scoped scope name) = operand_read s
height_step s Colon = operand_anew s
height_step s OpenList = bracket_opened s (begun_height s) (mode_after s.mode)
height_step s CloseList = bracket_closed s s.kept
height_step s OpenBraces = bracket_opened s s.level s.mode
height_step s CloseBraces = bracket_closed s s.kept
height_step s OpenGroup = bracket_opened s (begun_height s) (mode_after s.mode)
height_step s CloseGroup = bracket_closed s s.kept
height_step s (Relation op) = relation_begun s
height_step s (Update op) = operand_anew s
height_step s And = operand_anew s
height_step s Or = operand_anew s
height_step s Not = operand_prefixed s
height_step s Defined = operand_prefixed s

-- what a token is nested in
abbrev pub token_height : HeightState → Token → ℕ
token_height s (Flag flag) = begun_height s
token_height s (Int number) = begun_height s
token_height s (Text bytes) = begun_height s
token_height s (Plain name) = begun_height s
token_height s (Scoped scope name) = begun_height s
token_height s Colon = s.floor
token_height s OpenList = begun_height s
token_height s CloseList = s.floor
token_height s OpenBraces = s.level
token_height s CloseBraces = s.floor
token_height s OpenGroup = begun_height s
token_height s CloseGroup = s.floor
token_height s (Relation op) = relation_height s.mode s.floor s.level
token_height s (Update op) = s.floor
token_height s And = s.floor
token_height s Or = s.floor
token_height s Not = begun_height s
token_height s Defined = begun_height s

-- from here on nothing is nested in more
abbrev pub NestsBelow : ℕ → HeightState → List Placed → Type 0
NestsBelow limit s [] = ⊤
NestsBelow limit s (placed token span ∷ tokens) = ((height_step s token).level ≤ limit) × NestsBelow limit (height_step s token) tokens

-- before the first token
abbrev pub height_start : HeightState
height_start = record { floor = 0; level = 0; mode = Wanted; kept = [] }

-- the state after tokens
abbrev pub height_after : HeightState → List Token → HeightState
height_after s [] = s
height_after s (token ∷ tokens) = height_after (height_step s token) tokens
