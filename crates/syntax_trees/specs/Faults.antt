-- Why bytes are no file, and the place where that shows. The places, and which of several faults counts, are this project's own.
use Rattle.std.specs.Prelude.{◌≡◌, ℕ, ◌+◌, ◌<◌, ◌≤◌, List, ◌++◌, length, take, drop, Bool, true, false, IsTrue, IsFalse, codes, ◌==◌, ◌&&◌, ◌||◌}
use Rattle.std.specs.List.{list_any}
use Rattle.std.specs.declared.option.Option.TheVariants.{Some}
use Rattle.opam_names.specs.Faults.{Begins}
use Rattle.syntax_trees.specs.declared.fault.SyntaxFault.{SyntaxFault}
use Rattle.syntax_trees.specs.declared.fault.SyntaxFault.TheVariants.{Ended, Stray, Deep, Doubled, Memory}
use Rattle.syntax_trees.specs.declared.limits.TheConstants.{NESTING_LIMIT}
use Rattle.syntax_trees.specs.declared.token.Token.{Token}
use Rattle.syntax_trees.specs.declared.token.Token.TheVariants.{OpenList, OpenBraces, OpenGroup, Not, Defined}
use Rattle.syntax_trees.specs.Signs.{begins_with}
use Rattle.syntax_trees.specs.Tokens.{Placed, placed, AreTokens}
use Rattle.syntax_trees.specs.Files.{Entry, AreEntries, Derives}
use Rattle.syntax_trees.specs.Nesting.{nesting_at}
use Rattle.syntax_trees.specs.Doubles.{doubled_at}

-- the grammar derives something from the bytes, at any depth and with doubled names too
abbrev pub IsDerived : List ℕ → Type 0
IsDerived bytes = (entries : List Entry) × Derives bytes entries

-- bytes can be put after these such that the grammar derives the whole
abbrev pub BeginsFile : List ℕ → Type 0
BeginsFile = Begins IsDerived

-- an opening bracket or a prefix operator
abbrev pub is_opening : Token → Bool
is_opening OpenList = true
is_opening OpenBraces = true
is_opening OpenGroup = true
is_opening Not = true
is_opening Defined = true
is_opening token = false

-- such a token begins at the place
abbrev pub opens_at : ℕ → Placed → Bool
opens_at place (placed token span) = is_opening token && span.start == place

-- some file that begins with these bytes has at this place a bracket or a prefix operator that is nested in 64 others
pub record NestsAt (bytes : List ℕ) (place : ℕ) : Type 0 where
  pub more : List ℕ
  pub tokens : List Placed
  pub entries : List Entry
  pub spelled : AreTokens (length (bytes ++ more)) (bytes ++ more) tokens
  pub derived : AreEntries tokens entries
  pub opens : IsTrue (list_any (opens_at place) tokens)
  pub nested : NESTING_LIMIT ≤ nesting_at place entries

-- the bytes begin with a comment, or a sign, that is longer than the bracket or the prefix operator that it begins like
abbrev pub begins_longer : List ℕ → Bool
begins_longer bytes = begins_with (codes "(*") bytes || begins_with (codes "!=") bytes

-- the byte at this place is a bracket or a prefix operator nested in 64 others, as far as the bytes up to it tell
pub record IsTooDeep (bytes : List ℕ) (place : ℕ) : Type 0 where
  pub within : place < length bytes
  pub nests : NestsAt (take (place + 1) bytes) place
  pub whole : IsFalse (begins_longer (drop place bytes))

-- the first that is too deep
pub record IsDeepAt (bytes : List ℕ) (place : ℕ) : Type 0 where
  pub deep : IsTooDeep bytes place
  pub first : (earlier : ℕ) → earlier < place → ¬ (IsTooDeep bytes earlier)

-- no place is too deep
abbrev pub IsNowhereDeep : List ℕ → Type 0
IsNowhereDeep bytes = (place : ℕ) → ¬ (IsTooDeep bytes place)

-- the bytes up to this place begin some file, and with the byte at it they begin none
pub record IsStrayAt (bytes : List ℕ) (place : ℕ) : Type 0 where
  pub within : place < length bytes
  pub begins : BeginsFile (take place bytes)
  pub stray : ¬ (BeginsFile (take (place + 1) bytes))

-- all bytes begin some file and are none
pub record IsEndedAt (bytes : List ℕ) (place : ℕ) : Type 0 where
  pub all : place ≡ length bytes
  pub begins : BeginsFile bytes
  pub unfinished : ¬ (IsDerived bytes)

-- the first name that an earlier one equals
abbrev pub IsDoubledAt : List ℕ → ℕ → Type 0
IsDoubledAt bytes place = (entries : List Entry) × Derives bytes entries × (doubled_at entries ≡ Some place)

-- what is too deep counts before all else
abbrev pub IsFaultOf : List ℕ → SyntaxFault → Type 0
IsFaultOf bytes (Deep at) = IsDeepAt bytes at
IsFaultOf bytes (Stray at) = IsNowhereDeep bytes × IsStrayAt bytes at
IsFaultOf bytes (Ended at) = IsNowhereDeep bytes × IsEndedAt bytes at
IsFaultOf bytes (Doubled at) = IsNowhereDeep bytes × IsDoubledAt bytes at
IsFaultOf bytes Memory = Unit {0}
