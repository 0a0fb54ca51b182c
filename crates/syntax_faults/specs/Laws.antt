-- Laws of bytes that begin a file, and of the places of faults.
use Rattle.std.specs.Prelude.{◌≡◌, ◌≢◌, ◌⊎◌, ℕ, ◌<◌, ◌≤◌, List, [], ◌∷◌, ◌++◌, length, drop, map, false, IsTrue}
use Rattle.std.specs.declared.option.Option.TheVariants.{None, Some}
use Rattle.syntax_trees.specs.declared.fault.SyntaxFault.{SyntaxFault}
use Rattle.syntax_trees.specs.declared.fault.SyntaxFault.TheVariants.{Ended, Stray, Memory}
use Rattle.syntax_trees.specs.declared.limits.TheConstants.{NESTING_LIMIT}
use Rattle.syntax_trees.specs.declared.token.Token.{Token}
use Rattle.syntax_trees.specs.Faults.{is_opening, IsDerived, BeginsFile, IsTooDeep, IsNowhereDeep, IsFaultOf}
use Rattle.syntax_trees.specs.Files.{Entry}
use Rattle.syntax_trees.specs.Following.{TokenControl, at_entry, tokens_followed, token_of}
use Rattle.syntax_trees.specs.Heights.{height_start, height_after, token_height}
use Rattle.syntax_trees.specs.Lexes.{Lexes}
use Rattle.syntax_trees.specs.Tokens.{Placed, first, Single}
use Rattle.syntax_trees.specs.Trees.{IsSpelling}
use Rattle.syntax_faults.specs.Endings.{GoesOn, begins_apart}

-- bytes begin a file exactly where one of the endings makes of them tokens that may follow one another
abbrev pub BeginningsAreTold : Type 0
BeginningsAreTold = (bytes : List ℕ) → (BeginsFile bytes → GoesOn (at_entry false) bytes) × (GoesOn (at_entry false) bytes → BeginsFile bytes)

-- up to any place after settled tokens that follow one another, they do exactly where an ending makes of the rest tokens that may follow
abbrev pub TailsAreTold : Type 0
TailsAreTold = (front tail rest : List ℕ) (tokens : List Placed) (c : TokenControl)
    → Lexes (length (front ++ tail ++ rest)) (front ++ tail ++ rest) tokens (tail ++ rest) → IsTrue (begins_apart tail)
    → tokens_followed (at_entry false) (map token_of tokens) ≡ Some c → (BeginsFile (front ++ tail) → GoesOn c tail) × (GoesOn c tail → BeginsFile (front ++ tail))

-- after settled tokens that do not follow one another, bytes begin no file
abbrev pub StrayTokensAreTold : Type 0
StrayTokensAreTold = (front tail rest : List ℕ) (tokens : List Placed)
    → Lexes (length (front ++ tail ++ rest)) (front ++ tail ++ rest) tokens (tail ++ rest) → IsTrue (begins_apart tail)
    → tokens_followed (at_entry false) (map token_of tokens) ≡ None → ¬ (BeginsFile (front ++ tail))

-- the byte with which the rest after settled tokens stops to go on is the stray one
abbrev pub StrayIsTold : Type 0
StrayIsTold = (front tail rest : List ℕ) (byte : ℕ) (tokens : List Placed) (c : TokenControl)
    → Lexes (length (front ++ tail ++ byte ∷ rest)) (front ++ tail ++ byte ∷ rest) tokens (tail ++ byte ∷ rest) → IsTrue (begins_apart tail)
    → tokens_followed (at_entry false) (map token_of tokens) ≡ Some c → GoesOn c tail → ¬ (GoesOn c (tail ++ byte ∷ []))
    → IsNowhereDeep (front ++ tail ++ byte ∷ rest) → IsFaultOf (front ++ tail ++ byte ∷ rest) (Stray (length (front ++ tail)))

-- where the rest goes on, and the bytes are no file, they have ended early
abbrev pub EndedInsideIsTold : Type 0
EndedInsideIsTold = (front tail : List ℕ) (tokens : List Placed) (c : TokenControl) → Lexes (length (front ++ tail)) (front ++ tail) tokens tail
    → IsTrue (begins_apart tail) → tokens_followed (at_entry false) (map token_of tokens) ≡ Some c → GoesOn c tail → ¬ (IsDerived (front ++ tail))
    → IsNowhereDeep (front ++ tail) → IsFaultOf (front ++ tail) (Ended (length (front ++ tail)))

-- the tokens before the place, and the bracket or the prefix operator at it, follow one another, and they nest it in 64 others
pub record OpensTooDeep (bytes : List ℕ) (place : ℕ) : Type 0 where
  pub tokens : List Placed
  pub token : Token
  pub rest : List ℕ
  pub control : TokenControl
  pub within : place < length bytes
  pub before : Lexes (length bytes) bytes tokens (drop place bytes)
  pub here : first (drop place bytes) ≡ Single token rest
  pub opening : IsTrue (is_opening token)
  pub follow : tokens_followed (at_entry false) (map token_of tokens ++ token ∷ []) ≡ Some control
  pub nested : NESTING_LIMIT ≤ token_height (height_after height_start (map token_of tokens)) token

-- a place is too deep exactly where the tokens before it and at it tell so
abbrev pub DeepPlacesAreTold : Type 0
DeepPlacesAreTold = (bytes : List ℕ) (place : ℕ) → (IsTooDeep bytes place → OpensTooDeep bytes place) × (OpensTooDeep bytes place → IsTooDeep bytes place)

-- all bytes either spell the items of a file or have a fault that is no want of memory
abbrev pub FaultsAreThere : Type 0
FaultsAreThere = (bytes : List ℕ) → ((entries : List Entry) × IsSpelling bytes entries) ⊎ ((fault : SyntaxFault) × (fault ≢ Memory) × IsFaultOf bytes fault)

-- bytes that spell the items of a file have no fault but want of memory
abbrev pub SpellingsAreFaultless : Type 0
SpellingsAreFaultless = (bytes : List ℕ) (entries : List Entry) (fault : SyntaxFault) → IsSpelling bytes entries → IsFaultOf bytes fault → fault ≡ Memory
