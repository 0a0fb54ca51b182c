-- The order in which members are installed. This project's own. Members stand in the byte order of their names, so of several
-- members the one at the least place has the least name.
use Rattle.std.specs.Prelude.{◌≢◌, ℕ, ◌≤◌, List, [], ◌∷◌, ◌++◌}
use Rattle.action_graph.specs.Places.{ArePlaces, IsIn}

-- a member that is wanted can be next where it is not listed yet and each of its needs that is wanted is listed
pub record CanBeNext (needs : ℕ → List ℕ) (wanted : ℕ → Type 0) (listed : List ℕ) (place : ℕ) : Type 0 where
  pub is_wanted : wanted place
  pub is_new : ¬ IsIn listed place
  pub is_met : (need : ℕ) → IsIn (needs place) need → wanted need → IsIn listed need

-- the next one is the least of those
pub record IsNext (needs : ℕ → List ℕ) (wanted : ℕ → Type 0) (listed : List ℕ) (place : ℕ) : Type 0 where
  pub can : CanBeNext needs wanted listed place
  pub least : (other : ℕ) → CanBeNext needs wanted listed other → place ≤ other

-- after those that are listed, each one is the next
abbrev pub GoesOn : (ℕ → List ℕ) → (ℕ → Type 0) → List ℕ → List ℕ → Type 0
GoesOn needs wanted listed [] = Unit {0}
GoesOn needs wanted listed (place ∷ more) = IsNext needs wanted listed place × GoesOn needs wanted (listed ++ place ∷ []) more

-- an order lists all that are wanted
pub record IsOrder (needs : ℕ → List ℕ) (wanted : ℕ → Type 0) (order : List ℕ) : Type 0 where
  pub steps : GoesOn needs wanted [] order
  pub whole : (place : ℕ) → wanted place → IsIn order place

-- the order stops: some are left, and none of them can be next
pub record Stops (needs : ℕ → List ℕ) (wanted : ℕ → Type 0) (left : List ℕ) : Type 0 where
  pub listed : List ℕ
  pub steps : GoesOn needs wanted [] listed
  pub ends : (place : ℕ) → ¬ CanBeNext needs wanted listed place
  pub others : ArePlaces (λ place. wanted place × (¬ IsIn listed place)) left
  pub some : left ≢ []
