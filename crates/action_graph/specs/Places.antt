-- Places in lists, counted from 0. This project's own.
use Rattle.std.specs.Prelude.{◌≡◌, ◌↔◌, ℕ, ◌+◌, ◌<◌, Bool, cond, List, [], ◌∷◌, length, slice_index, slice_get, EachIndex}
use Rattle.std.specs.List.{filter_map}

-- the number stands in the list
abbrev pub IsIn : List ℕ → ℕ → Type 0
IsIn xs x = (i : ℕ) × (i < length xs) × (slice_index xs i ≡ x)

-- all of them are below a number
abbrev pub AreBelow : List ℕ → ℕ → Type 0
AreBelow places count = EachIndex places (λ i. slice_index places i < count)

-- the places, from one on, of the elements that pass the test
abbrev pub places_from : {X : Type 0} → (X → Bool) → ℕ → List X → List ℕ
places_from test at [] = []
places_from test at (x ∷ xs) = cond (test x) (at ∷ places_from test (at + 1) xs) (places_from test (at + 1) xs)

-- the list has just the numbers of which something holds, from the least to the greatest
pub record ArePlaces (holds : ℕ → Type 0) (places : List ℕ) : Type 0 where
  pub rising : (i j : ℕ) → i < j → j < length places → slice_index places i < slice_index places j
  pub those : (place : ℕ) → IsIn places place ↔ holds place

-- the same from the greatest to the least
pub record ArePlacesBack (holds : ℕ → Type 0) (places : List ℕ) : Type 0 where
  pub falling : (i j : ℕ) → i < j → j < length places → slice_index places j < slice_index places i
  pub those : (place : ℕ) → IsIn places place ↔ holds place

-- what stands at the places
abbrev pub at_places : {X : Type 0} → List X → List ℕ → List X
at_places xs places = filter_map (slice_get xs) places
