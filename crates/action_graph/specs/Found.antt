-- Proof words alone: what has been found of a least set.
use Rattle.std.specs.Prelude.{◌≡◌, ◌↔◌, ℕ, ◌+◌, ◌<◌, ◌≤◌, Bool, true, false, not, ◌&&◌, cond, List, [], ◌∷◌, ◌++◌, length, slice_index, slice_set}
use Rattle.std.specs.List.{slice_index_or}
use Rattle.action_graph.specs.Places.{IsIn}
use Rattle.action_graph.specs.Reach.{Reached}

-- a place is marked; none is behind the last
abbrev pub marked : List Bool → ℕ → Bool
marked marks place = slice_index_or marks place false

-- how many are marked
abbrev pub count_marked : List Bool → ℕ
count_marked [] = 0
count_marked (true ∷ marks) = count_marked marks + 1
count_marked (false ∷ marks) = count_marked marks

-- what is marked is listed once, and nothing else
pub record Coheres (marks : List Bool) (places : List ℕ) : Type 0 where
  pub listed : (place : ℕ) → marked marks place ≡ true → IsIn places place
  pub marked_all : (i : ℕ) → i < length places → marked marks (slice_index places i) ≡ true
  pub counted : length places ≡ count_marked marks

-- one more is marked, and put at the end where it was not
abbrev pub IsPut : List Bool → List ℕ → ℕ → List Bool → List ℕ → Type 0
IsPut marks places place more_marks more_places = (more_marks ≡ slice_set marks place true) × (more_places ≡ cond (marked marks place) places (places ++ place ∷ []))

-- all of these are marked, those that were not have come to the end
pub record Adds (marks : List Bool) (places : List ℕ) (added : List ℕ) (more_marks : List Bool) (more_places : List ℕ) : Type 0 where
  pub coheres : Coheres more_marks more_places
  pub same_length : length more_marks ≡ length marks
  pub longer : length places ≤ length more_places
  pub front : (i : ℕ) → i < length places → slice_index more_places i ≡ slice_index places i
  pub back : (i : ℕ) → length places ≤ i → i < length more_places → IsIn added (slice_index more_places i)
  pub kept : (place : ℕ) → marked marks place ≡ true → marked more_marks place ≡ true
  pub covered : (i : ℕ) → i < length added → marked more_marks (slice_index added i) ≡ true

-- the marks are those of the places of which something holds
pub record Marks (holds : ℕ → Type 0) (count : ℕ) (marks : List Bool) : Type 0 where
  pub counted : length marks ≡ count
  pub those : (place : ℕ) → (marked marks place ≡ true) ↔ holds place

-- a least set while it is found: the steps from the first places are done
pub record Spreads (count : ℕ) (leads : ℕ → List ℕ) (starts : List ℕ) (done : ℕ) (marks : List Bool) (places : List ℕ) : Type 0 where
  pub coheres : Coheres marks places
  pub counted : length marks ≡ count
  pub within : done ≤ length places
  pub sound : (i : ℕ) → i < length places → Reached (IsIn starts) (λ from. IsIn (leads from)) (slice_index places i)
  pub begun : (i : ℕ) → i < length starts → marked marks (slice_index starts i) ≡ true
  pub closed : (i : ℕ) → i < done → (to : ℕ) → IsIn (leads (slice_index places i)) to → marked marks to ≡ true

-- of the first places those are marked that are wanted and not listed
pub record IsLeft (wanted listed : List Bool) (count : ℕ) (left : List Bool) : Type 0 where
  pub counted : length left ≡ count
  pub those : (place : ℕ) → place < count → marked left place ≡ (marked wanted place && not (marked listed place))
