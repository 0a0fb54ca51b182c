-- Laws of orders and of least sets. What is wanted, and what begins a set, are given as tests.
use Rattle.std.specs.Prelude.{◌≡◌, ◌≢◌, ℕ, ◌<◌, Bool, true, List, length, slice_index}
use Rattle.action_graph.specs.Order.{IsOrder, Stops}
use Rattle.action_graph.specs.Places.{IsIn}
use Rattle.action_graph.specs.Reach.{Reached}

-- the places at which a test holds
abbrev pub HoldsOf : (ℕ → Bool) → ℕ → Type 0
HoldsOf test place = test place ≡ true

-- there is one order at most, and none where the order stops
pub record OneOrder : Type 0 where
  pub one : (needs : ℕ → List ℕ) (wanted : ℕ → Bool) (order other : List ℕ) → IsOrder needs (HoldsOf wanted) order
      → IsOrder needs (HoldsOf wanted) other → order ≡ other
  pub never_both : (needs : ℕ → List ℕ) (wanted : ℕ → Bool) (order left : List ℕ) → IsOrder needs (HoldsOf wanted) order
      → ¬ Stops needs (HoldsOf wanted) left

-- each member of a list is wanted, stands there once, and has its wanted needs before it
pub record NeedsComeFirst (needs : ℕ → List ℕ) (wanted : ℕ → Type 0) (order : List ℕ) : Type 0 where
  pub all_wanted : (i : ℕ) → i < length order → wanted (slice_index order i)
  pub once : (i j : ℕ) → i < j → j < length order → slice_index order i ≢ slice_index order j
  pub before : (i : ℕ) → i < length order → (need : ℕ) → IsIn (needs (slice_index order i)) need → wanted need
      → (j : ℕ) × (j < i) × (slice_index order j ≡ need)

-- in every order it is so
abbrev pub OrdersKeepNeeds : Type 0
OrdersKeepNeeds = (needs : ℕ → List ℕ) (wanted : ℕ → Bool) (order : List ℕ) → IsOrder needs (HoldsOf wanted) order
    → NeedsComeFirst needs (HoldsOf wanted) order

-- what has all starts, and with each of its elements all that a step leads to, has all that is reached
abbrev pub ReachedIsLeast : Type 0
ReachedIsLeast = (start test : ℕ → Bool) (step : ℕ → List ℕ) → ((place : ℕ) → HoldsOf start place → HoldsOf test place)
    → ((from to : ℕ) → HoldsOf test from → IsIn (step from) to → HoldsOf test to)
    → (place : ℕ) → Reached (HoldsOf start) (λ from. IsIn (step from)) place → HoldsOf test place
