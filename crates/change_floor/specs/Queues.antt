-- Proof words alone: what installs wait for, and those that wait for nothing.
use Rattle.std.specs.Prelude.{◌≡◌, ℕ, ◌+◌, ◌<◌, ◌≤◌, cond, nat_eq, nat_lt, List, length, count_by, slice_index_or, take}
use Rattle.std.specs.BinaryHeap.{IsHeap, heap_capacity, heap_items, heap_len}
use Rattle.std.specs.declared.collections.BinaryHeap.{BinaryHeap}
use Rattle.std.specs.declared.cmp.Reverse.{Reverse}
use Rattle.std.specs.declared.cmp.Ordering.{Ordering}
use Rattle.std.specs.Ordering.{nat_cmp}

-- how often a number stands in a list
abbrev pub times : ℕ → List ℕ → ℕ
times x xs = count_by (λ y. nat_eq y x) xs

-- the least number comes first
abbrev pub least_first : Reverse ℕ → Reverse ℕ → Ordering
least_first one other = nat_cmp other.0 one.0

-- how often a place stands in a heap
abbrev pub times_in : ℕ → List (Reverse ℕ) → ℕ
times_in place items = count_by (λ (item : Reverse ℕ). nat_eq item.0 place) items

-- one place of a heap stands before all others
pub record IsFirstReady (items : List (Reverse ℕ)) (place : ℕ) : Type 0 where
  pub stands : 0 < times_in place items
  pub least : (other : ℕ) → 0 < times_in other items → place ≤ other

-- 1 where nothing is waited for
abbrev pub is_free : ℕ → ℕ
is_free left = cond (nat_eq left 0) 1 0

-- how many still wait
abbrev pub waiting_in : List ℕ → ℕ
waiting_in left = count_by (λ one. nat_lt 0 one) left

-- how many needs an install waits for; past the last one there is none that waits for nothing
abbrev pub left_of : List ℕ → ℕ → ℕ
left_of left place = slice_index_or left place 1

-- the heap is in order, and has room for all that still wait
pub record Fits {Z : Type 0} (left : List ℕ) (ready : BinaryHeap (Reverse ℕ) Z) : Type 0 where
  pub ordered : IsHeap least_first (heap_items ready)
  pub room : heap_len ready + waiting_in left ≤ heap_capacity ready

-- each place of a row waits for one need less for each time that it stands there, and those that now wait for none came into the heap
pub record Lowers {Z : Type 0} (before : List ℕ) (was : BinaryHeap (Reverse ℕ) Z) (row now : List ℕ) (is : BinaryHeap (Reverse ℕ) Z) : Type 0 where
  pub counted : length now ≡ length before
  pub lowered : (place : ℕ) → left_of now place + times place row ≡ left_of before place
  pub readied : (place : ℕ) → times_in place (heap_items is) + is_free (left_of before place) ≡ times_in place (heap_items was) + is_free (left_of now place)
  pub fits : Fits now is

-- the heap has just the places that wait for nothing
abbrev pub Readies : List ℕ → List (Reverse ℕ) → Type 0
Readies left items = (place : ℕ) → times_in place items ≡ is_free (left_of left place)

-- the first places are looked at
pub record Fills {Z : Type 0} (left : List ℕ) (place : ℕ) (ready : BinaryHeap (Reverse ℕ) Z) : Type 0 where
  pub ordered : IsHeap least_first (heap_items ready)
  pub room : heap_len ready + waiting_in (take place left) ≤ place
  pub wide : length left ≤ heap_capacity ready
  pub stands : Readies (take place left) (heap_items ready)
