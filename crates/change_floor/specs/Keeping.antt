-- Proof words alone: what a floor keeps beside its plan, so that each call is fast.
use Rattle.std.specs.Prelude.{◌≡◌, ℕ, ◌+◌, ◌-◌, ◌^◌, ◌++◌, ◌<◌, ◌≤◌, Vec, vec_capacity, Bool, false, not, cond, nat_eq, List, [], ◌∷◌, length, count_by, position, slice_index_or}
use Rattle.std.specs.List.{list_any}
use Rattle.std.specs.Ordering.{nat_cmp}
use Rattle.std.specs.BinaryHeap.{heap_items}
use Rattle.std.specs.BTreeMap.{BTreeMap, get}
use Rattle.std.specs.BTreeSet.{BTreeSet, contains}
use Rattle.std.specs.declared.option.Option.{Option}
use Rattle.action_graph.specs.declared.plan.Plan.{Plan}
use Rattle.action_graph.specs.declared.plan.Step.{Step}
use Rattle.change_floor.specs.declared.index.Index.{Index}
use Rattle.change_floor.specs.declared.queue.Queue.{Queue}
use Rattle.change_floor.specs.declared.progress.Progress.{Progress}
use Rattle.change_floor.specs.declared.progress.Progress.TheVariants.{Waiting}
use Rattle.change_floor.specs.Floors.{has_installed, is_waiting, lacking, install_place, running}
use Rattle.change_floor.specs.FloorLaws.{EachOnce, install_needs}
use Rattle.change_floor.specs.Queues.{Fits, is_free, left_of, times, times_in}

-- where a member stands, if it is an install
abbrev pub standing : List Step → ℕ → Option ℕ
standing installs member = position (λ (step : Step). nat_eq step.member member) installs

-- a table says where each install stands
abbrev pub KnowsPlaces : List Step → BTreeMap ℕ ℕ → Type 0
KnowsPlaces installs places = (member : ℕ) → get nat_cmp places member ≡ standing installs member

-- a set has just the members that are missing
abbrev pub KnowsMissing : List ℕ → BTreeSet ℕ → Type 0
KnowsMissing members set = (member : ℕ) → contains nat_cmp set member ≡ list_any (nat_eq member) members

-- both, of a plan
pub record Indexes (plan : Plan) (index : Index) : Type 0 where
  pub places : KnowsPlaces plan.installs index.places
  pub missing : KnowsMissing plan.missing index.missing

-- how often an install is among these needs
abbrev pub needed : List Step → ℕ → List ℕ → ℕ
needed installs place needs = count_by (λ need. nat_eq (install_place installs need) place) needs

-- the row of a place
abbrev pub row_at : List (List ℕ) → ℕ → List ℕ
row_at rows place = slice_index_or rows place []

-- for each install those that need it, once for each such need
pub record Turned (plan : Plan) (rows : List (List ℕ)) : Type 0 where
  pub counted : length rows ≡ length plan.installs
  pub those : (place dependent : ℕ) → place < length plan.installs → times dependent (row_at rows place) ≡ needed plan.installs place (install_needs plan dependent)

-- how many of these needs are not installed
abbrev pub unmet : Plan → List Bool → List ℕ → ℕ
unmet plan decided needs = count_by (λ need. not (has_installed plan decided need)) needs

-- of the needs of one install, each that is an install has it in its row
pub record Notes (plan : Plan) (before : List (List ℕ)) (needs : List ℕ) (dependent : ℕ) (now : List (List ℕ)) : Type 0 where
  pub counted : length now ≡ length before
  pub own : (place : ℕ) → place < length plan.installs → times dependent (row_at now place) ≡ times dependent (row_at before place) + needed plan.installs place needs
  pub others : (place other : ℕ) → place < length plan.installs → (other ≡ dependent → ⊥) → times other (row_at now place) ≡ times other (row_at before place)

-- the first installs stand in the rows of those that they need
pub record TurnedBelow (plan : Plan) (done : ℕ) (rows : List (List ℕ)) : Type 0 where
  pub counted : length rows ≡ length plan.installs
  pub first : (place dependent : ℕ) → place < length plan.installs → dependent < done → times dependent (row_at rows place) ≡ needed plan.installs place (install_needs plan dependent)
  pub rest : (place dependent : ℕ) → place < length plan.installs → done ≤ dependent → times dependent (row_at rows place) ≡ 0

-- for each install how many of its needs are not installed
abbrev pub CountsUnmet : Plan → List Bool → List ℕ → Type 0
CountsUnmet plan decided left = (place : ℕ) → place < length plan.installs → left_of left place ≡ unmet plan decided (install_needs plan place)

-- one action more is decided
pub record Settles (plan : Plan) (decided : List Bool) (done : Bool) (before now : Queue) : Type 0 where
  pub counted : length now.left ≡ length before.left
  pub counts : CountsUnmet plan (decided ++ done ∷ []) now.left
  pub fewer : (place : ℕ) → left_of now.left place ≤ left_of before.left place
  pub readied : (place : ℕ) → times_in place (heap_items now.ready) + is_free (left_of before.left place) ≡ times_in place (heap_items before.ready) + is_free (left_of now.left place)
  pub fits : Fits now.left now.ready

-- an install of which no job was started stands in the heap where it waits for nothing
abbrev pub ready_times : List Progress → List ℕ → ℕ → ℕ
ready_times jobs left place = cond (is_waiting (slice_index_or jobs place Waiting)) (is_free (left_of left place)) 0

-- all that a floor keeps
pub record FloorKeeps {Z : Type 0} (plan : Plan) (decided : Vec Bool Z) (jobs : List Progress) (busy : ℕ) (lacks : Option ℕ) (index : Index) (dependents : List (List ℕ)) (queue : Queue) : Type 0 where
  pub once : EachOnce plan.installs
  pub known : Indexes plan index
  pub small : length plan.removals + length plan.installs < 2 ^ 64
  pub spare : length plan.removals + length plan.installs ≤ vec_capacity decided
  pub within : length decided.items ≤ length plan.removals + length plan.installs
  pub counted : length jobs ≡ length plan.installs
  pub runs : busy ≡ running jobs
  pub lack : length plan.removals ≤ length decided.items → lacks ≡ lacking plan decided.items (install_needs plan (length decided.items - length plan.removals))
  pub turned : Turned plan dependents
  pub lefts : length queue.left ≡ length plan.installs
  pub counts : CountsUnmet plan decided.items queue.left
  pub fits : Fits queue.left queue.ready
  pub readied : (place : ℕ) → times_in place (heap_items queue.ready) ≡ ready_times jobs queue.left place
  pub freed : (place : ℕ) → place < length plan.installs → is_waiting (slice_index_or jobs place Waiting) ≡ false → left_of queue.left place ≡ 0
