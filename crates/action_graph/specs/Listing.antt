-- Proof words alone: members while they are listed.
use Rattle.std.specs.Prelude.{◌≡◌, ◌≢◌, ◌⊎◌, ℕ, ◌<◌, ◌≤◌, Bool, true, false, List, [], length, map, slice_index, MatchOption}
use Rattle.std.specs.List.{slice_index_or}
use Rattle.std.specs.Ordering.{nat_cmp}
use Rattle.std.specs.BTreeSet.{BTreeSet, contains}
use Rattle.action_graph.specs.Places.{IsIn}
use Rattle.action_graph.specs.Order.{GoesOn}
use Rattle.opam_package.specs.declared.package.Member.{Member}
use Rattle.std.specs.declared.option.Option.{Option}
use Rattle.std.specs.declared.option.Option.TheVariants.{Some}
use Rattle.action_graph.specs.declared.plan.Step.{Step}
use Rattle.action_graph.specs.Links.{need_places}
use Rattle.action_graph.specs.Plans.{bears_name}
use Rattle.action_graph.specs.Found.{Coheres, marked}

-- what stands in a row; nothing in one behind the last
abbrev pub row : List (List ℕ) → ℕ → List ℕ
row rows place = slice_index_or rows place []

-- each row has such places alone
abbrev pub RowsWithin : List (List ℕ) → ℕ → Type 0
RowsWithin rows count = (place : ℕ) (at : ℕ) → IsIn (row rows place) at → at < count

-- a place stands among those that can be next
abbrev pub has : BTreeSet ℕ → ℕ → Bool
has ready place = contains nat_cmp ready place

-- a place is marked
abbrev pub IsMarked : List Bool → ℕ → Type 0
IsMarked marks place = marked marks place ≡ true

-- a need is met: it is listed where it is wanted
abbrev pub IsMet : List Bool → List Bool → ℕ → Type 0
IsMet wanted listed need = IsMarked wanted need → IsMarked listed need

-- it can be the next one
pub record MayBeNext (needs : List (List ℕ)) (wanted listed : List Bool) (place : ℕ) : Type 0 where
  pub is_wanted : IsMarked wanted place
  pub is_new : marked listed place ≡ false
  pub is_met : (k : ℕ) → k < length (row needs place) → IsMet wanted listed (slice_index (row needs place) k)

-- one is put among those that are ready
pub record PutsReady (before now : BTreeSet ℕ) (place : ℕ) : Type 0 where
  pub only : (other : ℕ) → has now other ≡ true → (has before other ≡ true) ⊎ (other ≡ place)
  pub kept : (other : ℕ) → has before other ≡ true → has now other ≡ true
  pub put : has now place ≡ true

-- the least is taken away
pub record TakesLeast (before now : BTreeSet ℕ) (place : ℕ) : Type 0 where
  pub was : has before place ≡ true
  pub least : (other : ℕ) → has before other ≡ true → place ≤ other
  pub only : (other : ℕ) → has now other ≡ true → has before other ≡ true
  pub gone : has now place ≡ false
  pub kept : (other : ℕ) → other ≢ place → has before other ≡ true → has now other ≡ true

-- the needs before a cursor are met
abbrev pub MetBelow : List (List ℕ) → List Bool → List Bool → List ℕ → Type 0
MetBelow needs wanted listed cursors = (place k : ℕ) → k < slice_index cursors place → k < length (row needs place) → IsMet wanted listed (slice_index (row needs place) k)

-- some places were looked at, and those of them that can be next are ready
pub record Looks (needs : List (List ℕ)) (wanted listed : List Bool) (before now : BTreeSet ℕ) (places : List ℕ) (cursors : List ℕ) : Type 0 where
  pub only : (place : ℕ) → has now place ≡ true → (has before place ≡ true) ⊎ MayBeNext needs wanted listed place
  pub kept : (place : ℕ) → has before place ≡ true → has now place ≡ true
  pub found : (place : ℕ) → IsIn places place → MayBeNext needs wanted listed place → has now place ≡ true
  pub met : MetBelow needs wanted listed cursors
  pub counted : length cursors ≡ length wanted

-- an order while it is made
pub record Lists (needs : List (List ℕ)) (wanted listed : List Bool) (order : List ℕ) (ready : BTreeSet ℕ) (cursors : List ℕ) : Type 0 where
  pub coheres : Coheres listed order
  pub counted : length listed ≡ length wanted
  pub steps : GoesOn (row needs) (IsMarked wanted) [] order
  pub only : (place : ℕ) → has ready place ≡ true → MayBeNext needs wanted listed place
  pub all : (place : ℕ) → MayBeNext needs wanted listed place → has ready place ≡ true
  pub met : MetBelow needs wanted listed cursors
  pub cursors_counted : length cursors ≡ length wanted

-- none is ready, or the least is taken away
abbrev pub MayTake : BTreeSet ℕ → BTreeSet ℕ → Option ℕ → Type 0
MayTake before now taken = MatchOption taken ((place : ℕ) → has before place ≡ false) (TakesLeast before now)

-- each row tells for a place those in whose rows it stands
pub record Turns (rows turned : List (List ℕ)) : Type 0 where
  pub counted : length turned ≡ length rows
  pub back : (from to : ℕ) → from < length rows → IsIn (row rows from) to → IsIn (row turned to) from
  pub within : RowsWithin turned (length rows)

-- the place is added to the rows of some
pub record AddsTo (before now : List (List ℕ)) (rows_of : List ℕ) (place : ℕ) : Type 0 where
  pub counted : length now ≡ length before
  pub kept : (at other : ℕ) → IsIn (row before at) other → IsIn (row now at) other
  pub added : (at : ℕ) → IsIn rows_of at → IsIn (row now at) place
  pub only : (at other : ℕ) → IsIn (row now at) other → IsIn (row before at) other ⊎ ((other ≡ place) × IsIn rows_of at)

-- the first rows are done
pub record TurnsBelow (done : ℕ) (rows turned : List (List ℕ)) : Type 0 where
  pub counted : length turned ≡ length rows
  pub back : (from to : ℕ) → from < done → IsIn (row rows from) to → IsIn (row turned to) from
  pub within : RowsWithin turned (length rows)

-- as far as the order goes
pub record IsListed (needs : List (List ℕ)) (wanted listed : List Bool) (order : List ℕ) : Type 0 where
  pub coheres : Coheres listed order
  pub counted : length listed ≡ length wanted
  pub steps : GoesOn (row needs) (IsMarked wanted) [] order
  pub ends : (place : ℕ) → ¬ MayBeNext needs wanted listed place

-- which members have one of these names
abbrev pub named_marks : List (List ℕ) → List Member → List Bool
named_marks names members = map (λ (member : Member). bears_name names (Some member)) members

-- what each member needs among all
abbrev pub need_rows : List Member → List Member → List (List ℕ)
need_rows members all = map (λ (member : Member). need_places member.package all) members

-- an install with its needs in a row
abbrev pub step_in : List (List ℕ) → ℕ → Step
step_in rows place = record { member = place; needs = row rows place }
