-- Proof words alone: the names of a target and of a switch, one list behind the other, and where each stands there first.
use Rattle.std.specs.Prelude.{◌≡◌, ◌↔◌, ℕ, suc, ◌+◌, ◌<◌, ◌^◌, Bool, true, cond, List, [], ◌∷◌, ◌++◌, length, map, slice_get, bytes_eq}
use Rattle.std.specs.List.{IsDistinct}
use Rattle.std.specs.declared.option.Option.{Option}
use Rattle.std.specs.declared.option.Option.TheVariants.{None, Some}
use Rattle.std.specs.Option.{option_map, option_or}
use Rattle.opam_names.specs.ByteOrders.{NeverFallsBy, RisesBy, has_key, in_order_by, place_of_key}
use Rattle.opam_package.specs.declared.package.Member.{Member}
use Rattle.action_graph.specs.declared.affected.Change.{Change}
use Rattle.action_graph.specs.declared.lookup.Spot.{Spot}
use Rattle.action_graph.specs.Leaving.{OfName, is_dependent, is_touched, member_called, name_of}
use Rattle.action_graph.specs.Reach.{Reached}
use Rattle.action_graph.specs.Links.{edges_at, member_edges, member_names}
use Rattle.action_graph.specs.Places.{IsIn}
use Rattle.action_graph.specs.Found.{marked}
use Rattle.action_graph.specs.Listing.{row}

-- the name of a spot
abbrev pub spot_name : Spot → List ℕ
spot_name spot = spot.name

-- names with their places, from one on
abbrev pub spots_from : ℕ → List Member → List Spot
spots_from at [] = []
spots_from at (member ∷ members) = record { name = name_of member; place = at } ∷ spots_from (at + 1) members

-- the same in byte order
abbrev pub spots_in : List Member → List Spot
spots_in members = in_order_by spot_name (spots_from 0 members)

-- members in the byte order of their names, each name once
pub record AreInOrder (members : List Member) : Type 0 where
  pub small : length members < 2 ^ 32
  pub order : NeverFallsBy name_of members
  pub differ : IsDistinct bytes_eq (map name_of members)

-- what a change is asked of
pub record Suits (installed members : List Member) (spots : List Spot) : Type 0 where
  pub small : length members + length installed < 2 ^ 32
  pub rises : RisesBy name_of members
  pub order : NeverFallsBy name_of members
  pub apart : IsDistinct bytes_eq (map name_of members)
  pub differ : IsDistinct bytes_eq (map name_of installed)
  pub index : spots ≡ spots_in installed

-- the same of a change
abbrev pub IsAsked : Change → Type 0
IsAsked change = Suits change.installed.now change.members.now change.index.now.spots

-- the names of both
abbrev pub both_names : List Member → List Member → List (List ℕ)
both_names installed members = member_names members ++ member_names installed

-- where a name stands in the target, or else so far behind it
abbrev pub node_or : Option ℕ → ℕ → ℕ
node_or None other = other
node_or (Some place) other = place

-- where the name of an entry stands
abbrev pub entry_node : List Member → List Member → ℕ → Option Member → ℕ
entry_node installed members place None = length members + place
entry_node installed members place (Some entry) = node_or (place_of_key name_of (name_of entry) members) (length members + place)

-- the same by its place
abbrev pub node_at : List Member → List Member → ℕ → ℕ
node_at installed members place = entry_node installed members place (slice_get installed place)

-- the edges of a name in a set
abbrev pub edges_called : List Member → List ℕ → List ℕ
edges_called members name = member_edges (member_called members name) members

-- where that stands which an entry has an edge to
abbrev pub entry_leads : List Member → List Member → ℕ → Option Member → List ℕ
entry_leads installed members place None = []
entry_leads installed members place (Some entry) =
    map (node_at installed members) (edges_at installed place) ++ edges_called members (name_of entry)

-- the same by its place
abbrev pub leads_at : List Member → List Member → ℕ → List ℕ
leads_at installed members place = entry_leads installed members place (slice_get installed place)

-- each row tells where the names of those of the first entries stand that have an edge to its own
pub record Depends (installed members : List Member) (done : ℕ) (rows : List (List ℕ)) : Type 0 where
  pub counted : length rows ≡ length members + length installed
  pub back : (at to : ℕ) → at < done → IsIn (leads_at installed members at) to → IsIn (row rows to) (node_at installed members at)
  pub only : (to from : ℕ) → IsIn (row rows to) from
      → (at : ℕ) × (at < done) × (from ≡ node_at installed members at) × IsIn (leads_at installed members at) to

-- the marks of entries are those of their names
pub record OfEntries (installed members : List Member) (marks : List Bool) (count : ℕ) (leaving : List Bool) : Type 0 where
  pub counted : length leaving ≡ count
  pub those : (at : ℕ) → at < count → marked leaving at ≡ marked marks (node_at installed members at)

-- the first place whose element passes
abbrev pub first_place : {X : Type 0} → (X → Bool) → List X → Option ℕ
first_place test [] = None
first_place test (x ∷ xs) = cond (test x) (Some 0) (option_map suc (first_place test xs))

-- where a name stands first in both
abbrev pub first_in_both : List Member → List Member → List ℕ → Option ℕ
first_in_both installed members name =
    option_or (first_place (has_key name_of name) members) (option_map (λ at. length members + at) (first_place (has_key name_of name) installed))

-- what is affected, where the marked names are given in any order
abbrev pub Affected : List Member → List Member → List (List ℕ) → List ℕ → Type 0
Affected installed members redo =
    Reached (λ name. is_touched installed members redo name ≡ true) (λ other name. is_dependent installed members name other ≡ true)

-- the names that are marked are those that are affected
pub record Affects (installed members : List Member) (redo : List (List ℕ)) (marks : List Bool) : Type 0 where
  pub counted : length marks ≡ length members + length installed
  pub entries : (at : ℕ) → at < length installed
      → (marked marks (node_at installed members at) ≡ true) ↔ OfName (Affected installed members redo) (slice_get installed at)
  pub comers : (at : ℕ) → at < length members → (marked marks at ≡ true) ↔ OfName (Affected installed members redo) (slice_get members at)
