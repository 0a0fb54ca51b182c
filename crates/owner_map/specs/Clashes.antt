-- Clashes of new paths with owned ones and with one another: a path clashes with each that is the same, above it or below it.
-- This project's own.
use Rattle.std.specs.Prelude.{◌≡◌, ℕ, ◌<◌, List, [], length, take, slice_index_or, Bool, true, false, bytes_eq, not, nat_lt, ◌&&◌}
use Rattle.std.specs.List.{list_any}
use Rattle.opam_names.specs.ByteOrders.{precedes}
use Rattle.path_order.specs.Apart.{meets}
use Rattle.owner_map.specs.declared.clash.Clash.{Clash}
use Rattle.owner_map.specs.declared.clash.Other.{Other}
use Rattle.owner_map.specs.declared.clash.Other.TheVariants.{Earlier, Owned}

-- a path that meets no owned path and no earlier one
pub record IsFree (owned earlier : List (List ℕ)) (path : List ℕ) : Type 0 where
  pub of_owned : list_any (meets path) owned ≡ false
  pub of_earlier : list_any (meets path) earlier ≡ false

-- each of the first n paths is free of the owned ones and of those before it
abbrev pub NoneClash : List (List ℕ) → List (List ℕ) → ℕ → Type 0
NoneClash owned paths n = (k : ℕ) → k < n → IsFree owned (take k paths) (slice_index_or paths k [])

-- the path that is named
abbrev pub named : List (List ℕ) → List (List ℕ) → Other → List ℕ
named owned earlier (Earlier k) = slice_index_or earlier k []
named owned earlier (Owned k) = slice_index_or owned k []

-- the list has such a place
abbrev pub is_place : List (List ℕ) → List (List ℕ) → Other → Bool
is_place owned earlier (Earlier k) = nat_lt k (length earlier)
is_place owned earlier (Owned k) = nat_lt k (length owned)

-- an earlier path is named only where no owned path is the same
abbrev pub names_owned_first : List (List ℕ) → List ℕ → Other → Bool
names_owned_first owned name (Earlier k) = not (list_any (bytes_eq name) owned)
names_owned_first owned name (Owned k) = true

-- it meets the path, and precedes this name
abbrev pub meets_before : List ℕ → List ℕ → List ℕ → Bool
meets_before path name other = meets path other && precedes other name

-- the least path in byte order, owned or earlier, that meets the path; of equal ones the owned one
pub record IsLeastMet (owned earlier : List (List ℕ)) (path : List ℕ) (other : Other) : Type 0 where
  pub there : is_place owned earlier other ≡ true
  pub met : meets path (named owned earlier other) ≡ true
  pub least_owned : list_any (meets_before path (named owned earlier other)) owned ≡ false
  pub least_earlier : list_any (meets_before path (named owned earlier other)) earlier ≡ false
  pub owned_first : names_owned_first owned (named owned earlier other) other ≡ true

-- the first path that clashes, with the least that it meets
pub record IsClash (owned paths : List (List ℕ)) (clash : Clash) : Type 0 where
  pub within : clash.index < length paths
  pub first : NoneClash owned paths clash.index
  pub least : IsLeastMet owned (take clash.index paths) (slice_index_or paths clash.index []) clash.other
