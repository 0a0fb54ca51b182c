-- What is looked for in lists in byte order. Words of this crate's own proofs: no public clause cites them.
use Rattle.std.specs.Prelude.{◌≡◌, ℕ, ◌<◌, List, [], ◌∷◌, ◌++◌, map, take, slice_index_or, Bool, not}
use Rattle.std.specs.List.{AllByRecursion, list_any}
use Rattle.opam_names.specs.ByteOrders.{RisesBy, precedes}
use Rattle.opam_names.specs.Paths.{is_above}
use Rattle.path_order.specs.Apart.{meets}
use Rattle.owner_map.specs.declared.earlier.Place.{Place}

-- it does not stand before the text
abbrev pub is_from : {X : Type 0} → (X → List ℕ) → List ℕ → X → Bool
is_from key text x = not (precedes (key x) text)

abbrev pub is_above_text : {X : Type 0} → (X → List ℕ) → List ℕ → X → Bool
is_above_text key text x = is_above (key x) text

abbrev pub is_below_text : {X : Type 0} → (X → List ℕ) → List ℕ → X → Bool
is_below_text key text x = is_above text (key x)

abbrev pub meets_text : {X : Type 0} → (X → List ℕ) → List ℕ → X → Bool
meets_text key text x = meets text (key x)

-- the least text that a path below this one can have, or less: a `/` and a zero byte follow
abbrev pub below_bound : List ℕ → List ℕ
below_bound text = text ++ 47 ∷ 0 ∷ []

abbrev pub place_path : Place → List ℕ
place_path place = place.path

-- the path of this place
abbrev pub StandsIn : List (List ℕ) → ℕ → Place → Type 0
StandsIn paths n place = (place.index < n) × (slice_index_or paths place.index [] ≡ place.path)

-- the first n paths in byte order, each with its place
pub record Gathers (paths : List (List ℕ)) (n : ℕ) (places : List Place) : Type 0 where
  pub rises : RisesBy place_path places
  pub same : (test : List ℕ → Bool) → list_any test (map place_path places) ≡ list_any test (take n paths)
  pub stands : AllByRecursion (StandsIn paths n) places
