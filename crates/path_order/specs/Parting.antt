-- Where texts part, and what may stand behind paths. Words of this crate's own proofs: no public clause cites them.
use Rattle.std.specs.Prelude.{◌≡◌, ℕ, ◌+◌, ◌<◌, List, [], ◌∷◌, length, slice_index_or, false, ◌==◌, if◌then◌else◌}
use Rattle.std.specs.declared.cmp.Ordering.TheVariants.{Less}
use Rattle.opam_names.specs.ByteOrders.{byte_order}
use Rattle.opam_names.specs.Paths.{is_above}

-- the path stands after all of these, and none of them is above it
pub record StandsLast (paths : List (List ℕ)) (path : List ℕ) : Type 0 where
  pub after : (k : ℕ) → k < length paths → byte_order (slice_index_or paths k []) path ≡ Less
  pub free : (k : ℕ) → k < length paths → is_above (slice_index_or paths k []) path ≡ false

-- how many bytes two texts have in common at their front
abbrev pub common_len : List ℕ → List ℕ → ℕ
common_len [] b = 0
common_len (x ∷ xs) [] = 0
common_len (x ∷ xs) (y ∷ ys) = if x == y then 1 + common_len xs ys else 0
