-- Lists of paths in byte order of which none is above another. This project's own.
use Rattle.std.specs.Prelude.{ℕ, List, Bool, bytes_eq, ◌||◌}
use Rattle.std.specs.List.{IsDistinct}
use Rattle.std.specs.List.Sorted.{IsStrictlySortedBy}
use Rattle.opam_names.specs.ByteOrders.{byte_order}
use Rattle.opam_names.specs.Paths.{is_above}

-- paths rise, and none is above a later one; no path is above one that stands before it
pub record AreApart (paths : List (List ℕ)) : Type 0 where
  pub rise : IsStrictlySortedBy byte_order paths
  pub apart : IsDistinct is_above paths

-- two paths meet where they are equal or one is above the other
abbrev pub meets : List ℕ → List ℕ → Bool
meets p q = bytes_eq p q || is_above p q || is_above q p
