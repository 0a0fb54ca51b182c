-- The names that an `install` needs (opam manual, package formulas). That a package needs what any kept atom of its full
-- formulas names is this project's own.
use Rattle.std.specs.Prelude.{ℕ, List, Contains}
use Rattle.std.specs.List.{flat_map}
use Rattle.opam_names.specs.ByteOrders.{RisesBy}
use Rattle.opam_filter.specs.Sets.{names}
use Rattle.opam_package.specs.declared.package.Need.{Need}
use Rattle.opam_package.specs.declared.package.Package.{Package}

-- the names of the kept atoms of a package's full formulas
abbrev pub full_names : Package → List (List ℕ)
full_names dependent = flat_map (λ (need : Need). names need.full) dependent.items

-- names that have all starts, and with each of them all those to which it leads
pub record IsClosed (starts : List (List ℕ)) (leads : List ℕ → List (List ℕ)) (closed : List (List ℕ)) : Type 0 where
  pub begun : (name : List ℕ) → Contains starts name → Contains closed name
  pub led : (name to : List ℕ) → Contains closed name → Contains (leads name) to → Contains closed to

-- the least such names, in byte order and each once
pub record IsLeast (starts : List (List ℕ)) (leads : List ℕ → List (List ℕ)) (needed : List (List ℕ)) : Type 0 where
  pub rises : RisesBy (λ name. name) needed
  pub closed : IsClosed starts leads needed
  pub least : (others : List (List ℕ)) → IsClosed starts leads others → (name : List ℕ) → Contains needed name → Contains others name
