-- Packages as they are written: `name.version` (opam manual, file format: package names and versions).
use Rattle.std.specs.Prelude.{◌≡◌, ℕ, List, ◌∷◌, ◌++◌, Bool, ◌==◌}
use Rattle.opam_names.specs.Names.{IsName, IsVersion}
use Rattle.opam_names.specs.declared.packages.Pkg.{Pkg}

-- the byte `.`
abbrev pub is_dot : ℕ → Bool
is_dot b = b == 46

-- name, dot, version
abbrev pub pkg_text : Pkg → List ℕ
pkg_text pkg = pkg.name ++ 46 ∷ pkg.version

-- these bytes are written for this package; a name has no dot, so that is the first one
pub record IsPkgText (bytes : List ℕ) (pkg : Pkg) : Type 0 where
  pub name : IsName pkg.name
  pub version : IsVersion pkg.version
  pub text : bytes ≡ pkg_text pkg

-- some package is written so
abbrev pub IsPkg : List ℕ → Type 0
IsPkg bytes = (pkg : Pkg) × IsPkgText bytes pkg
