-- Tests that compute say the same as what is said of names, versions and paths.
use Rattle.std.specs.Prelude.{ℕ, List, IsTrue, ◌↔◌}
use Rattle.opam_names.specs.Names.{IsName, IsVersion, is_name, is_version}
use Rattle.opam_names.specs.Paths.{IsPath, is_relative_path}

pub record TestsSayTheSame : Type 0 where
  pub names : (bytes : List ℕ) → IsTrue (is_name bytes) ↔ IsName bytes
  pub versions : (bytes : List ℕ) → IsTrue (is_version bytes) ↔ IsVersion bytes
  pub paths : (bytes : List ℕ) → IsTrue (is_relative_path bytes) ↔ IsPath bytes
