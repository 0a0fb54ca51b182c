-- Where opam files stand in a repository (opam manual, repositories: `packages/<name>/<name>.<version>/opam`).
use Rattle.std.specs.Prelude.{ℕ, List, ◌++◌, codes}
use Rattle.opam_names.specs.Packages.{pkg_text}
use Rattle.opam_names.specs.declared.packages.Pkg.{Pkg}

-- the file of a package below the folder of the repository
abbrev pub path_in_repo : List ℕ → Pkg → List ℕ
path_in_repo repo pkg = repo ++ codes "/packages/" ++ pkg.name ++ codes "/" ++ pkg_text pkg ++ codes "/opam"
