-- A generated set as devices tell it: a host with the lock and the opam files, and a shop in which each build ends well. This project's own.
use Rattle.std.specs.Prelude.{ℕ, zero, suc, ◌+◌, List, [], ◌∷◌, ◌++◌, codes, length}
use Rattle.std.specs.declared.option.Option.{Option}
use Rattle.std.specs.declared.option.Option.TheVariants.{Some}
use Rattle.outside_io.specs.declared.script_shop.Script.{Script}
use Rattle.generated_set.specs.Texts.{file_text, install_text, lock_path, lock_text, name_text, opam_path, opam_text}

-- the opam files of packages, the first of which has this place
abbrev pub opam_files : ℕ → List (List ℕ) → List (List ℕ × List ℕ)
opam_files place [] = []
opam_files place (needs ∷ more) = (opam_path place, opam_text needs) ∷ opam_files (place + 1) more

-- the host's files, by what each package needs
abbrev pub host_files : List (List ℕ) → List (List ℕ × List ℕ)
host_files needs = (lock_path, lock_text (length needs)) ∷ opam_files 0 needs

-- the files in the build folder of a package
abbrev pub built_files : ℕ → List (List ℕ × Option (List ℕ))
built_files place = (name_text place ++ codes ".install", Some install_text) ∷ (codes "f", Some (file_text place)) ∷ []

-- its build ends well
abbrev pub script_at : ℕ → Script
script_at place = record { pkg = record { name = name_text place; version = codes "1" }; endings = []; files = built_files place }

-- so of as many packages
abbrev pub scripts_of : ℕ → List Script
scripts_of zero = []
scripts_of (suc count) = scripts_of count ++ script_at count ∷ []
