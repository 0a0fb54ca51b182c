-- The state of a switch, and what an install makes of it. This project's own.
use Rattle.std.specs.Prelude.{ℕ, List, [], ◌∷◌, ◌++◌}
use Rattle.std.specs.FinMap.{empty, insert}
use Rattle.opam_names.specs.declared.packages.Pkg.{Pkg}
use Rattle.outside_io.specs.Counts.{ByPath}
use Rattle.crash_disk.specs.Disks.{Tree}
use Rattle.opam_top.specs.Commits.{with_files}
use Rattle.opam_top.specs.declared.records.Placed.{Placed}

-- the packages in order of installation, each with its opam text; whose each owned path is; and the files of the disk
pub record Switch : Type 0 where
  pub entries : List (Pkg × List ℕ)
  pub owners : ByPath Pkg
  pub files : Tree

-- a switch without packages: no file on the disk is owned
abbrev pub empty_switch : Tree → Switch
empty_switch files = record { entries = []; owners = empty; files = files }

-- the paths of the files are the package's
abbrev pub with_owner : ByPath Pkg → Pkg → List Placed → ByPath Pkg
with_owner owners pkg [] = owners
with_owner owners pkg (file ∷ files) = with_owner (insert owners file.path pkg) pkg files

-- the package comes last, and the files are its own
abbrev pub with_package : Switch → Pkg → List ℕ → List Placed → Switch
with_package switch pkg opam files = record {
  entries = switch.entries ++ (pkg, opam) ∷ [];
  owners = with_owner switch.owners pkg files;
  files = with_files switch.files files;
}
