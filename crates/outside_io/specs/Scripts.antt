-- What a list of scripts tells. This project's own.
use Rattle.std.specs.Prelude.{◌≤◌, ℕ, length, List, [], ◌∷◌, Bool, true, false, if◌then◌else◌, ◌==◌, ◌&&◌, slice_get, unwrap_or, bytes_eq}
use Rattle.std.specs.FinMap.{from_entries}
use Rattle.std.specs.declared.option.Option.{Option}
use Rattle.std.specs.declared.option.Option.TheVariants.{None, Some}
use Rattle.opam_names.specs.declared.packages.Pkg.{Pkg}
use Rattle.outside_io.specs.Counts.{ByPath}
use Rattle.outside_io.specs.Shops.{Told}
use Rattle.outside_io.specs.declared.workshop.Ending.{Ending}
use Rattle.outside_io.specs.declared.workshop.Ending.TheVariants.{Exit, Killed, NotStarted, NotPrepared}
use Rattle.outside_io.specs.declared.script_shop.Script.{Script}

-- name and version are equal
abbrev pub is_same_pkg : Pkg → Pkg → Bool
is_same_pkg a b = bytes_eq a.name b.name && bytes_eq a.version b.version

-- the first script of a package
abbrev pub script_of : List Script → Pkg → Option Script
script_of [] pkg = None
script_of (script ∷ scripts) pkg = if is_same_pkg pkg script.pkg then Some script else script_of scripts pkg

-- missing endings are good ones
abbrev pub ending_at : List Ending → ℕ → Ending
ending_at endings step = unwrap_or (slice_get endings step) (Exit 0)

-- a package without a script has good endings
abbrev pub ending_of : Option Script → ℕ → Ending
ending_of None step = Exit 0
ending_of (Some script) step = ending_at script.endings step

-- of several files with one path the first counts; None for one that cannot be read
abbrev pub scripted_at : List (List ℕ × Option (List ℕ)) → ByPath (Option (List ℕ))
scripted_at files = from_entries files

-- a package without a script has no files
abbrev pub scripted_of : Option Script → ByPath (Option (List ℕ))
scripted_of None = scripted_at []
scripted_of (Some script) = scripted_at script.files

-- what a shop with these scripts tells of each job
abbrev pub told_by : List Script → Told
told_by scripts = record {
  ending = λ job step. ending_of (script_of scripts job.pkg) step;
  files = λ job. scripted_of (script_of scripts job.pkg);
}

-- bytes stand there, and no more than the limit: to copy them takes memory
abbrev pub IsCopied : Option (Option (List ℕ)) → ℕ → Type 0
IsCopied None limit = ⊥
IsCopied (Some None) limit = ⊥
IsCopied (Some (Some file)) limit = length file ≤ limit

-- step 0 ends in `Exit(0)` or `NotPrepared`
abbrev pub starts_well : Ending → Bool
starts_well (Exit code) = code == 0
starts_well Killed = false
starts_well NotStarted = false
starts_well NotPrepared = true

-- it is not `NotPrepared`
abbrev pub is_prepared : Ending → Bool
is_prepared (Exit code) = true
is_prepared Killed = true
is_prepared NotStarted = true
is_prepared NotPrepared = false

-- and no later step in `NotPrepared`
abbrev pub goes_on_well : List Ending → Bool
goes_on_well [] = true
goes_on_well (ending ∷ endings) = is_prepared ending && goes_on_well endings

-- a script gives its steps endings that they may have
abbrev pub is_well : List Ending → Bool
is_well [] = true
is_well (ending ∷ endings) = starts_well ending && goes_on_well endings

-- each script gives each step an ending that it may have
abbrev pub all_well : List Script → Bool
all_well [] = true
all_well (script ∷ scripts) = is_well script.endings && all_well scripts
