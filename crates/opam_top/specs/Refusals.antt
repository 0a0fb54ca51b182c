-- Refusals, and what an early end of a run rests on. This project's own.
use Rattle.std.specs.Prelude.{◌≡◌, ◌≤◌, ℕ, List, [], ◌∷◌, ◌++◌, codes, Result, Ok, Err}
use Rattle.std.specs.List.{flat_map}
use Rattle.opam_names.specs.Packages.{pkg_text}
use Rattle.opam_names.specs.declared.packages.Pkg.{Pkg}
use Rattle.outside_io.specs.Counts.{Rose}
use Rattle.command_words.specs.Texts.{fault_text}
use Rattle.command_words.specs.declared.fault.WordFault.{WordFault}
use Rattle.opam_top.specs.declared.status.Status.{Status}
use Rattle.opam_top.specs.declared.status.Status.TheVariants as status
use Rattle.opam_top.specs.declared.stops.Cause.{Cause}
use Rattle.opam_top.specs.declared.stops.Cause.TheVariants.{Words, NotFound, NotBuilt}
use Rattle.opam_top.specs.declared.stops.Refusal.{Refusal}
use Rattle.opam_top.specs.declared.stops.Stop.{Stop}
use Rattle.opam_top.specs.declared.stops.Stop.TheVariants.{Host, Disk, Memory, Refused}

-- the status of each cause of a refusal
abbrev pub status_of : Cause → Status
status_of Words = status.Words
status_of NotFound = status.NotFound
status_of NotBuilt = status.NotBuilt

-- the words are no command
abbrev pub bad_words : WordFault → Refusal
bad_words fault = record { cause = Words; err = fault_text fault ++ 10 ∷ [] }

-- what was asked for is not built yet
abbrev pub not_built : Refusal
not_built = record { cause = NotBuilt; err = codes "not built yet\n" }

-- a file that is named by the words is absent
abbrev pub not_found : List ℕ → Refusal
not_found path = record { cause = NotFound; err = path ++ codes ": not found\n" }

-- what is said of a package that the repository lacks
abbrev pub unknown_line : Pkg → List ℕ
unknown_line pkg = pkg_text pkg ++ codes ": not in the repository\n"

-- packages that are bound have no opam file
abbrev pub not_in_repository : List Pkg → Refusal
not_in_repository pkgs = record { cause = NotFound; err = flat_map unknown_line pkgs }

-- what a call that may end early gives, where the definition gives this
abbrev pub Gives : {X Y : Type 0} → (X → Y) → Result X Stop → Result Y Refusal → Type 0
Gives view (Ok x) answer = answer ≡ Ok (view x)
Gives view (Err Host) answer = Unit {0}
Gives view (Err Disk) answer = Unit {0}
Gives view (Err Memory) answer = Unit {0}
Gives view (Err (Refused refusal)) answer = answer ≡ Err refusal

-- a call ends for a device only where its count rose, and the count rises only there
pub record Causes {X : Type 0} (stop : Stop) (before now : ℕ) (result : Result X Stop) : Type 0 where
  pub later : before ≤ now
  pub rose : result ≡ Err stop → Rose before now
  pub same : ¬ (result ≡ Err stop) → now ≡ before

-- a stop is this refusal, unless it is for want of memory
abbrev pub IsStopFor : Refusal → Stop → Type 0
IsStopFor refusal Host = ⊥
IsStopFor refusal Disk = ⊥
IsStopFor refusal Memory = Unit {0}
IsStopFor refusal (Refused given) = given ≡ refusal
