-- What comes of a change: each package is decided over the switch that the ones before it leave. This project's own.
use Rattle.std.specs.Prelude.{◌≡◌, ℕ, List, [], ◌∷◌, ◌++◌, IsFalse, Result, Ok, Err, fold}
use Rattle.std.specs.FinMap.{get}
use Rattle.opam_names.specs.declared.packages.Pkg.{Pkg}
use Rattle.opam_top.specs.declared.decision.Decision.{Decision}
use Rattle.opam_top.specs.declared.decision.Decision.TheVariants.{Installed, Failed}
use Rattle.opam_top.specs.declared.decision.Reason.{Reason}
use Rattle.outside_io.specs.Shops.{Told, fate_of}
use Rattle.outside_io.specs.declared.workshop.Fate.{Fate}
use Rattle.crash_disk.specs.Disks.{Tree}
use Rattle.opam_top.specs.Holdings.{Holds, is_in_journal}
use Rattle.opam_top.specs.Installs.{job_of, placed_by}
use Rattle.opam_top.specs.Switches.{Switch, with_package}
use Rattle.opam_top.specs.declared.member.Member.{Member}
use Rattle.opam_top.specs.declared.records.Placed.{Placed}
use Rattle.opam_top.specs.declared.records.Rec.{Rec}
use Rattle.opam_top.specs.declared.records.Rec.TheVariants.{Install}

-- the decisions, the jobs with their fates, the records that are committed, and the switch after them
pub record Outcome : Type 0 where
  pub decisions : List Decision
  pub heard : List (Pkg × Fate)
  pub records : List Rec
  pub switch : Switch

-- nothing was decided yet
abbrev pub undecided : Switch → Outcome
undecided switch = record { decisions = []; heard = []; records = []; switch = switch }

-- a package that places these files is installed, and one that fails changes neither records nor switch
abbrev pub decided : Outcome → Member → Fate → Result (List Placed) Reason → Outcome
decided o member fate (Ok files) = record {
  decisions = o.decisions ++ Installed member.pkg ∷ [];
  heard = o.heard ++ (member.pkg, fate) ∷ [];
  records = o.records ++ Install member.pkg member.opam files ∷ [];
  switch = with_package o.switch member.pkg member.opam files;
}
decided o member fate (Err reason) = record {
  decisions = o.decisions ++ Failed member.pkg reason ∷ [];
  heard = o.heard ++ (member.pkg, fate) ∷ [];
  records = o.records;
  switch = o.switch;
}

-- what is told of a package's job over a switch: the files that it places, or why it fails
abbrev pub verdict : Told → Switch → Member → Result (List Placed) Reason
verdict told switch member = placed_by told switch.files switch.owners (job_of member) (fate_of told (job_of member))

-- one package more
abbrev pub with_member : Told → Outcome → Member → Outcome
with_member told o member = decided o member (fate_of told (job_of member)) (verdict told o.switch member)

-- all of the packages, in this order
abbrev pub outcome : Told → Switch → List Member → Outcome
outcome told switch members = fold (with_member told) (undecided switch) members

-- what an outcome leaves on the disk
pub record Leaves (o : Outcome) (old new : Tree) : Type 0 where
  -- its records stand in the journal, and no gate after their last
  pub journal : Holds o.records new
  -- all else is as the switch has it
  pub others : (q : List ℕ) → IsFalse (is_in_journal q) → get new q ≡ get o.switch.files q
  -- a run without a commit changes nothing
  pub idle : o.records ≡ [] → new ≡ old
