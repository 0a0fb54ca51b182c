use Rattle.std.proofs.Common.{◌≡◌, IsTrue, drop, take, None, Some}
use Rattle.std.specs.Prelude.{codes}
use Rattle.std.specs.FinMap.{get}
use Rattle.std.specs.List.{list_all}
use Rattle.crash_disk.specs.Disks.{State}
use Rattle.opam_top.specs.Pasts.{Passes}
use Rattle.opam_top.specs.Commits.{paths_differ}
use Rattle.opam_top.specs.Owners.{is_unowned, owners_of}
use Rattle.opam_top.specs.Placements.{first_clash}
use Rattle.opam_top.specs.Switches.{with_owner}
use Rattle.opam_top.proofs.placing.first_in_the_folder.Given as goal

-- the files so far count as the package's own, and nothing stands in their way
abbrev pub invariant-loop-place : goal.invariant-loop-place
invariant-loop-place g l = record {
  faults : g.D.Disk.faults l.disk ≡ g.D.Disk.faults l.initial.disk;
  time : Passes (g.D.Disk.moment l.initial.disk) (g.D.Disk.moment l.disk) (g.D.Disk.past l.initial.disk) (g.D.Disk.past l.disk);
  same : g.D.Disk.told l.disk ≡ g.D.Disk.told l.initial.disk;
  unowned : IsTrue (list_all (is_unowned (owners_of l.owners)) (take l.place l.files));
  apart : IsTrue (paths_differ (take l.place l.files));
  told : (s : State) → g.D.Disk.told l.disk ≡ Some s → get s.files (codes "bin") ≡ None → first_clash s.files (with_owner (owners_of l.owners) l.pkg (take l.place l.files)) l.pkg (drop l.place l.files) ≡ first_clash s.files (owners_of l.owners) l.pkg l.files;
}
