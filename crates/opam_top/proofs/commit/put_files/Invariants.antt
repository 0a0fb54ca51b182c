use Rattle.std.proofs.Common.{◌≡◌, take}
use Rattle.opam_top.specs.Pasts.{Passes}
use Rattle.opam_top.specs.Commits.{Becomes, TouchesOnly, is_among, with_files}
use Rattle.opam_top.proofs.commit.put_files.Given as goal

-- no call has failed, and the first files are put
abbrev pub invariant-loop-file : goal.invariant-loop-file
invariant-loop-file g l =
    let D = g.D.Disk in
    record {
      quiet : D.faults l.disk ≡ D.faults l.fn.disk;
      time : Passes (D.moment l.fn.disk) (D.moment l.disk) (D.past l.fn.disk) (D.past l.disk);
      held : D.held l.disk ≡ D.held l.fn.disk;
      touches : TouchesOnly (is_among l.files) (D.told l.fn.disk) (D.told l.disk);
      done : Becomes (λ tree. with_files tree (take l.file-index l.files)) (D.told l.fn.disk) (D.told l.disk);
    }
