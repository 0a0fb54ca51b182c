use Rattle.std.proofs.Common.{◌∙◌, sym}
use Rattle.crash_disk.proofs.Effects.{reads_then}
use Rattle.change_verdict.proofs.Clashing.{foreign_next}
use Rattle.change_verdict.proofs.clash.first_foreign.Goals as goal

pub loop-path-preserved : goal.loop-path-preserved
loop-path-preserved g c =
    let so_far = c.loop-path.invariant in
    record {
      quiet = c.in_ok-meets_file.ensures.cause.ok ∙ so_far.quiet;
      reads = reads_then so_far.reads c.in_ok-meets_file.ensures.reads;
      told = λ s told.
          foreign_next s.files c.args.paths.now c.loop-path.path-index c.path-item.result c.path-item.is c.loop-path-test.true (sym (c.in_ok-meets_file.ensures.told s (so_far.reads.same ∙ told)) ∙ c.if-branch.false)
          ∙ so_far.told s told;
    }
