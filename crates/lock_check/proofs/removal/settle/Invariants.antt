use Rattle.std.proofs.Common.{◌+◌, length}
use Rattle.opam_filter.specs.Sets.{Rises}
use Rattle.lock_check.specs.Passes.{Judges, count_of}
use Rattle.lock_check.proofs.removal.settle.Given as goal

abbrev pub invariant-loop-pass : goal.invariant-loop-pass
invariant-loop-pass l = record { rises : Rises l.set.items; judges : Judges l.members l.fn.set.items l.pass l.set.items }

abbrev pub decreases-loop-pass : goal.decreases-loop-pass
decreases-loop-pass l = length l.pass.kept + count_of l.pass.dropped
