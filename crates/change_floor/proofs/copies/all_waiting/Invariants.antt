use Rattle.std.proofs.Common.{◌≡◌, replicate}
use Rattle.change_floor.specs.declared.progress.Progress.TheVariants.{Waiting}
use Rattle.change_floor.proofs.copies.all_waiting.Given as goal

abbrev pub invariant-loop-place : goal.invariant-loop-place
invariant-loop-place l = l.jobs ≡ replicate l._place Waiting
