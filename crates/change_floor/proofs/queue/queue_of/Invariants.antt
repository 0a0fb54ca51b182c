use Rattle.change_floor.specs.Queues.{Fills}
use Rattle.change_floor.proofs.queue.queue_of.Given as goal

abbrev pub invariant-loop-place : goal.invariant-loop-place
invariant-loop-place l = Fills l.left l.place l.ready
