use Rattle.std.proofs.Common.{take}
use Rattle.change_floor.specs.Queues.{Lowers}
use Rattle.change_floor.proofs.queue.Queue.release.Given as goal

abbrev pub invariant-loop-place : goal.invariant-loop-place
invariant-loop-place l = Lowers l.initial.self.left l.initial.self.ready (take l.place-index l.row) l.self.left l.self.ready
