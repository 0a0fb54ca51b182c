use Rattle.std.proofs.Common.{arith}
use Rattle.crash_disk.proofs.Order.{later}
use Rattle.crash_disk.proofs.memory_disk.MemoryDisk.begin.Goals as goal

pub invariant_of-self : goal.invariant_of-self
invariant_of-self c = record { in_order = later c.args.self.now.calls c.saturating_add-self.result c.args.self.now.log (omega arith) c.args.self.now.in_order }

pub invariant_of-self-else-fails : goal.invariant_of-self-else-fails
invariant_of-self-else-fails c = record { in_order = later c.args.self.now.calls c.saturating_add-self.result c.args.self.now.log (omega arith) c.args.self.now.in_order }
