use Rattle.std.proofs.Common.{arith}
use Rattle.crash_disk.proofs.Order.{noted}
use Rattle.crash_disk.proofs.memory_disk.MemoryDisk.note_made.Goals as goal

pub invariant_of-self : goal.invariant_of-self
invariant_of-self c = record {
  in_order = noted c.args.self.now.calls c.args.self.now.log c.push.new.self (record { moment = c.args.self.now.calls; change = c.args.change }) c.push.result (omega arith) c.args.self.now.in_order c.push.ensures.ok c.push.ensures.err;
}
