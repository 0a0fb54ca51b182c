use Rattle.std.proofs.Common.{None}
use Rattle.outside_io.specs.Counts.{Rose}
use Rattle.crash_disk.specs.Memory.{shown}
use Rattle.crash_disk.proofs.Files.{tells}
use Rattle.crash_disk.proofs.memory_disk.calls.MemoryDiskDisk.remove.Goals as goal

pub returns-clause-removed : goal.returns-clause-removed
returns-clause-removed c =
    let starves : Type 0 = Rose (shown c.args.self.now).starved (shown c.change.new.self).starved in
    tells c.args.path.now None (shown c.args.self.now).state (shown c.change.new.self).state starves c.change.result (c.change.ensures.done None c.make_removed-change.ensures.leaves) c.change.ensures.loose
