use Rattle.std.proofs.Common.{Some}
use Rattle.outside_io.specs.Counts.{Rose}
use Rattle.crash_disk.specs.Memory.{shown}
use Rattle.crash_disk.proofs.Files.{tells}
use Rattle.crash_disk.proofs.memory_disk.calls.MemoryDiskDisk.put.Goals as goal

pub returns-clause-put : goal.returns-clause-put
returns-clause-put c =
    let starves : Type 0 = Rose (shown c.args.self.now).starved (shown c.change.new.self).starved in
    tells c.args.path.now (Some (record { bytes = c.args.bytes.now; exec = c.args.exec })) (shown c.args.self.now).state (shown c.change.new.self).state starves c.change.result (c.change.ensures.done (Some (record { bytes = c.args.bytes.now; exec = c.args.exec })) c.make_put-change.ensures.leaves) c.change.ensures.loose
