use Rattle.std.proofs.Common.{◌∙◌, [], arith}
use Rattle.crash_disk.specs.Memory.{shown}
use Rattle.crash_disk.proofs.Files.{synced_noted, syncs}
use Rattle.crash_disk.proofs.Moments.{elapses}
use Rattle.crash_disk.proofs.Order.{grows_noted}
use Rattle.crash_disk.proofs.memory_disk.calls.MemoryDiskDisk.sync.Goals as goal

pub returns-in-Ok-clause-synced : goal.returns-in-Ok-clause-synced
returns-in-Ok-clause-synced c =
    let noted = c.in-Ok.ensures.ok in
    syncs (shown c.args.self.now).state (shown c.note.new.self).state tt (synced_noted c.begin.new.self.calls c.args.self.now.first c.note.new.self.first c.args.self.now.log c.begin.new.self.log c.note.new.self.log [] (c.note.ensures.first ∙ c.begin.ensures.first) c.begin.ensures.log noted.0 noted.1 noted.2)

pub returns-in-Ok-clause-time : goal.returns-in-Ok-clause-time
returns-in-Ok-clause-time c =
    let noted = c.in-Ok.ensures.ok in
    let grows = grows_noted c.begin.new.self.calls c.note.new.self.calls c.args.self.now.log c.begin.new.self.log c.note.new.self.log noted.0 c.note.ensures.clock c.begin.ensures.log noted.2 in
    elapses c.args.self.now.calls c.note.new.self.calls c.args.self.now.first c.note.new.self.first c.args.self.now.log c.note.new.self.log (c.note.ensures.clock ∙ c.begin.ensures.clock) (omega arith) c.args.self.now.in_order (c.note.ensures.first ∙ c.begin.ensures.first) grows
