use Rattle.std.proofs.Common.{◌∙◌, arith}
use Rattle.outside_io.specs.Counts.{Rose}
use Rattle.crash_disk.proofs.Files.{placed_noted, loosened_noted}
use Rattle.crash_disk.proofs.Moments.{elapses}
use Rattle.crash_disk.proofs.Order.{grows_noted, grows_loosened}
use Rattle.crash_disk.proofs.memory_disk.MemoryDisk.change.Goals as goal

pub returns-then-begin-clause-loose : goal.returns-then-begin-clause-loose
returns-then-begin-clause-loose c = loosened_noted c.begin.new.self.calls c.args.self.now.first c.loosen.new.self.first c.args.self.now.log c.begin.new.self.log c.loosen.new.self.log c.args.path.now (c.loosen.ensures.first ∙ c.begin.ensures.first) c.begin.ensures.log
    (Rose c.begin.new.self.starved c.loosen.new.self.starved) (Rose c.args.self.now.starved c.loosen.new.self.starved) (λ rose. omega arith) c.loosen.ensures.log

pub returns-then-begin-clause-time : goal.returns-then-begin-clause-time
returns-then-begin-clause-time c =
    let grows = grows_loosened (Rose c.begin.new.self.starved c.loosen.new.self.starved) c.begin.new.self.calls c.loosen.new.self.calls c.args.path.now c.args.self.now.log c.begin.new.self.log c.loosen.new.self.log c.loosen.ensures.clock c.begin.ensures.log c.loosen.ensures.log in
    elapses c.args.self.now.calls c.loosen.new.self.calls c.args.self.now.first c.loosen.new.self.first c.args.self.now.log c.loosen.new.self.log (c.loosen.ensures.clock ∙ c.begin.ensures.clock) (omega arith) c.args.self.now.in_order (c.loosen.ensures.first ∙ c.begin.ensures.first) grows

pub returns-in-Ok-clause-done : goal.returns-in-Ok-clause-done
returns-in-Ok-clause-done c file leaves =
    let noted = c.in-Ok.ensures.ok in
    placed_noted c.begin.new.self.calls c.args.self.now.first c.note.new.self.first c.args.self.now.log c.begin.new.self.log c.note.new.self.log c.args.path.now (c.note.ensures.first ∙ c.begin.ensures.first) c.begin.ensures.log file c.args.change noted.0 noted.1 noted.2 leaves

pub returns-in-Ok-clause-time : goal.returns-in-Ok-clause-time
returns-in-Ok-clause-time c =
    let noted = c.in-Ok.ensures.ok in
    let grows = grows_noted c.begin.new.self.calls c.note.new.self.calls c.args.self.now.log c.begin.new.self.log c.note.new.self.log noted.0 c.note.ensures.clock c.begin.ensures.log noted.2 in
    elapses c.args.self.now.calls c.note.new.self.calls c.args.self.now.first c.note.new.self.first c.args.self.now.log c.note.new.self.log (c.note.ensures.clock ∙ c.begin.ensures.clock) (omega arith) c.args.self.now.in_order (c.note.ensures.first ∙ c.begin.ensures.first) grows

pub returns-in-Err-clause-loose : goal.returns-in-Err-clause-loose
returns-in-Err-clause-loose c = loosened_noted c.count_fault.new.self.calls c.args.self.now.first c.loosen-in-Err.new.self.first c.args.self.now.log c.count_fault.new.self.log c.loosen-in-Err.new.self.log c.args.path.now (c.loosen-in-Err.ensures.first ∙ c.count_fault.ensures.first ∙ c.note.ensures.first ∙ c.begin.ensures.first) (c.count_fault.ensures.log ∙ c.in-Err.ensures.err ∙ c.begin.ensures.log)
    (Rose c.count_fault.new.self.starved c.loosen-in-Err.new.self.starved) (Rose c.args.self.now.starved c.loosen-in-Err.new.self.starved) (λ rose. omega arith) c.loosen-in-Err.ensures.log

pub returns-in-Err-clause-time : goal.returns-in-Err-clause-time
returns-in-Err-clause-time c =
    let grows = grows_loosened (Rose c.count_fault.new.self.starved c.loosen-in-Err.new.self.starved) c.count_fault.new.self.calls c.loosen-in-Err.new.self.calls c.args.path.now c.args.self.now.log c.count_fault.new.self.log c.loosen-in-Err.new.self.log c.loosen-in-Err.ensures.clock (c.count_fault.ensures.log ∙ c.in-Err.ensures.err ∙ c.begin.ensures.log) c.loosen-in-Err.ensures.log in
    elapses c.args.self.now.calls c.loosen-in-Err.new.self.calls c.args.self.now.first c.loosen-in-Err.new.self.first c.args.self.now.log c.loosen-in-Err.new.self.log (c.loosen-in-Err.ensures.clock ∙ c.count_fault.ensures.clock ∙ c.note.ensures.clock ∙ c.begin.ensures.clock) (omega arith) c.args.self.now.in_order (c.loosen-in-Err.ensures.first ∙ c.count_fault.ensures.first ∙ c.note.ensures.first ∙ c.begin.ensures.first) grows
