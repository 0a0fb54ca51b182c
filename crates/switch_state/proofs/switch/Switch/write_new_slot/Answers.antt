use Rattle.std.proofs.Common.{◌∙◌, ap, subst, sym}
use Rattle.crash_disk.proofs.Stops.{stops_more}
use Rattle.switch_journal.specs.Journal.{Head, StandsFor}
use Rattle.switch_journal.specs.Slots.{paths_of_slot}
use Rattle.switch_journal.specs.Snapshots.{CanWriteSlot, contents_by, with_slot}
use Rattle.switch_state.specs.State.{Now, Recovers}
use Rattle.switch_state.proofs.Inside.{inside_none, slot_inside, stays_now}
use Rattle.switch_state.proofs.Slotting.{can_write, recovers, stands_slotted}
use Rattle.switch_state.proofs.switch.Switch.write_new_slot.Goals as goal

pub returns-in_err-slot-clause-inside : goal.returns-in_err-slot-clause-inside
returns-in_err-slot-clause-inside g c = inside_none c.args.disk.now

pub returns-in_err-slot-clause-crash : goal.returns-in_err-slot-clause-crash
returns-in_err-slot-clause-crash g c = λ files can. stays_now g.D.Disk g.met.D.Disk.now_is c.args.self.now files c.args.disk.now can

pub returns-in-Ok-clause-inside : goal.returns-in-Ok-clause-inside
returns-in-Ok-clause-inside g c = record { paths = paths_of_slot c.in_ok-slot.slot; inside = slot_inside c.args.self.now.head c.in_ok-slot.ensures.made.text c.in_ok-slot.slot c.in_ok-slot.ensures.made.parts; touches = c.write_slot.ensures.touches }

pub returns-clause-inside : goal.returns-clause-inside
returns-clause-inside g c = record { paths = paths_of_slot c.in_ok-slot.slot; inside = slot_inside c.args.self.now.head c.in_ok-slot.ensures.made.text c.in_ok-slot.slot c.in_ok-slot.ensures.made.parts; touches = c.write_slot.ensures.touches }

pub returns-in-Ok-clause-crash : goal.returns-in-Ok-clause-crash
returns-in-Ok-clause-crash g c = λ files can.
    let head = ap (λ (n : Now). n.head) c.self.view_is in
    let is = c.in_ok-slot.ensures in
    let here = subst (λ (h : Head). CanWriteSlot h can.stands.contents is.snapshot files c.in_ok-slot.slot (g.D.Disk.told c.args.disk.now)) (sym head) (can_write can is c.requires.due) in
    stops_more (Recovers c.args.self.now.state files) (recovers can is c.requires.due) (c.write_slot.ensures.crash can.stands.contents is.snapshot files here)

pub returns-clause-crash : goal.returns-clause-crash
returns-clause-crash g c = λ files can.
    let head = ap (λ (n : Now). n.head) c.self.view_is in
    let is = c.in_ok-slot.ensures in
    let here = subst (λ (h : Head). CanWriteSlot h can.stands.contents is.snapshot files c.in_ok-slot.slot (g.D.Disk.told c.args.disk.now)) (sym head) (can_write can is c.requires.due) in
    stops_more (Recovers c.args.self.now.state files) (recovers can is c.requires.due) (c.write_slot.ensures.crash can.stands.contents is.snapshot files here)

pub returns-in-Ok-clause-done : goal.returns-in-Ok-clause-done
returns-in-Ok-clause-done g c = λ files can.
    let head = ap (λ (n : Now). n.head) c.self.view_is in
    let is = c.in_ok-slot.ensures in
    let here = subst (λ (h : Head). CanWriteSlot h can.stands.contents is.snapshot files c.in_ok-slot.slot (g.D.Disk.told c.args.disk.now)) (sym head) (can_write can is c.requires.due) in
    stands_slotted can is c.requires.due (g.D.Disk.told c.write_slot.new.disk)
    (subst (λ (h : Head). StandsFor (with_slot h) (contents_by h is.snapshot) files (g.D.Disk.told c.write_slot.new.disk)) head
    (subst (λ (h : Head). StandsFor h (contents_by c.self.inside.journal is.snapshot) files (g.D.Disk.told c.write_slot.new.disk)) c.in-Ok.ensures.numbers (c.in-Ok.ensures.done can.stands.contents is.snapshot files here)))
