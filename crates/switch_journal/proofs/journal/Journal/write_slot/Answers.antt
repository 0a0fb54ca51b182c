use Rattle.std.proofs.Common.{sym, subst}
use Rattle.crash_disk.proofs.Stops.{stops_by, stops_more}
use Rattle.crash_disk.specs.Stops.{IsSameBut}
use Rattle.switch_journal.specs.Journal.{Head, StandsFor}
use Rattle.switch_journal.specs.Slots.{paths_of_slot}
use Rattle.switch_journal.specs.Snapshots.{ComesToSame, contents_by, place_for}
use Rattle.switch_journal.proofs.Snapped.{begins_so, journal, same_there, stands_with}
use Rattle.switch_journal.proofs.journal.Journal.write_slot.Goals as goal

pub returns-in_err-write_slot-clause-crash : goal.returns-in_err-write_slot-clause-crash
returns-in_err-write_slot-clause-crash g c = λ before snapshot files can.
    stops_more (ComesToSame before files) (same_there can) (c.write_slot.ensures.crash (journal can) (place_for c.args.self.now) can.made.text (begins_so can))

pub returns-clause-crash : goal.returns-clause-crash
returns-clause-crash g c = λ before snapshot files can.
    stops_more (ComesToSame before files) (same_there can) (c.write_slot.ensures.crash (journal can) (place_for c.args.self.now) can.made.text (begins_so can))

pub returns-in_err-write_slot-clause-foreign : goal.returns-in_err-write_slot-clause-foreign
returns-in_err-write_slot-clause-foreign g c = λ tree is.
    stops_by g.met.D.Disk.now_is (IsSameBut (paths_of_slot c.args.slot.now) tree) (paths_of_slot c.args.slot.now) tree is c.write_slot.ensures.touches (λ image same. same)

pub returns-clause-foreign : goal.returns-clause-foreign
returns-clause-foreign g c = λ tree is.
    stops_by g.met.D.Disk.now_is (IsSameBut (paths_of_slot c.args.slot.now) tree) (paths_of_slot c.args.slot.now) tree is c.write_slot.ensures.touches (λ image same. same)

pub returns-clause-done : goal.returns-clause-done
returns-clause-done g c = λ before snapshot files can.
    subst (λ (h : Head). StandsFor h (contents_by c.args.self.now snapshot) files (g.D.Disk.told c.write_slot.new.disk)) (sym c.from_new_slot.ensures)
    (stands_with can _ (c.in_ok-write_slot.ensures.done (journal can) (place_for c.args.self.now) can.made.text (begins_so can)))
