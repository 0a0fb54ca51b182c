use Rattle.std.proofs.Common.{inl}
use Rattle.crash_disk.proofs.Stops.{stops_more, stops_then}
use Rattle.switch_state.specs.Begins.{IsAroundNext, asking_for}
use Rattle.switch_state.proofs.Following.{around_next, can_next, on_more, stands_next}
use Rattle.switch_state.proofs.Inside.{inside_then}
use Rattle.switch_state.proofs.switch.Switch.begin_next.Goals as goal

pub returns-in_err-write_due_slot-clause-crash : goal.returns-in_err-write_due_slot-clause-crash
returns-in_err-write_due_slot-clause-crash g c = λ files can.
    stops_more (IsAroundNext (asking_for c.args.target.now c.args.removals.now c.args.self.now.state) c.args.self.now files) (λ image is. inl is) (c.write_due_slot.ensures.crash files can)

pub returns-clause-inside : goal.returns-clause-inside
returns-clause-inside g c = inside_then c.write_due_slot.ensures.inside c.open_request.ensures.inside

pub returns-clause-crash : goal.returns-clause-crash
returns-clause-crash g c = λ files can.
    let now = c.args.self.now in
    let later = c.write_due_slot.new.self in
    let head = c.in_ok-write_due_slot.ensures.head in
    let state = c.write_due_slot.ensures.state in
    let P = IsAroundNext (asking_for c.args.target.now c.args.removals.now now.state) now files in
    let can_later = can_next {now = now} {later = later} head state can (g.D.Disk.told c.write_due_slot.new.disk) (c.in_ok-write_due_slot.ensures.done files can) in
    stops_then c.write_due_slot.ensures.inside.touches.goes c.open_request.ensures.inside.touches.goes (stops_more P (λ image is. inl is) (c.write_due_slot.ensures.crash files can))
    (stops_more P (around_next now later c.args.target.now c.args.removals.now head state) (c.open_request.ensures.crash files can_later))

pub returns-clause-done : goal.returns-clause-done
returns-clause-done g c =
    let now = c.args.self.now in
    let later = c.write_due_slot.new.self in
    let head = c.in_ok-write_due_slot.ensures.head in
    let state = c.write_due_slot.ensures.state in
    on_more c.open_request.result c.open_request.ensures.done
    (λ done files can. stands_next now later c.args.target.now c.args.removals.now head state (done files (can_next {now = now} {later = later} head state can (g.D.Disk.told c.write_due_slot.new.disk) (c.in_ok-write_due_slot.ensures.done files can))))
