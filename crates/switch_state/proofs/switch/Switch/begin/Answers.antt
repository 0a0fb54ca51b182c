use Rattle.std.proofs.Common.{◌∙◌, inr, subst, sym}
use Rattle.crash_disk.proofs.Stops.{stops_more, stops_then}
use Rattle.switch_state.specs.Begins.{IsAroundBegin, asking_for}
use Rattle.switch_state.specs.WellFormed.{IsWellFormed}
use Rattle.switch_state.proofs.Following.{around_closed, around_first, can_closed, can_first, closed_formed, on_more, stands_closed}
use Rattle.switch_state.proofs.switch.Switch.begin.Goals as goal

pub returns-in_err-end_earlier-clause-crash : goal.returns-in_err-end_earlier-clause-crash
returns-in_err-end_earlier-clause-crash g c = λ files can.
    let asking = asking_for c.args.target.now c.args.removals.now c.args.self.now.state in
    stops_more (IsAroundBegin asking c.args.self.now files) (around_first c.args.self.now asking) (c.end_earlier.ensures.crash files (can_first can))

pub begin_next-requires-clause-formed : goal.begin_next-requires-clause-formed
begin_next-requires-clause-formed g c = subst IsWellFormed (sym c.in_ok-end_earlier.ensures.state) (closed_formed c.args.self.now.state c.requires.formed)

pub returns-clause-memory : goal.returns-clause-memory
returns-clause-memory g c = λ is.
    let there = c.begin_next.ensures.memory is in
    record {
      state = inr (there.state ∙ c.in_ok-end_earlier.ensures.state);
      commits = there.commits ∙ c.in_ok-end_earlier.ensures.commits;
      stands = λ files can. there.stands files (can_closed {now = c.args.self.now} {later = c.end_earlier.new.self} c.in_ok-end_earlier.ensures.head c.in_ok-end_earlier.ensures.state can (g.D.Disk.told c.end_earlier.new.disk) (c.in_ok-end_earlier.ensures.done files (can_first can)));
    }

pub returns-clause-crash : goal.returns-clause-crash
returns-clause-crash g c = λ files can.
    let now = c.args.self.now in
    let later = c.end_earlier.new.self in
    let head = c.in_ok-end_earlier.ensures.head in
    let state = c.in_ok-end_earlier.ensures.state in
    let asking = asking_for c.args.target.now c.args.removals.now now.state in
    let P = IsAroundBegin asking now files in
    let can_later = can_closed {now = now} {later = later} head state can (g.D.Disk.told c.end_earlier.new.disk) (c.in_ok-end_earlier.ensures.done files (can_first can)) in
    stops_then c.end_earlier.ensures.inside.touches.goes c.begin_next.ensures.inside.touches.goes (stops_more P (around_first c.args.self.now asking) (c.end_earlier.ensures.crash files (can_first can)))
    (stops_more P (around_closed now later c.args.target.now c.args.removals.now head state) (c.begin_next.ensures.crash files can_later))

pub returns-clause-done : goal.returns-clause-done
returns-clause-done g c =
    let now = c.args.self.now in
    let later = c.end_earlier.new.self in
    let head = c.in_ok-end_earlier.ensures.head in
    let state = c.in_ok-end_earlier.ensures.state in
    on_more c.begin_next.result c.begin_next.ensures.done
    (λ done files can. stands_closed now later c.args.target.now c.args.removals.now head state (done files (can_closed {now = now} {later = later} head state can (g.D.Disk.told c.end_earlier.new.disk) (c.in_ok-end_earlier.ensures.done files (can_first can)))))
