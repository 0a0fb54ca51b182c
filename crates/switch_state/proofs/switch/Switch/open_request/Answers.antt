use Rattle.std.proofs.Common.{◌∙◌, [], ap, inl, subst, sym}
use Rattle.crash_disk.proofs.Stops.{stops_more}
use Rattle.switch_journal.specs.Commits.{paths_of_ready}
use Rattle.switch_journal.specs.Journal.{Head, StandsFor}
use Rattle.switch_journal.specs.Steps as steps
use Rattle.switch_journal.specs.declared.commits.Ready.{Ready}
use Rattle.switch_state.specs.Begins.{IsAroundNext, asking_for, begin_record}
use Rattle.switch_state.specs.State.{Now}
use Rattle.switch_state.proofs.Beginning.{around, can_step, stands_after, step}
use Rattle.switch_state.proofs.Inside.{inside_none, ready_inside, stays_now}
use Rattle.switch_state.proofs.switch.Switch.open_request.Goals as goal

pub returns-in_err-opening-clause-inside : goal.returns-in_err-opening-clause-inside
returns-in_err-opening-clause-inside g c = inside_none c.args.disk.now

pub returns-in_err-opening-clause-crash : goal.returns-in_err-opening-clause-crash
returns-in_err-opening-clause-crash g c = λ files can.
    stops_more (IsAroundNext (asking_for c.args.target.now c.args.removals.now c.args.self.now.state) c.args.self.now files) (λ image is. inl is) (stays_now g.D.Disk g.met.D.Disk.now_is c.args.self.now files c.args.disk.now can)

pub returns-in-Err-clause-inside : goal.returns-in-Err-clause-inside
returns-in-Err-clause-inside g c =
    record {
      paths = paths_of_ready c.in_ok-opening.opening.ready;
      inside = ready_inside c.args.self.now.head.next (begin_record (asking_for c.args.target.now c.args.removals.now c.args.self.now.state)) c.in_ok-opening.opening.ready c.in_ok-opening.ensures.ready;
      touches = c.commit.ensures.touches;
    }

pub returns-clause-inside : goal.returns-clause-inside
returns-clause-inside g c =
    record {
      paths = paths_of_ready c.in_ok-opening.opening.ready;
      inside = ready_inside c.args.self.now.head.next (begin_record (asking_for c.args.target.now c.args.removals.now c.args.self.now.state)) c.in_ok-opening.opening.ready c.in_ok-opening.ensures.ready;
      touches = c.commit.ensures.touches;
    }

pub returns-in-Err-clause-crash : goal.returns-in-Err-clause-crash
returns-in-Err-clause-crash g c = λ files can.
    let now = c.args.self.now in
    let asking = asking_for c.args.target.now c.args.removals.now now.state in
    let made = c.in_ok-opening.ensures.ready in
    let head = ap (λ (n : Now). n.head) c.self.view_is in
    let here = subst (λ (h : Head). steps.CanCommit h (step asking can c.requires.begins made c.requires.due) c.in_ok-opening.opening.ready (g.D.Disk.told c.args.disk.now)) (sym head) (can_step asking can c.requires.begins made c.requires.due) in
    stops_more (IsAroundNext asking now files) (around asking can c.requires.begins made c.requires.due) (c.commit.ensures.crash (step asking can c.requires.begins made c.requires.due) here)

pub returns-clause-crash : goal.returns-clause-crash
returns-clause-crash g c = λ files can.
    let now = c.args.self.now in
    let asking = asking_for c.args.target.now c.args.removals.now now.state in
    let made = c.in_ok-opening.ensures.ready in
    let head = ap (λ (n : Now). n.head) c.self.view_is in
    let here = subst (λ (h : Head). steps.CanCommit h (step asking can c.requires.begins made c.requires.due) c.in_ok-opening.opening.ready (g.D.Disk.told c.args.disk.now)) (sym head) (can_step asking can c.requires.begins made c.requires.due) in
    stops_more (IsAroundNext asking now files) (around asking can c.requires.begins made c.requires.due) (c.commit.ensures.crash (step asking can c.requires.begins made c.requires.due) here)

pub returns-clause-done : goal.returns-clause-done
returns-clause-done g c = λ files can.
    let now = c.args.self.now in
    let asking = asking_for c.args.target.now c.args.removals.now now.state in
    let made = c.in_ok-opening.ensures.ready in
    let head = ap (λ (n : Now). n.head) c.self.view_is in
    let here = subst (λ (h : Head). steps.CanCommit h (step asking can c.requires.begins made c.requires.due) c.in_ok-opening.opening.ready (g.D.Disk.told c.args.disk.now)) (sym head) (can_step asking can c.requires.begins made c.requires.due) in
    stands_after asking can c.requires.begins made c.requires.due (g.D.Disk.told c.commit.new.disk)
    (subst (λ (h : Head). StandsFor h (step asking can c.requires.begins made c.requires.due).after files (g.D.Disk.told c.commit.new.disk)) (c.in-Ok.ensures.numbers ∙ ap steps.with_one_more head) (c.in-Ok.ensures.done (step asking can c.requires.begins made c.requires.due) here))
