use Rattle.std.proofs.Common.{[], ap, subst, sym, ◌∙◌}
use Rattle.crash_disk.proofs.Stops.{stops_more}
use Rattle.journal_text.specs.declared.record.Rec.TheVariants.{End}
use Rattle.switch_journal.specs.Journal.{AgreeOutside, Head, StandsFor}
use Rattle.switch_journal.specs.Steps as steps
use Rattle.switch_state.specs.Ends.{IsAroundEnd}
use Rattle.switch_state.specs.State.{Now}
use Rattle.switch_state.proofs.Closing.{around, can_step, outside_stays, stands_after, step, stops_now}
use Rattle.switch_journal.specs.Commits.{paths_of_ready}
use Rattle.switch_state.proofs.Inside.{inside_none, ready_inside}
use Rattle.switch_state.proofs.switch.Switch.end.Goals as goal

pub returns-in_err-ready-clause-crash : goal.returns-in_err-ready-clause-crash
returns-in_err-ready-clause-crash g c = λ files can. stops_now g.D.Disk g.met.D.Disk.now_is c.args.self.now files c.args.disk.now can

pub returns-in-Err-clause-crash : goal.returns-in-Err-clause-crash
returns-in-Err-clause-crash g c = λ files can.
    let head = ap (λ (n : Now). n.head) c.self.view_is in
    let made = subst (λ (h : Head). steps.IsReady h.next End [] c.in_ok-ready.ready) head c.in_ok-ready.ensures in
    let here = subst (λ (h : Head). steps.CanCommit h (step can c.requires made) c.in_ok-ready.ready (g.D.Disk.told c.args.disk.now)) (sym head) (can_step can c.requires made) in
    stops_more (IsAroundEnd c.args.self.now.state files) (around can c.requires made) (c.commit.ensures.crash (step can c.requires made) here)

pub returns-clause-crash : goal.returns-clause-crash
returns-clause-crash g c = λ files can.
    let head = ap (λ (n : Now). n.head) c.self.view_is in
    let made = subst (λ (h : Head). steps.IsReady h.next End [] c.in_ok-ready.ready) head c.in_ok-ready.ensures in
    let here = subst (λ (h : Head). steps.CanCommit h (step can c.requires made) c.in_ok-ready.ready (g.D.Disk.told c.args.disk.now)) (sym head) (can_step can c.requires made) in
    stops_more (IsAroundEnd c.args.self.now.state files) (around can c.requires made) (c.commit.ensures.crash (step can c.requires made) here)

pub returns-in-Err-clause-files : goal.returns-in-Err-clause-files
returns-in-Err-clause-files g c = λ tree is. stops_more (AgreeOutside tree) (λ image same. outside_stays _ c.in_ok-ready.ready tree image c.in_ok-ready.ensures same) (c.commit.ensures.foreign tree is)

pub returns-clause-files : goal.returns-clause-files
returns-clause-files g c = λ tree is. stops_more (AgreeOutside tree) (λ image same. outside_stays _ c.in_ok-ready.ready tree image c.in_ok-ready.ensures same) (c.commit.ensures.foreign tree is)

pub returns-clause-done : goal.returns-clause-done
returns-clause-done g c = λ files can.
    let head = ap (λ (n : Now). n.head) c.self.view_is in
    let made = subst (λ (h : Head). steps.IsReady h.next End [] c.in_ok-ready.ready) head c.in_ok-ready.ensures in
    let here = subst (λ (h : Head). steps.CanCommit h (step can c.requires made) c.in_ok-ready.ready (g.D.Disk.told c.args.disk.now)) (sym head) (can_step can c.requires made) in
    stands_after can c.requires made (g.D.Disk.told c.commit.new.disk)
    (subst (λ (h : Head). StandsFor h (step can c.requires made).after files (g.D.Disk.told c.commit.new.disk)) (c.in-Ok.ensures.numbers ∙ ap steps.with_one_more head) (c.in-Ok.ensures.done (step can c.requires made) here))

pub returns-in_err-ready-clause-inside : goal.returns-in_err-ready-clause-inside
returns-in_err-ready-clause-inside g c = inside_none c.args.disk.now

pub returns-in-Err-clause-inside : goal.returns-in-Err-clause-inside
returns-in-Err-clause-inside g c = record { paths = paths_of_ready c.in_ok-ready.ready; inside = ready_inside _ End c.in_ok-ready.ready c.in_ok-ready.ensures; touches = c.commit.ensures.touches }

pub returns-clause-inside : goal.returns-clause-inside
returns-clause-inside g c = record { paths = paths_of_ready c.in_ok-ready.ready; inside = ready_inside _ End c.in_ok-ready.ready c.in_ok-ready.ensures; touches = c.commit.ensures.touches }
