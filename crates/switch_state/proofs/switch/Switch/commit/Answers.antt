use Rattle.std.proofs.Common.{ap, subst, sym, ◌∙◌}
use Rattle.crash_disk.proofs.Stops.{stops_more}
use Rattle.switch_journal.specs.Journal.{Head, StandsFor}
use Rattle.switch_journal.specs.Steps as steps
use Rattle.switch_state.specs.Prepares.{IsAroundAction}
use Rattle.switch_state.specs.State.{Now}
use Rattle.switch_state.proofs.Stepping.{around, can_step, stands_after, step}
use Rattle.switch_state.proofs.switch.Switch.commit.Goals as goal

pub returns-in_err-commit-clause-crash : goal.returns-in_err-commit-clause-crash
returns-in_err-commit-clause-crash g c = λ action files is can.
    let head = ap (λ (n : Now). n.head) c.self.view_is in
    let here = subst (λ (h : Head). steps.CanCommit h (step is can) c.args.prepared.ready (g.D.Disk.told c.args.disk.now)) (sym head) (can_step is can) in
    stops_more (IsAroundAction action c.args.self.now files) (around is can) (c.commit.ensures.crash (step is can) here)

pub returns-clause-crash : goal.returns-clause-crash
returns-clause-crash g c = λ action files is can.
    let head = ap (λ (n : Now). n.head) c.self.view_is in
    let here = subst (λ (h : Head). steps.CanCommit h (step is can) c.args.prepared.ready (g.D.Disk.told c.args.disk.now)) (sym head) (can_step is can) in
    stops_more (IsAroundAction action c.args.self.now files) (around is can) (c.commit.ensures.crash (step is can) here)

pub returns-clause-done : goal.returns-clause-done
returns-clause-done g c = λ action files is can.
    let head = ap (λ (n : Now). n.head) c.self.view_is in
    let here = subst (λ (h : Head). steps.CanCommit h (step is can) c.args.prepared.ready (g.D.Disk.told c.args.disk.now)) (sym head) (can_step is can) in
    stands_after is can (g.D.Disk.told c.commit.new.disk)
    (subst (λ (h : Head). StandsFor h (step is can).after (steps.files_after (step is can)) (g.D.Disk.told c.commit.new.disk)) (c.in_ok-commit.ensures.numbers ∙ ap steps.with_one_more head) (c.in_ok-commit.ensures.done (step is can) here))
