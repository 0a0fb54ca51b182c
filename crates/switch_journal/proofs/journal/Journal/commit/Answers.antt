use Rattle.std.proofs.Common.{◌≡◌, ◌∙◌, ℕ, sym, ap, subst}
use Rattle.crash_disk.proofs.Stops.{stops_by, stops_more}
use Rattle.crash_disk.specs.Stops.{IsSameBut}
use Rattle.switch_journal.specs.Commits.{paths_of_ready}
use Rattle.switch_journal.specs.Journal.{Head, StandsFor}
use Rattle.switch_journal.specs.Steps.{IsAround, files_after, one_more_number, with_one_more}
use Rattle.switch_journal.proofs.Stepped.{around, begins_so, journal, stands_after}
use Rattle.switch_journal.proofs.journal.Journal.commit.Goals as goal

abbrev with_next : Head → ℕ → Head
with_next head next = record { counts = head.counts; zero_is_open = head.zero_is_open; one_is_open = head.one_is_open; first = head.first; next = next; old = head.old }

pub returns-in_err-commit-clause-crash : goal.returns-in_err-commit-clause-crash
returns-in_err-commit-clause-crash g c = λ step can. stops_more (IsAround step) (around can) (c.commit.ensures.crash (journal can) can.made.text (begins_so can))

pub returns-clause-crash : goal.returns-clause-crash
returns-clause-crash g c = λ step can. stops_more (IsAround step) (around can) (c.commit.ensures.crash (journal can) can.made.text (begins_so can))

pub returns-in_err-commit-clause-foreign : goal.returns-in_err-commit-clause-foreign
returns-in_err-commit-clause-foreign g c = λ tree is.
    stops_by g.met.D.Disk.now_is (IsSameBut (paths_of_ready c.args.ready.now) tree) (paths_of_ready c.args.ready.now) tree is c.commit.ensures.touches (λ image same. same)

pub returns-clause-foreign : goal.returns-clause-foreign
returns-clause-foreign g c = λ tree is.
    stops_by g.met.D.Disk.now_is (IsSameBut (paths_of_ready c.args.ready.now) tree) (paths_of_ready c.args.ready.now) tree is c.commit.ensures.touches (λ image same. same)

pub returns-clause-done : goal.returns-clause-done
returns-clause-done g c = λ step can.
    let next : one_more_number c.self.inside.next ≡ c.min-self-inside.result = sym c.min-self-inside.ensures in
    let numbers : with_one_more c.args.self.now ≡ with_next (with_one_more c.args.self.now) c.min-self-inside.result = λ i. with_next (with_one_more c.args.self.now) ((ap (λ (h : Head). one_more_number h.next) (sym c.self.view_is) ∙ next) i) in
    let view : with_next (with_one_more c.args.self.now) c.min-self-inside.result ≡ (record { counts = c.self.inside.counts; zero_is_open = c.self.inside.zero_is_open; one_is_open = c.self.inside.one_is_open; first = c.self.inside.first; next = c.min-self-inside.result; old = c.self.inside.old }) = λ i. with_next (sym c.self.view_is i) c.min-self-inside.result in
    subst (λ (h : Head). StandsFor h step.after (files_after step) (g.D.Disk.told c.commit.new.disk)) (numbers ∙ view) (stands_after can _ (c.in_ok-commit.ensures.done (journal can) can.made.text (begins_so can)))
