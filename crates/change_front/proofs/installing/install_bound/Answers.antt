use Rattle.std.proofs.Common.{◌≡◌, ◌∙◌, Some}
use Rattle.lock_check.specs.Chased.{install_target, install_violations}
use Rattle.change_front.proofs.Fronted.{read_judged, read_stopped}
use Rattle.change_front.proofs.installing.install_bound.Goals as goal

pub returns-in-Stops-clause-told : goal.returns-in-Stops-clause-told
returns-in-Stops-clause-told g c = λ files is.
    read_stopped files c.args.repo.now c.args.lock.now.bound c.args.names.now c.args.installed.now c.args.roots.now c.args.globals.now c.in_ok-begun.begun
    (record {
      begun_installed = c.in_ok-begun.ensures.installed;
      begun_bound = c.in_ok-begun.ensures.bound;
      begun_asked = c.in_ok-begun.ensures.asked;
      none_known = c.in_ok-begun.ensures.known;
      none_unknown = c.in_ok-begun.ensures.unknown;
      begun_needed = c.in_ok-begun.ensures.needed;
    }) c.in_ok-refusal.field-0 c.in-Stops.refusal c.in-Stops.is (c.in_ok-refusal.ensures.told files is)

pub returns-in_ok-judge_read-in-Whole-clause-told : goal.returns-in_ok-judge_read-in-Whole-clause-told
returns-in_ok-judge_read-in-Whole-clause-told g c = λ files is.
    read_judged files c.args.repo.now c.args.lock.now.bound c.args.names.now c.args.installed.now c.args.roots.now c.args.globals.now c.in_ok-begun.begun
    (record {
      begun_installed = c.in_ok-begun.ensures.installed;
      begun_bound = c.in_ok-begun.ensures.bound;
      begun_asked = c.in_ok-begun.ensures.asked;
      none_known = c.in_ok-begun.ensures.known;
      none_unknown = c.in_ok-begun.ensures.unknown;
      begun_needed = c.in_ok-begun.ensures.needed;
    }) c.in_ok-refusal.field-0 c.in-Whole.chase c.in_ok-judge_read-in-Whole.field-0 c.in-Whole.is (c.in_ok-refusal.ensures.told files is)
    c.in_ok-judge_read-in-Whole.ensures.judged
