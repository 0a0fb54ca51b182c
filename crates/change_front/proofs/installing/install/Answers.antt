use Rattle.std.proofs.Common.{List, ℕ, Result, ◌∙◌}
use Rattle.std.specs.FinMap.{get}
use Rattle.change_front.proofs.Fronted.{lock_bound, lock_refused}
use Rattle.change_front.proofs.installing.install.Goals as goal

pub returns-in-Refused-clause-told : goal.returns-in-Refused-clause-told
returns-in-Refused-clause-told g c = λ files is.
    lock_refused files c.args.lock_file.now c.args.repo.now c.args.names.now c.args.installed.now c.args.roots.now c.args.globals.now c.in_ok-refusal.field-0 c.in-Refused.refusal c.in-Refused.is
    (c.in_ok-refusal.ensures.told files is)

pub returns-in-Bound-clause-told : goal.returns-in-Bound-clause-told
returns-in-Bound-clause-told g c = λ files is.
    lock_bound files c.args.lock_file.now c.args.repo.now c.args.names.now c.args.installed.now c.args.roots.now c.args.globals.now c.in_ok-refusal.field-0 c.in-Bound.lock c.in-Bound.is
    (c.in_ok-refusal.ensures.told files is) c.install_bound.result (c.install_bound.ensures.told files (c.load_lock.ensures.reads.same ∙ is))
