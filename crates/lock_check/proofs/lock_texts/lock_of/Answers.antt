use Rattle.std.proofs.Common.{[], sym, ◌∙◌}
use Rattle.lock_check.specs.LockItems.{faults_behind}
use Rattle.lock_check.proofs.FirstLockFaults.{none_told}
use Rattle.lock_check.proofs.lock_texts.lock_of.Goals as goal

pub bind_lock-requires : goal.bind_lock-requires
bind_lock-requires c = none_told (faults_behind [] c.args.items.now) (sym c.in_ok-fault.ensures ∙ c.in-None.is)

pub returns-in-Ok-clause-sound : goal.returns-in-Ok-clause-sound
returns-in-Ok-clause-sound c = none_told (faults_behind [] c.args.items.now) (sym c.in_ok-fault.ensures ∙ c.in-None.is)
