use Rattle.switch_state.proofs.UnderwayKept.{actions_underway, begun_underway}
use Rattle.switch_state.proofs.laws.requests_remove_first.Goals as goal

pub returns-clause-begun : goal.returns-clause-begun
returns-clause-begun c = λ number asking state. begun_underway number asking state

pub returns-clause-kept : goal.returns-clause-kept
returns-clause-kept c = λ number action state follows first. actions_underway number action state follows first
