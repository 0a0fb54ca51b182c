use Rattle.change_outcome.proofs.Possible.{can_follow, stands_well}
use Rattle.change_outcome.proofs.laws.what_may_come_can_follow.Goals as goal

pub returns-clause-follows : goal.returns-clause-follows
returns-clause-follows c = can_follow

pub returns-clause-stands : goal.returns-clause-stands
returns-clause-stands c = stands_well c.actions_keep_form.ensures
