use Rattle.change_outcome.proofs.Restoring.{backs_follow, backs_stand}
use Rattle.change_outcome.proofs.laws.what_may_come_back_can_follow.Goals as goal

pub returns-clause-follows : goal.returns-clause-follows
returns-clause-follows c = backs_follow c.actions_keep_form.ensures c.requests_remove_first.ensures.kept

pub returns-clause-stands : goal.returns-clause-stands
returns-clause-stands c = backs_stand c.actions_keep_form.ensures c.requests_remove_first.ensures.kept
