use Rattle.change_outcome.proofs.Telling.{decided_come, put_backs_come}
use Rattle.change_outcome.proofs.laws.what_is_decided_may_come.Goals as goal

pub returns-clause-actions : goal.returns-clause-actions
returns-clause-actions c = decided_come c.actions_keep_form.ensures

pub returns-clause-put_backs : goal.returns-clause-put_backs
returns-clause-put_backs c = put_backs_come c.actions_keep_form.ensures c.requests_remove_first.ensures.kept
