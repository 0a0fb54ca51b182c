use Rattle.change_outcome.proofs.Outside.{acts_same, backs_same, keeps_same, verdicts_same}
use Rattle.change_outcome.proofs.laws.the_journal_is_not_seen.Goals as goal

pub returns-clause-verdicts : goal.returns-clause-verdicts
returns-clause-verdicts c = verdicts_same

pub returns-clause-put_backs : goal.returns-clause-put_backs
returns-clause-put_backs c = backs_same

pub returns-clause-removals : goal.returns-clause-removals
returns-clause-removals c = keeps_same

pub returns-clause-actions : goal.returns-clause-actions
returns-clause-actions c = acts_same
