use Rattle.change_outcome.proofs.NoneBack.{success_in_all}
use Rattle.change_outcome.proofs.Whole.{success}
use Rattle.change_outcome.proofs.laws.success_is_whole.Goals as goal

pub returns-clause-actions : goal.returns-clause-actions
returns-clause-actions c = success

pub returns-clause-whole : goal.returns-clause-whole
returns-clause-whole c = success_in_all
