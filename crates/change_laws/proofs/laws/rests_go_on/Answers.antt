use Rattle.change_laws.proofs.RestLaw.{rests_go_on}
use Rattle.change_laws.proofs.laws.rests_go_on.Goals as goal

pub returns : goal.returns
returns c = rests_go_on c.actions_keep_form.ensures c.requests_remove_first.ensures.kept
