use Rattle.switch_state.proofs.Following.{ended_formed}
use Rattle.switch_state.proofs.laws.ends_keep_form.Goals as goal

pub returns : goal.returns
returns c = λ state formed. ended_formed state formed
