use Rattle.switch_state.proofs.Formed.{empty_formed}
use Rattle.switch_state.proofs.laws.the_empty_state_is_formed.Goals as goal

pub returns : goal.returns
returns c = empty_formed
