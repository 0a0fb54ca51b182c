use Rattle.switch_state.proofs.Formed.{acts_formed}
use Rattle.switch_state.proofs.laws.actions_keep_form.Goals as goal

pub returns : goal.returns
returns c = λ number action state follows spelled formed. acts_formed c.additions_are_met.ensures number action state follows spelled formed
