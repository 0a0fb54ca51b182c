use Rattle.switch_state.specs.Begins.{begin_number, state_closed}
use Rattle.switch_state.proofs.Following.{closed_formed}
use Rattle.switch_state.proofs.Formed.{begun_formed}
use Rattle.switch_state.proofs.laws.begins_keep_form.Goals as goal

pub returns-clause-next : goal.returns-clause-next
returns-clause-next c = λ number asking state fits formed. begun_formed number asking state fits formed

pub returns-clause-whole : goal.returns-clause-whole
returns-clause-whole c = λ asking now fits formed. begun_formed (begin_number now) asking (state_closed now.state) fits (closed_formed now.state formed)
