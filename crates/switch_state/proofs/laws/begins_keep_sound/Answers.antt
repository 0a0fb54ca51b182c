use Rattle.switch_state.specs.Begins.{begin_number}
use Rattle.switch_state.proofs.StaysSound.{begun_sound, closed_begun}
use Rattle.switch_state.proofs.laws.begins_keep_sound.Goals as goal

pub returns-clause-next : goal.returns-clause-next
returns-clause-next c = λ number asking state files asks sound. begun_sound number asking state files asks sound

pub returns-clause-whole : goal.returns-clause-whole
returns-clause-whole c = λ asking now files asks sound. closed_begun (begin_number now) asking now.state files asks sound
