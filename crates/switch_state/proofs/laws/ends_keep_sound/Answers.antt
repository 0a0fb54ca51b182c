use Rattle.switch_state.proofs.StaysSound.{ended_sound}
use Rattle.switch_state.proofs.laws.ends_keep_sound.Goals as goal

pub returns : goal.returns
returns c = λ state files sound. ended_sound state files sound
