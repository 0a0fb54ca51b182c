use Rattle.switch_state.proofs.SoundKept.{empty_sound}
use Rattle.switch_state.proofs.laws.the_empty_state_is_sound.Goals as goal

pub returns : goal.returns
returns c = λ files. empty_sound files
