use Rattle.std.proofs.Common.{refl}
use Rattle.switch_state.specs.Actions.{PutsBack, state_after}
use Rattle.switch_state.proofs.Aparts.{comes_apart}
use Rattle.switch_state.proofs.Readied.{backs_come}
use Rattle.switch_state.proofs.SoundKept.{comes_sound}
use Rattle.switch_state.proofs.StaysSound.{back_request}
use Rattle.switch_state.proofs.laws.put_backs_keep_sound.Goals as goal

pub returns-clause-installed : goal.returns-clause-installed
returns-clause-installed c = λ number member placed state files follows spelled suits sound.
    let can = (backs_come number member placed state state.request follows.0 follows.1).0 in
    let apart = comes_apart c.additions_are_met.ensures member placed state can spelled.ordered.apart sound.paths.owned in
    comes_sound member placed state (state_after number (PutsBack member placed) state) files refl refl can suits apart sound

pub returns-clause-whole : goal.returns-clause-whole
returns-clause-whole c = λ number member placed state files follows spelled suits first sound.
    let can = (backs_come number member placed state state.request follows.0 follows.1).0 in
    let apart = comes_apart c.additions_are_met.ensures member placed state can spelled.ordered.apart sound.installed.paths.owned in
    record {
      installed = comes_sound member placed state (state_after number (PutsBack member placed) state) files refl refl can suits apart sound.installed;
      request = back_request number member placed state follows can first sound.request;
    }
