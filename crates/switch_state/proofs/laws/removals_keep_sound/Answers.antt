use Rattle.std.proofs.Common.{refl}
use Rattle.owner_map.specs.Owning.{is_of_another, path_of}
use Rattle.switch_state.specs.Actions.{Removes, state_after}
use Rattle.switch_state.proofs.Aparts.{chosen_apart}
use Rattle.switch_state.proofs.SoundLeft.{goes_sound}
use Rattle.switch_state.proofs.StaysSound.{gone_request}
use Rattle.switch_state.proofs.UnderwayKept.{next_unneeded}
use Rattle.switch_state.proofs.laws.removals_keep_sound.Goals as goal

pub returns-clause-installed : goal.returns-clause-installed
returns-clause-installed c = λ number pkg kept state files unneeded sound.
    goes_sound pkg state (state_after number (Removes pkg kept) state) files refl refl unneeded (chosen_apart path_of (is_of_another pkg) state.owned sound.paths.owned) sound

pub returns-clause-whole : goal.returns-clause-whole
returns-clause-whole c = λ number pkg kept state files follows first sound.
    let unneeded = next_unneeded number pkg kept state follows first sound.installed.edges sound.installed.names sound.request in
    record {
      installed = goes_sound pkg state (state_after number (Removes pkg kept) state) files refl refl unneeded (chosen_apart path_of (is_of_another pkg) state.owned sound.installed.paths.owned) sound.installed;
      request = gone_request number pkg kept state files follows sound.installed sound.request;
    }
