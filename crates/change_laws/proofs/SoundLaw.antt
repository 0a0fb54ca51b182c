-- The law of sound changes.
use Rattle.std.proofs.Common.{subst, Option}
use Rattle.std.specs.Prelude.{IfSome}
use Rattle.switch_state.specs.FormedLaws.{ActionsKeepForm}
use Rattle.switch_state.specs.SoundLaws.{InstallsKeepSound, PutBacksKeepSound, RemovalsKeepSound}
use Rattle.switch_state.specs.State.{Request}
use Rattle.switch_state.specs.Underway.{ActionsRemoveFirst}
use Rattle.change_laws.specs.Fits.{IsFitFor}
use Rattle.change_laws.specs.SoundRuns.{SoundAfterEachAction}
use Rattle.change_laws.proofs.SoundSteps.{sound_after}

pub stays_sound : ActionsKeepForm → ActionsRemoveFirst → InstallsKeepSound → PutBacksKeepSound → RemovalsKeepSound → SoundAfterEachAction
stays_sound forms firsts installs backs removals change start count out fit sound =
    sound_after change start out forms firsts installs backs removals (subst (λ (o : Option Request). IfSome o (IsFitFor change start.state)) out.restores.runs.is_open fit) sound count
