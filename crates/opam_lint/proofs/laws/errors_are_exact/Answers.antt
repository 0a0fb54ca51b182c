use Rattle.opam_lint.proofs.NoErrors.{no_errors}
use Rattle.opam_lint.proofs.SoundFiles.{sound}
use Rattle.opam_lint.proofs.laws.errors_are_exact.Goals as goal

pub returns : goal.returns
returns c = λ items places. (sound c.the_first_is_told.ensures items places, no_errors items places)
