use Rattle.std.proofs.Common.{◌≡◌, take}
use Rattle.switch_state.specs.Prepares.{owned_files}
use Rattle.switch_state.proofs.preparing.owned_files.Given as goal

abbrev pub invariant-loop-file : goal.invariant-loop-file
invariant-loop-file l = l.owned ≡ owned_files l.pkg (take l.file-index l.files)
