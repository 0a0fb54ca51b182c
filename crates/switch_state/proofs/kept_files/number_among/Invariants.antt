use Rattle.std.proofs.Common.{◌≡◌, drop}
use Rattle.switch_state.specs.OpamTexts.{removal_number}
use Rattle.switch_state.proofs.kept_files.number_among.Given as goal

abbrev pub invariant-loop-what : goal.invariant-loop-what
invariant-loop-what l = removal_number l.pkg l.done ≡ removal_number l.pkg (drop l.what-index l.done)
