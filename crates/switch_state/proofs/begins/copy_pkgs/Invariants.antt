use Rattle.std.proofs.Common.{◌≡◌, take}
use Rattle.switch_state.proofs.begins.copy_pkgs.Given as goal

abbrev pub invariant-loop-pkg : goal.invariant-loop-pkg
invariant-loop-pkg l = l.copies ≡ take l.pkg-index l.pkgs
