use Rattle.std.proofs.Common.{◌≡◌, take}
use Rattle.switch_state.specs.Begins.{pkgs_at}
use Rattle.switch_state.proofs.begins.pkgs_at.Given as goal

abbrev pub invariant-loop-place : goal.invariant-loop-place
invariant-loop-place l = l.pkgs ≡ pkgs_at l.members (take l.place-index l.places)
