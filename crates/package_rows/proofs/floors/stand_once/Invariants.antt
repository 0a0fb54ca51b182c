use Rattle.std.proofs.Common.{◌≡◌, ◌<◌, ℕ, get_or}
use Rattle.change_floor.specs.FloorLaws.{install_members}
use Rattle.package_rows.proofs.floors.stand_once.Given as goal

abbrev pub invariant-loop-at : goal.invariant-loop-at
invariant-loop-at l = (i j : ℕ) → i < j → j < l.at → get_or (install_members l.installs) i 0 ≡ get_or (install_members l.installs) j 0 → ⊥
