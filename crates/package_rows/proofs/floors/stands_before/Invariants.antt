use Rattle.std.proofs.Common.{◌≡◌, ◌<◌, ℕ, get_or}
use Rattle.change_floor.specs.FloorLaws.{install_members}
use Rattle.package_rows.proofs.floors.stands_before.Given as goal

abbrev pub invariant-loop-at : goal.invariant-loop-at
invariant-loop-at l = (i : ℕ) → i < l.at → get_or (install_members l.installs) i 0 ≡ l.member → ⊥
