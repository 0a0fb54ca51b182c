use Rattle.std.proofs.Common.{ℕ, ◌-◌, ◌<◌, ◌≤◌, length, take}
use Rattle.opam_names.specs.Faults.{Begins}
use Rattle.opam_names.specs.Paths.{IsPath}
use Rattle.opam_names.proofs.paths.path_end.Given as goal

abbrev pub invariant-loop-least : goal.invariant-loop-least
invariant-loop-least l = (l.least ≤ l.most) × (l.most ≤ length l.bytes) × Begins IsPath (take l.least l.bytes)
    × ((n : ℕ) → l.most < n → n ≤ length l.bytes → ¬ (Begins IsPath (take n l.bytes)))

abbrev pub decreases-loop-least : goal.decreases-loop-least
decreases-loop-least l = l.most - l.least
