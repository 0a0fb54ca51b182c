use Rattle.std.proofs.Common.{◌≡◌, ◌==◌, ◌+◌, ◌-◌, ◌≤◌, ℕ, length, take, not}
use Rattle.std.specs.List.{suffix_len}
use Rattle.install_sections.proofs.targets.behind_last.Given as goal

-- what stands behind the start goes on as far as what is left in front of it says
abbrev pub invariant-loop-start : goal.invariant-loop-start
invariant-loop-start l =
    (l.start ≤ length l.bytes)
    × (suffix_len (λ (b : ℕ). not (b == l.mark)) (take l.start l.bytes) + (length l.bytes - l.start) ≡ suffix_len (λ (b : ℕ). not (b == l.mark)) l.bytes)

abbrev pub decreases-loop-start : goal.decreases-loop-start
decreases-loop-start l = l.start
