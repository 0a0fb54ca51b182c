-- Counts of faults, and maps of files. This project's own.
use Rattle.std.specs.Prelude.{◌<◌, ◌≤◌, ◌+◌, ◌-◌, ◌^◌, ℕ, List, min}
use Rattle.std.specs.Ordering.{nat_cmp}
use Rattle.std.specs.Cmp.Lexicographic.{slice_cmp}
use Rattle.std.specs.FinMap.{FinMap}

-- the last value of a u64, at which a count or a clock stands still
abbrev pub last_count : ℕ
last_count = 2 ^ 64 - 1

-- a count has risen, or stands at its last value
abbrev pub Rose : ℕ → ℕ → Type 0
Rose before now = min (before + 1) last_count ≤ now

-- it has not
abbrev pub Quiet : ℕ → ℕ → Type 0
Quiet before now = now < min (before + 1) last_count

-- what stands at paths, which are bytes
abbrev pub ByPath : Type 0 → Type 0
ByPath X = FinMap (slice_cmp nat_cmp) X

-- files of the machine
abbrev pub Files : Type 0
Files = ByPath (List ℕ)
