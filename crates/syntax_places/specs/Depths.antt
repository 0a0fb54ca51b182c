-- The first place of a text that is too deep, as it is told of a text that begins like it. This project's own.
use Rattle.std.specs.Prelude.{ℕ, ◌+◌, List, drop, not, nat_lt, ◌&&◌, ◌||◌, if◌then◌else◌}
use Rattle.std.specs.declared.option.Option.{Option}
use Rattle.std.specs.declared.option.Option.TheVariants.{None, Some}
use Rattle.syntax_trees.specs.Faults.{IsDeepAt, IsNowhereDeep, begins_longer}

-- the first place that is too deep, or there is none
abbrev pub IsFirstDeep : List ℕ → Option ℕ → Type 0
IsFirstDeep bytes (Some place) = IsDeepAt bytes place
IsFirstDeep bytes None = IsNowhereDeep bytes

-- the place, if a byte at least stands between it and the end
abbrev pub place_before : ℕ → Option ℕ → Option ℕ
place_before len None = None
place_before len (Some at) = if nat_lt (at + 1) len then Some at else None

-- the place, if it is within, and no longer sign begins at it
abbrev pub place_within : List ℕ → ℕ → Option ℕ → Option ℕ
place_within bytes len None = None
place_within bytes len (Some at) = if nat_lt at len && (nat_lt (at + 1) len || not (begins_longer (drop at bytes))) then Some at else None
