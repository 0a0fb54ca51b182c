-- What a host and a sink in memory hold. This project's own.
use Rattle.std.specs.Prelude.{◌≤◌, ◌+◌, ℕ, List, [], ◌∷◌, length, String, string_bytes, Vec, min}
use Rattle.std.specs.FinMap.{from_entries}
use Rattle.std.specs.declared.alloc.Global.{Global}
use Rattle.std.specs.declared.option.Option.{Option}
use Rattle.std.specs.declared.option.Option.TheVariants.{None, Some}
use Rattle.outside_io.specs.Counts.{Files, last_count}

-- files by their paths, the numbers of the calls that are to fail, and how many calls and faults there were
pub record HostMemory : Type 0 where
  pub files : List (List ℕ × List ℕ)
  pub fail : List ℕ
  pub calls : ℕ
  pub faults : ℕ

-- the bytes written, the numbers of the calls that are to fail, how many calls and faults there were, and how many of
-- the faults came from a want of its own memory
pub record SinkMemory : Type 0 where
  pub bytes : List ℕ
  pub fail : List ℕ
  pub calls : ℕ
  pub faults : ℕ
  pub starved : ℕ

-- the number of the next call; the last number stands for all that come after it too
abbrev pub next_call : ℕ → ℕ
next_call calls = min (calls + 1) last_count

-- paths and files as bytes
abbrev pub pairs_of : List (String Global × Vec ℕ Global) → List (List ℕ × List ℕ)
pairs_of [] = []
pairs_of (e ∷ es) = (string_bytes e.0, e.1.items) ∷ pairs_of es

-- of several files with one path the first counts
abbrev pub files_at : List (List ℕ × List ℕ) → Files
files_at files = from_entries files

-- bytes stand there, and no more than the limit: to copy them takes memory
abbrev pub IsHeld : Option (List ℕ) → ℕ → Type 0
IsHeld None limit = ⊥
IsHeld (Some file) limit = length file ≤ limit
