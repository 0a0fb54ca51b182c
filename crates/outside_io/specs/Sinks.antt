-- What a sink takes. This project's own.
use Rattle.std.specs.Prelude.{◌≡◌, ◌<◌, ◌≤◌, ◌++◌, ℕ, List, length, take, Result, Ok, Err, OnErr, IfOk}
use Rattle.std.specs.declared.option.Option.{Option}
use Rattle.std.specs.Option.{option_map}
use Rattle.outside_io.specs.Counts.{Rose}
use Rattle.outside_io.specs.declared.sink.Failed.{Failed}

-- `Failed`, and nothing taken of a piece, come only where the count rose, and the count rises only there
pub record SinkCause (before now : ℕ) (piece : List ℕ) (result : Result ℕ Failed) : Type 0 where
  pub later : before ≤ now
  pub failed : OnErr result (Rose before now)
  pub nothing : IfOk result (λ n. n ≡ 0 → 0 < length piece → Rose before now)
  pub some : IfOk result (λ n. 0 < n → now ≡ before)
  pub empty : IfOk result (λ n. length piece ≡ 0 → now ≡ before)

-- a sink that tells takes the first n bytes, and a failed call none
abbrev pub SinkTakes : Option (List ℕ) → Option (List ℕ) → List ℕ → Result ℕ Failed → Type 0
SinkTakes old new piece (Ok n) = new ≡ option_map (λ w. w ++ take n piece) old
SinkTakes old new piece (Err e) = new ≡ old

-- it has got this and no more
abbrev pub Got : Option (List ℕ) → Option (List ℕ) → List ℕ → Type 0
Got old new bytes = new ≡ option_map (λ w. w ++ bytes) old

-- it has got the first bytes of this
abbrev pub GotPrefix : Option (List ℕ) → Option (List ℕ) → List ℕ → Type 0
GotPrefix old new bytes = (n : ℕ) × (n ≤ length bytes) × Got old new (take n bytes)
