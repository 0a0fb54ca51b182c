-- Where bytes stop to begin a value of a kind. This project's own.
use Rattle.std.specs.Prelude.{ℕ, ◌<◌, ◌≤◌, List, ◌++◌, length, take}
use Rattle.opam_names.specs.declared.fault.ReadFault.{ReadFault}
use Rattle.opam_names.specs.declared.fault.ReadFault.TheVariants.{Bad, Memory}

-- bytes begin a value where more can be put after them
abbrev pub Begins : (List ℕ → Type 0) → List ℕ → Type 0
Begins IsValue bytes = (more : List ℕ) × IsValue (bytes ++ more)

-- bytes that are no value, and the length of their longest prefix that begins one
pub record IsBadAt (IsValue : List ℕ → Type 0) (bytes : List ℕ) (at : ℕ) : Type 0 where
  pub no_value : ¬ (IsValue bytes)
  pub within : at ≤ length bytes
  pub begins : Begins IsValue (take at bytes)
  pub longest : (n : ℕ) → at < n → n ≤ length bytes → ¬ (Begins IsValue (take n bytes))

-- the length of the longest prefix that begins a value
pub record IsLongestBegin (IsValue : List ℕ → Type 0) (bytes : List ℕ) (at : ℕ) : Type 0 where
  pub within : at ≤ length bytes
  pub begins : Begins IsValue (take at bytes)
  pub longest : (n : ℕ) → at < n → n ≤ length bytes → ¬ (Begins IsValue (take n bytes))

-- what a fault says of the bytes
abbrev pub IsFaultOf : (List ℕ → Type 0) → List ℕ → ReadFault → Type 0
IsFaultOf IsValue bytes (Bad at) = IsBadAt IsValue bytes at
IsFaultOf IsValue bytes Memory = Unit {0}
