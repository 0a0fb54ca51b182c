-- How much of a text begins a file. This project's own.
use Rattle.std.specs.Prelude.{ℕ, ◌+◌, ◌<◌, ◌≤◌, List, [], ◌∷◌, ◌++◌, length, get_or, false, take, codes}
use Rattle.std.specs.declared.option.Option.{Option}
use Rattle.std.specs.declared.option.Option.TheVariants.{None, Some}
use Rattle.syntax_trees.specs.Faults.{BeginsFile}
use Rattle.syntax_trees.specs.Following.{at_entry}
use Rattle.syntax_faults.specs.Endings.{TokensFollow}

-- the endings with which bytes that were cut off are tried, one after another
abbrev pub endings : List (List ℕ)
endings =
    [] ∷ codes "x" ∷ codes "x:x" ∷ codes "**)" ∷ codes "=" ∷ codes "+" ∷ codes ":"
    ∷ (34 ∷ []) ∷ (34 ∷ 34 ∷ []) ∷ (48 ∷ 34 ∷ []) ∷ (48 ∷ 48 ∷ 34 ∷ []) ∷ (10 ∷ 34 ∷ [])
    ∷ (34 ∷ 34 ∷ 34 ∷ []) ∷ (34 ∷ 34 ∷ 34 ∷ 34 ∷ []) ∷ (48 ∷ 34 ∷ 34 ∷ 34 ∷ []) ∷ (48 ∷ 48 ∷ 34 ∷ 34 ∷ 34 ∷ []) ∷ (10 ∷ 34 ∷ 34 ∷ 34 ∷ []) ∷ []

-- the ending of this number makes of the bytes tokens that may follow one another; or they begin no file
abbrev pub IsEndingOf : List ℕ → Option ℕ → Type 0
IsEndingOf bytes (Some number) = (number < length endings) × TokensFollow (at_entry false) (bytes ++ get_or endings number [])
IsEndingOf bytes None = ¬ (BeginsFile bytes)

-- the bytes up to the place begin a file
pub record IsNear (bytes : List ℕ) (place : ℕ) : Type 0 where
  pub within : place ≤ length bytes
  pub begins : BeginsFile (take place bytes)

-- so many bytes begin a file, and with one byte more they begin none
pub record IsLongest (bytes : List ℕ) (len : ℕ) : Type 0 where
  pub within : len ≤ length bytes
  pub begins : BeginsFile (take len bytes)
  pub stray : len < length bytes → ¬ (BeginsFile (take (len + 1) bytes))

-- the bytes up to one place begin a file, and up to a later one they begin none
pub record IsBetween (bytes : List ℕ) (low high : ℕ) : Type 0 where
  pub order : low < high
  pub within : high ≤ length bytes
  pub begins : BeginsFile (take low bytes)
  pub stray : ¬ (BeginsFile (take high bytes))
