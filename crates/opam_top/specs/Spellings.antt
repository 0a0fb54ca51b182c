-- Canonical spellings of the file syntax, as far as they are built (opam manual, file format: general syntax).
use Rattle.std.specs.declared.option.Option.{Option}
use Rattle.std.specs.declared.option.Option.TheVariants.{None, Some}
use Rattle.std.specs.Prelude.{ℕ, ◌+◌, List, [], ◌∷◌, ◌++◌, Bool, true, false, bytes_eq, ◌==◌, ◌||◌, if◌then◌else◌}

-- the bytes are this text, whose last newline may be missing
abbrev pub is_spelled : List ℕ → List ℕ → Bool
is_spelled bytes text = bytes_eq bytes text || bytes_eq (bytes ++ 10 ∷ []) text

-- a text without escapes, between quotes
abbrev pub in_quotes : List ℕ → List ℕ
in_quotes text = 34 ∷ text ++ 34 ∷ []

-- the byte at the front of the first text
abbrev pub onto_first : ℕ → List (List ℕ) → List (List ℕ)
onto_first b [] = (b ∷ []) ∷ []
onto_first b (text ∷ texts) = (b ∷ text) ∷ texts

-- the texts between quotes, from within a text or from outside; one that is open at the end goes up to there
abbrev pub quoted_from : Bool → List ℕ → List (List ℕ)
quoted_from true [] = [] ∷ []
quoted_from false [] = []
quoted_from true (b ∷ bytes) = if b == 34 then [] ∷ quoted_from false bytes else onto_first b (quoted_from true bytes)
quoted_from false (b ∷ bytes) = if b == 34 then quoted_from true bytes else quoted_from false bytes

-- the texts between quotes, from the beginning on
abbrev pub quoted : List ℕ → List (List ℕ)
quoted bytes = quoted_from false bytes

-- what stands after the first quote
abbrev pub after_quote : List ℕ → Option (List ℕ)
after_quote [] = None
after_quote (b ∷ bytes) = if b == 34 then Some bytes else after_quote bytes

-- how many bytes stand before the first quote
abbrev pub before_quote : List ℕ → ℕ
before_quote [] = 0
before_quote (b ∷ bytes) = if b == 34 then 0 else before_quote bytes + 1
