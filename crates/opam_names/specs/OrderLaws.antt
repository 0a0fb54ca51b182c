-- Laws of the order of versions.
use Rattle.std.specs.Prelude.{◌≡◌, ℕ, List, [], ◌∷◌, ◌++◌, Bool, true, false, not, ◌&&◌, bytes_eq, IsTrue, ◌↔◌, map}
use Rattle.std.specs.List.{list_all}
use Rattle.std.specs.Cmp.{IsTotalOrder}
use Rattle.std.specs.declared.cmp.Ordering.TheVariants.{Less, Equal}
use Rattle.opam_names.specs.Names.{is_digit}
use Rattle.opam_names.specs.Orders.{Run, is_no_digit, number, run_order, runs, text_order}

-- it is total and transitive, and what is equal in it stands alike to every third text; each text is equal to itself
pub record VersionsAreOrdered : Type 0 where
  pub total : IsTotalOrder text_order
  pub reflexive : (a : List ℕ) → text_order a a ≡ Equal

-- a text that goes on with `~` comes first
abbrev pub TildeComesFirst : Type 0
TildeComesFirst = (a more : List ℕ) → text_order (a ++ 126 ∷ more) a ≡ Less

-- a text ends in a digit
abbrev pub ends_in_digit : List ℕ → Bool
ends_in_digit [] = false
ends_in_digit (b ∷ []) = is_digit b
ends_in_digit (b ∷ c ∷ bytes) = ends_in_digit (c ∷ bytes)

-- a zero before digits that no digit stands before changes nothing
abbrev pub LeadingZerosDoNotCount : Type 0
LeadingZerosDoNotCount = (a : List ℕ) (digit : ℕ) (more : List ℕ) → ends_in_digit a ≡ false → is_digit digit ≡ true → text_order (a ++ 48 ∷ digit ∷ more) (a ++ digit ∷ more) ≡ Equal

-- a run with its digits read as a number
pub record Plain : Type 0 where
  pub word : List ℕ
  pub value : ℕ

abbrev pub plain : Run → Plain
plain run = record { word = run.word; value = number run.digits }

-- texts are equal exactly where their words are the same and their digits write the same numbers
abbrev pub EqualVersionsDifferInZeros : Type 0
EqualVersionsDifferInZeros = (a b : List ℕ) → (text_order a b ≡ Equal) ↔ (map plain (runs a) ≡ map plain (runs b))

-- after runs that are the same but for leading zeros, the first run that differs decides
abbrev pub FirstDifferenceDecides : Type 0
FirstDifferenceDecides = (a b : List ℕ) (same alike : List Run) (p q : Run) (ps qs : List Run) → runs a ≡ same ++ p ∷ ps → runs b ≡ alike ++ q ∷ qs
    → map plain same ≡ map plain alike → ¬ (run_order p q ≡ Equal) → text_order a b ≡ run_order p q

abbrev pub joined_runs : List Run → List ℕ
joined_runs [] = []
joined_runs (run ∷ more) = run.word ++ (run.digits ++ joined_runs more)

-- a word has no digits, and digits are nothing else
abbrev pub is_run : Run → Bool
is_run run = list_all is_no_digit run.word && list_all is_digit run.digits

-- each run but the last has digits, and each but the first has a word
abbrev pub are_alternating : List Run → Bool
are_alternating [] = true
are_alternating (run ∷ []) = true
are_alternating (run ∷ next ∷ more) = not (bytes_eq run.digits []) && not (bytes_eq next.word []) && are_alternating (next ∷ more)

-- the runs of a text are cut where digits begin and end
pub record IsCut (text : List ℕ) (cut : List Run) : Type 0 where
  pub joined : joined_runs cut ≡ text
  pub each : IsTrue (list_all is_run cut)
  pub alternating : IsTrue (are_alternating cut)

abbrev pub RunsAreCut : Type 0
RunsAreCut = (text : List ℕ) → IsCut text (runs text)
