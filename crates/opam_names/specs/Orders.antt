-- The order of versions. It is this project's own, after Debian's (Debian policy, control files: Version): a text is cut into
-- alternating runs of bytes that are no digits and of digits, and the runs of two texts are compared from the left.
use Rattle.std.specs.Prelude.{ℕ, ◌+◌, ◌*◌, ◌-◌, List, [], ◌∷◌, ◌++◌, map, Bool, not, ◌==◌, bytes_eq, if◌then◌else◌, drop}
use Rattle.std.specs.List.{prefix_len, take_while}
use Rattle.std.specs.Cmp.Lexicographic.{slice_cmp}
use Rattle.std.specs.Ordering.{nat_cmp, ordering_then}
use Rattle.std.specs.declared.cmp.Ordering.{Ordering}
use Rattle.std.specs.declared.cmp.Ordering.TheVariants.{Equal}
use Rattle.opam_names.specs.Names.{is_digit, is_letter}

-- a run of bytes that are no digits, and the run of digits after it; either may be empty
pub record Run : Type 0 where
  pub word : List ℕ
  pub digits : List ℕ

abbrev pub run_of : List ℕ → List ℕ → Run
run_of word digits = record { word = word; digits = digits }

abbrev pub empty_run : Run
empty_run = run_of [] []

-- the runs of a byte and of what follows it, by those of what follows it
abbrev pub onto_runs : ℕ → List Run → List Run
onto_runs b [] = []
onto_runs b (run ∷ more) =
    if is_digit b
    then (if bytes_eq run.word [] then run_of [] (b ∷ run.digits) ∷ more else run_of [] (b ∷ []) ∷ run ∷ more)
    else run_of (b ∷ run.word) run.digits ∷ more

-- the alternating runs of a text
abbrev pub runs : List ℕ → List Run
runs [] = empty_run ∷ []
runs (b ∷ bytes) = onto_runs b (runs bytes)

-- where a byte of a word stands: `~` first, then the end of the word, then letters, then all others
abbrev pub rank : ℕ → ℕ
rank b = if b == 126 then 0 else (if is_letter b then b else 256 + b)

abbrev pub end_rank : ℕ
end_rank = 1

-- the rank of the first byte, or that of the end
abbrev pub first_rank : List ℕ → ℕ
first_rank [] = end_rank
first_rank (b ∷ bytes) = rank b

-- words compare byte by byte, their ends included
abbrev pub word_order : List ℕ → List ℕ → Ordering
word_order xs ys = slice_cmp nat_cmp (map rank xs ++ end_rank ∷ []) (map rank ys ++ end_rank ∷ [])

-- the number that digits write after others that write n
abbrev pub number_after : ℕ → List ℕ → ℕ
number_after n [] = n
number_after n (digit ∷ digits) = number_after (10 * n + (digit - 48)) digits

-- no digits write 0
abbrev pub number : List ℕ → ℕ
number digits = number_after 0 digits

abbrev pub is_zero : ℕ → Bool
is_zero digit = digit == 48

-- digits without leading zeros
abbrev pub significant : List ℕ → List ℕ
significant digits = drop (prefix_len is_zero digits) digits

abbrev pub run_order : Run → Run → Ordering
run_order p q = ordering_then (word_order p.word q.word) (nat_cmp (number p.digits) (number q.digits))

-- the first difference decides; a text that has ended goes on with empty runs
abbrev pub runs_order : List Run → List Run → Ordering
runs_order [] [] = Equal
runs_order [] (q ∷ qs) = ordering_then (run_order empty_run q) (runs_order [] qs)
runs_order (p ∷ ps) [] = ordering_then (run_order p empty_run) (runs_order ps [])
runs_order (p ∷ ps) (q ∷ qs) = ordering_then (run_order p q) (runs_order ps qs)

abbrev pub text_order : List ℕ → List ℕ → Ordering
text_order a b = runs_order (runs a) (runs b)

abbrev pub is_no_digit : ℕ → Bool
is_no_digit b = not (is_digit b)

-- what a text goes on with after its first word
abbrev pub after_word : List ℕ → List ℕ
after_word text = drop (prefix_len is_no_digit text) text

-- the first run of a text
abbrev pub first_run : List ℕ → Run
first_run text = run_of (take_while is_no_digit text) (take_while is_digit (after_word text))

-- what follows its first run
abbrev pub after_run : List ℕ → List ℕ
after_run text = drop (prefix_len is_digit (after_word text)) (after_word text)
