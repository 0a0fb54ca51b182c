-- The names of generated packages are names.
use Rattle.std.proofs.Common.{◌≡◌, ◌+◌, ◌<◌, ◌≤◌, ◌^◌, ◌%◌, ℕ, List, [], ◌∷◌, ◌++◌, Bool, true, false, IsTrue, length, rules, arith, decimal}
use Rattle.std.specs.List.{list_all, list_any}
use Rattle.std.proofs.lemmas.List.Folds.{list_all-append}
use Rattle.std.proofs.lemmas.Fmt.{decimal_by_steps, length-decimal-le}
use Rattle.opam_names.specs.Names.{is_digit, is_letter, is_name, is_name_byte}
use Rattle.generated_set.specs.Texts.{name_text}

digit_named : (n : ℕ) → n < 10 → is_name_byte (48 + n) ≡ true
digit_named n small = search (rules, arith)

one_named : (n : ℕ) → n < 10 → list_all is_name_byte ((48 + n) ∷ []) ≡ true
one_named n small = search (rules, digit_named)

tenth_small : (n : ℕ) → n % 10 < 10
tenth_small n = search (rules, arith)

more_named : (n : ℕ) (ds : List ℕ) → list_all is_name_byte ds ≡ true → list_all is_name_byte (ds ++ (48 + n % 10) ∷ []) ≡ true
more_named n ds good = search (rules, list_all-append, good, one_named (n % 10) (tenth_small n))

decimal_named : (n : ℕ) → n < 2 ^ 64 → list_all is_name_byte (decimal n) ≡ true
decimal_named = decimal_by_steps (λ n ds. list_all is_name_byte ds ≡ true) one_named (λ n ds large good. more_named n ds good)

pub place_named : (place : ℕ) → place < 2 ^ 32 → IsTrue (is_name (name_text place))
place_named place small = search (rules, arith, decimal_named, length-decimal-le 10)
