-- The places of records and gates are paths.
use Rattle.std.proofs.Common.{◌≡◌, inl, inr, ℕ, ◌+◌, ◌<◌, ◌≤◌, ◌^◌, ◌%◌, true, false, cond, not, List, [], ◌∷◌, length, refl, sym, ap, ◌∙◌, arith, length-append}
use Rattle.std.specs.Prelude.{bytes_eq, codes, nat_le, ◌&&◌, ◌==◌}
use Rattle.std.specs.Fmt.{decimal}
use Rattle.std.specs.List.{list_all}
use Rattle.std.proofs.lemmas.Bool.{cases_Bool}
use Rattle.std.proofs.lemmas.Bool.Decides.{nat_tests}
use Rattle.std.proofs.lemmas.Fmt.{decimal_by_steps, decimal_nonempty, length-decimal-le}
use Rattle.std.proofs.lemmas.List.Folds.{list_all-append}
use Rattle.std.proofs.lemmas.Slice.Eq.{bytes_eq-Decides}
use Rattle.opam_names.specs.Names.{is_digit}
use Rattle.opam_names.specs.Paths.{is_part, is_plain_byte, is_plain_path, onto_first, parts}
use Rattle.switch_journal.specs.Places.{gate_path, record_path}
use Rattle.switch_journal.proofs.Tests.{both, both_left, both_right}

-- ---- a decimal is a part of a path

one_digit : (n : ℕ) → n < 10 → is_digit (48 + n) ≡ true
one_digit n small = grind (arith, nat_tests)

last_digit : (n : ℕ) → is_digit (48 + n % 10) ≡ true
last_digit n = one_digit (n % 10) (omega arith)

all_digits : (n : ℕ) → n < 2 ^ 64 → list_all is_digit (decimal n) ≡ true
all_digits n fits =
    decimal_by_steps (λ k digits. list_all is_digit digits ≡ true) (λ k small. both (is_digit (48 + k)) true (one_digit k small) refl)
    (λ k digits large all. list_all-append is_digit digits ((48 + k % 10) ∷ []) ∙ both (list_all is_digit digits) (list_all is_digit ((48 + k % 10) ∷ [])) all (both (is_digit (48 + k % 10)) true (last_digit k) refl)) n fits

plain_byte : (b : ℕ) → is_digit b ≡ true → is_plain_byte b ≡ true
plain_byte b is = grind (arith, nat_tests)

no_slash : (b : ℕ) → is_digit b ≡ true → (b == 47) ≡ false
no_slash b is = grind (arith, nat_tests)

plain_bytes : (digits : List ℕ) → list_all is_digit digits ≡ true → list_all is_plain_byte digits ≡ true
plain_bytes [] all = refl
plain_bytes (b ∷ digits) all = both (is_plain_byte b) (list_all is_plain_byte digits) (plain_byte b (both_left (is_digit b) (list_all is_digit digits) all)) (plain_bytes digits (both_right (is_digit b) (list_all is_digit digits) all))

one_part : (digits : List ℕ) → list_all is_digit digits ≡ true → parts digits ≡ digits ∷ []
one_part [] all = refl
one_part (b ∷ digits) all =
    ap (λ c. cond c ([] ∷ parts digits) (onto_first b (parts digits))) (no_slash b (both_left (is_digit b) (list_all is_digit digits) all))
    ∙ ap (onto_first b) (one_part digits (both_right (is_digit b) (list_all is_digit digits) all))

not_equal : (a b : List ℕ) → (a ≡ b → ⊥) → bytes_eq a b ≡ false
not_equal a b apart =
    elim (cases_Bool (bytes_eq a b)) [
      | inl is ↦ absurd (apart ((bytes_eq-Decides a b).0 is))
      | inr is ↦ is
    ]

not_dots : (digits dots : List ℕ) → list_all is_digit digits ≡ true → list_all is_digit dots ≡ false → bytes_eq digits dots ≡ false
not_dots digits dots all none = not_equal digits dots (λ same. let e : true ≡ false = sym all ∙ ap (list_all is_digit) same ∙ none in cc)

not_empty : (digits : List ℕ) → 0 < length digits → bytes_eq digits [] ≡ false
not_empty digits long = not_equal digits [] (λ same. let e : length digits ≡ 0 = ap length same in omega arith)

good_part : (digits : List ℕ) → list_all is_digit digits ≡ true → 0 < length digits → is_part digits ≡ true
good_part digits all long =
    both (not (bytes_eq digits []) && not (bytes_eq digits (46 ∷ []))) (not (bytes_eq digits (46 ∷ 46 ∷ [])))
    (both (not (bytes_eq digits [])) (not (bytes_eq digits (46 ∷ []))) (ap not (not_empty digits long)) (ap not (not_dots digits (46 ∷ []) all refl)))
    (ap not (not_dots digits (46 ∷ 46 ∷ []) all refl))

-- ---- the places are paths

good_parts : (n : ℕ) → n < 2 ^ 64 → list_all is_part (parts (decimal n)) ≡ true
good_parts n fits =
    let all = all_digits n fits in
    ap (list_all is_part) (one_part (decimal n) all) ∙ both (is_part (decimal n)) true (good_part (decimal n) all (decimal_nonempty n fits)) refl

few_digits : (n : ℕ) → n < 2 ^ 64 → length (decimal n) ≤ 20
few_digits n fits = length-decimal-le 20 n (omega arith) (omega arith) fits

short_enough : (front digits whole : ℕ) → whole ≡ front + digits → front ≤ 1000 → digits ≤ 20 → nat_le whole 1024 ≡ true
short_enough front digits whole is low few = grind (arith, nat_tests)

plain_by : (path : List ℕ) → list_all is_plain_byte path ≡ true → list_all is_part (parts path) ≡ true → nat_le (length path) 1024 ≡ true → is_plain_path path ≡ true
plain_by path bytes good short =
    both (list_all is_plain_byte path && list_all is_part (parts path)) (nat_le (length path) 1024) (both (list_all is_plain_byte path) (list_all is_part (parts path)) bytes good) short

pub record_plain : (n : ℕ) → n < 2 ^ 64 → is_plain_path (record_path n) ≡ true
record_plain n fits =
    plain_by (record_path n) (plain_bytes (decimal n) (all_digits n fits)) (good_parts n fits)
    (short_enough 25 (length (decimal n)) (length (record_path n)) (length-append (codes ".opam-switch/journal/rec/") (decimal n)) (omega arith) (few_digits n fits))

pub gate_plain : (n : ℕ) → n < 2 ^ 64 → is_plain_path (gate_path n) ≡ true
gate_plain n fits =
    plain_by (gate_path n) (plain_bytes (decimal n) (all_digits n fits)) (good_parts n fits)
    (short_enough 26 (length (decimal n)) (length (gate_path n)) (length-append (codes ".opam-switch/journal/gate/") (decimal n)) (omega arith) (few_digits n fits))
