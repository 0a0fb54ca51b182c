-- The name of an install text is a path.
use Rattle.std.proofs.Common.{◌≡◌, inl, inr, ℕ, ◌+◌, ◌<◌, ◌≤◌, true, false, List, [], ◌∷◌, ◌++◌, length, cond, refl, ap, ◌∙◌, arith, length-append}
use Rattle.std.specs.Prelude.{bytes_eq, codes, nat_le, not, ◌&&◌, ◌==◌}
use Rattle.std.specs.List.{list_all}
use Rattle.std.proofs.lemmas.Bool.{cases_Bool}
use Rattle.std.proofs.lemmas.Bool.Decides.{nat_tests}
use Rattle.std.proofs.lemmas.List.Folds.{list_all-append}
use Rattle.std.proofs.lemmas.Slice.Eq.{bytes_eq-Decides}
use Rattle.std.proofs.Math.Bool.{and-true}
use Rattle.opam_names.specs.Names.{IsName, is_name_byte}
use Rattle.opam_names.specs.Paths.{is_part, is_plain_byte, is_plain_path, onto_first, parts}
use Rattle.change_verdict.proofs.Tests.{both, both_left, both_right}

abbrev suffix : List ℕ
suffix = codes ".install"

plain_byte : (b : ℕ) → is_name_byte b ≡ true → is_plain_byte b ≡ true
plain_byte b is = grind (arith, nat_tests)

no_slash : (b : ℕ) → is_name_byte b ≡ true → (b == 47) ≡ false
no_slash b is = grind (arith, nat_tests)

plain_bytes : (name : List ℕ) → list_all is_name_byte name ≡ true → list_all is_plain_byte name ≡ true
plain_bytes [] is = refl
plain_bytes (b ∷ name) is = both (is_plain_byte b) (list_all is_plain_byte name) (plain_byte b (both_left (is_name_byte b) (list_all is_name_byte name) is)) (plain_bytes name (both_right (is_name_byte b) (list_all is_name_byte name) is))

-- it is one part
one_part : (name : List ℕ) → list_all is_name_byte name ≡ true → parts (name ++ suffix) ≡ (name ++ suffix) ∷ []
one_part [] is = refl
one_part (b ∷ name) is =
    ap (λ c. cond c ([] ∷ parts (name ++ suffix)) (onto_first b (parts (name ++ suffix)))) (no_slash b (both_left (is_name_byte b) (list_all is_name_byte name) is))
    ∙ ap (onto_first b) (one_part name (both_right (is_name_byte b) (list_all is_name_byte name) is))

-- a text with more than two bytes is no `.` and no `..`
not_short : (text dots : List ℕ) → length dots ≤ 2 → 2 < length text → not (bytes_eq text dots) ≡ true
not_short text dots short long =
    elim (cases_Bool (bytes_eq text dots)) [
      | inl is ↦ absurd (omega (arith, ap length ((bytes_eq-Decides text dots).0 is)))
      | inr is ↦ ap not is
    ]

good_part : (text : List ℕ) → 2 < length text → is_part text ≡ true
good_part text long =
    both (not (bytes_eq text []) && not (bytes_eq text (46 ∷ []))) (not (bytes_eq text (46 ∷ 46 ∷ [])))
    (both (not (bytes_eq text [])) (not (bytes_eq text (46 ∷ []))) (not_short text [] (omega arith) long) (not_short text (46 ∷ []) (omega arith) long))
    (not_short text (46 ∷ 46 ∷ []) (omega arith) long)

long_enough : (name : List ℕ) → length (name ++ suffix) ≡ length name + 8
long_enough name = length-append name suffix

short_enough : (n m : ℕ) → m ≡ n + 8 → n ≤ 120 → nat_le m 1024 ≡ true
short_enough n m is short = grind (arith, nat_tests)

pub install_plain : (name text : List ℕ) → IsName name → text ≡ name ++ suffix → is_plain_path text ≡ true
install_plain name text is same =
    let bytes = list_all-append is_plain_byte name suffix ∙ both (list_all is_plain_byte name) (list_all is_plain_byte suffix) (plain_bytes name is.all) refl in
    let part = ap (list_all is_part) (one_part name is.all) ∙ and-true (is_part (name ++ suffix)) ∙ good_part (name ++ suffix) (omega (arith, long_enough name)) in
    let short = short_enough (length name) (length (name ++ suffix)) (long_enough name) is.short in
    ap is_plain_path same
    ∙ both (list_all is_plain_byte (name ++ suffix) && list_all is_part (parts (name ++ suffix))) (nat_le (length (name ++ suffix)) 1024)
    (both (list_all is_plain_byte (name ++ suffix)) (list_all is_part (parts (name ++ suffix))) bytes part) short

pub install_name_plain : (name slice text : List ℕ) → IsName name → slice ≡ name → text ≡ slice ++ suffix → is_plain_path text ≡ true
install_name_plain name slice text is same follows = install_plain name text is (follows ∙ ap (λ (l : List ℕ). l ++ suffix) same)
