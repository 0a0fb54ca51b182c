-- The digits of a number read back as that number.
use Rattle.std.proofs.Common.{◌≡◌, ℕ, ℤ, pos, suc, ◌+◌, ◌*◌, ◌-◌, ◌/◌, ◌%◌, ◌^◌, ◌<◌, ◌≤◌, Bool, true, false, ◌&&◌, ◌||◌, List, [], ◌∷◌, ◌++◌, refl, ap, ◌∙◌, arith}
use Rattle.std.specs.Prelude.{codes, negsuc, neg_ℤ, nat_lt, nat_le, bytes_eq}
use Rattle.std.specs.Fmt.{decimal, signed_decimal}
use Rattle.std.specs.List.{list_all}
use Rattle.std.proofs.lemmas.Bool.Decides.{nat_tests}
use Rattle.std.proofs.lemmas.Fmt.{decimal_by_steps}
use Rattle.std.specs.declared.option.Option.TheVariants.{Some}
use Rattle.opam_names.specs.Names.{is_digit}
use Rattle.opam_names.specs.Orders.{number, number_after}
use Rattle.opam_names.proofs.Bytes.{both_left, both_right}
use Rattle.syntax_trees.specs.declared.token.Token.TheVariants.{Int}
use Rattle.syntax_trees.specs.Words.{is_word_byte, joins, word_of, are_digits, int_of, int_or_identifier}
use Rattle.syntax_trees.proofs.WordsAgain.{Reads, skip, enter, other_byte}
use Rattle.syntax_trees.proofs.Spanned.{both}

-- the integers that a file may have
abbrev pub InRange : ℤ → Type 0
InRange (pos n) = n < 2 ^ 63
InRange (negsuc n) = n < 2 ^ 63

-- digits that write a number
record Writes (n : ℕ) (digits : List ℕ) : Type 0 where
  some : are_digits digits ≡ true
  value : number digits ≡ n

number_push : (n d : ℕ) (digits : List ℕ) → number_after n (digits ++ d ∷ []) ≡ 10 * number_after n digits + (d - 48)
number_push n d [] = refl
number_push n d (e ∷ digits) = number_push (10 * n + (e - 48)) d digits

all_push : (d : ℕ) (digits : List ℕ) → list_all is_digit digits ≡ true → is_digit d ≡ true → list_all is_digit (digits ++ d ∷ []) ≡ true
all_push d [] h k = both (is_digit d) true k refl
all_push d (e ∷ digits) h k =
    both (is_digit e) (list_all is_digit (digits ++ d ∷ [])) (both_left (is_digit e) (list_all is_digit digits) h)
    (all_push d digits (both_right (is_digit e) (list_all is_digit digits) h) k)

digits_push : (d : ℕ) (digits : List ℕ) → are_digits digits ≡ true → is_digit d ≡ true → are_digits (digits ++ d ∷ []) ≡ true
digits_push d [] h k = absurd cc
digits_push d (e ∷ digits) h k = all_push d (e ∷ digits) h k

digit_of : (n : ℕ) → n < 10 → is_digit (48 + n) ≡ true
digit_of n l = grind (arith, nat_tests)

one_digit : (n : ℕ) → n < 10 → Writes n ((48 + n) ∷ [])
one_digit n l = record { some = both (is_digit (48 + n)) true (digit_of n l) refl; value = omega arith }

more_digits : (n : ℕ) (digits : List ℕ) → 10 ≤ n → Writes (n / 10) digits → Writes n (digits ++ (48 + n % 10) ∷ [])
more_digits n digits l w =
    let v = w.value in
    let p = number_push 0 (48 + n % 10) digits in
    record { some = digits_push (48 + n % 10) digits w.some (digit_of (n % 10) (omega arith)); value = omega arith }

decimal_writes : (n : ℕ) → n < 2 ^ 64 → Writes n (decimal n)
decimal_writes = decimal_by_steps Writes one_digit more_digits

word_digit : (d : ℕ) → is_digit d ≡ true → is_word_byte d ≡ true
word_digit d h = grind (arith, nat_tests)

digits_whole : (digits : List ℕ) → list_all is_digit digits ≡ true → (joining : Bool) → word_of joining digits ≡ digits
digits_whole [] h joining = refl
digits_whole (d ∷ digits) h joining =
    enter _ _ _ (ap (λ x. x || (joining && joins d digits)) (word_digit d (both_left (is_digit d) (list_all is_digit digits) h)))
    ∙ ap (λ w. d ∷ w) (digits_whole digits (both_right (is_digit d) (list_all is_digit digits) h) _)

no_letter : (b c : ℕ) (word more : List ℕ) → is_digit b ≡ true → is_digit c ≡ false → bytes_eq (b ∷ word) (c ∷ more) ≡ false
no_letter b c word more h k = ap (λ x. x && bytes_eq word more) (other_byte is_digit b c h k)

natural_reads : (n : ℕ) (digits : List ℕ) → n < 2 ^ 63 → Writes n digits → Reads digits (Int (pos n))
natural_reads n [] l w = absurd (let h = w.some in cc)
natural_reads n (d ∷ digits) l w =
    let first_is : is_digit d ≡ true = both_left (is_digit d) (list_all is_digit digits) w.some in
    let value = w.value in
    let small : nat_lt (number (d ∷ digits)) (2 ^ 63) ≡ true = grind (arith, nat_tests) in
    let read : int_of (d ∷ digits) ≡ Some (pos (number (d ∷ digits))) =
    skip _ _ _ (other_byte is_digit d 45 first_is refl) ∙ enter _ _ _ (both (are_digits (d ∷ digits)) (nat_lt (number (d ∷ digits)) (2 ^ 63)) w.some small) in
    record {
      begins = word_digit d first_is;
      whole = digits_whole (d ∷ digits) w.some true;
      means = skip _ _ _ (no_letter d 116 digits (codes "rue") first_is refl) ∙ skip _ _ _ (no_letter d 102 digits (codes "alse") first_is refl)
          ∙ ap (λ o. int_or_identifier o (d ∷ digits)) (read ∙ ap (λ m. Some (pos m)) value);
    }

negative_reads : (n : ℕ) (digits : List ℕ) → n < 2 ^ 63 → Writes (suc n) digits → Reads (45 ∷ digits) (Int (negsuc n))
negative_reads n [] l w = absurd (let h = w.some in cc)
negative_reads n (d ∷ digits) l w =
    let value = w.value in
    let small : nat_le (number (d ∷ digits)) (2 ^ 63) ≡ true = grind (arith, nat_tests) in
    let read : int_of (45 ∷ d ∷ digits) ≡ Some (negsuc n) =
    enter _ _ _ (both (are_digits (d ∷ digits)) (nat_le (number (d ∷ digits)) (2 ^ 63)) w.some small) ∙ ap (λ m. Some (neg_ℤ (pos m))) value in
    record {
      begins = refl;
      whole = ap (λ w. 45 ∷ w) (digits_whole (d ∷ digits) w.some true);
      means = ap (λ o. int_or_identifier o (45 ∷ d ∷ digits)) read;
    }

pub integer_reads : (n : ℤ) → InRange n → Reads (signed_decimal n) (Int n)
integer_reads (pos n) l = natural_reads n (decimal n) l (decimal_writes n (omega arith))
integer_reads (negsuc n) l = negative_reads n (decimal (suc n)) l (decimal_writes (suc n) (omega arith))
