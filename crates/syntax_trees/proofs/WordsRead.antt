-- How words are read.
use Rattle.std.proofs.Common.{◌≡◌, ℕ, zero, suc, ◌+◌, ◌*◌, ◌-◌, ◌/◌, ◌^◌, ◌<◌, ◌≤◌, Bool, true, false, not, ◌&&◌, ◌||◌, ◌==◌, cond, List, [], ◌∷◌, ◌++◌, length, take, drop, get_or, if◌then◌else◌, refl, sym, ap, ◌∙◌, arith, add-one, drop-cons, append_assoc, lit<}
use Rattle.std.specs.Prelude.{nat_le}
use Rattle.std.specs.List.{list_all, list_any, slice_split}
use Rattle.std.specs.List as list
use Rattle.std.specs.Str.{IsAscii}
use Rattle.std.proofs.lemmas.Bool.Decides.{nat_tests}
use Rattle.std.proofs.lemmas.List.{take_more}
use Rattle.std.proofs.Math.ListN.{length-take, drop_of_length-le}
use Rattle.std.specs.declared.option.Option.TheVariants.{None, Some}
use Rattle.opam_names.specs.Names.{is_digit}
use Rattle.opam_names.specs.Orders.{number, number_after}
use Rattle.opam_names.specs.Paths.{onto_first}
use Rattle.syntax_trees.specs.Lexed.{is_colon, is_plus, small_number}
use Rattle.syntax_trees.specs.Words.{is_word_byte, joins, word_of, are_digits, before, after, scope_parts}
use Rattle.syntax_trees.proofs.WordsAgain.{skip, enter, other_byte}

pub drop_step : (xs : List ℕ) (i : ℕ) → i < length xs → drop i xs ≡ get_or xs i 0 ∷ drop (i + 1) xs
drop_step xs i l = rw (add-one, drop-cons xs i 0)

-- one more element stands before the others
pub grow : (xs ys w : List ℕ) (i : ℕ) → i < length xs → ys ≡ take i xs ++ get_or xs i 0 ∷ w → ys ≡ take (i + 1) xs ++ w
grow xs ys w i l e = e ∙ sym (append_assoc (take i xs) (get_or xs i 0 ∷ []) w) ∙ sym (ap (λ f. f ++ w) (take_more xs i 0 l))

and_true : (x : Bool) → (x && true) ≡ x
and_true true = refl
and_true false = refl

or_true : (x : Bool) → (x || true) ≡ true
or_true true = refl
or_true false = refl

word_cons : (joining : Bool) (b : ℕ) (rest : List ℕ) → is_word_byte b ≡ true → word_of joining (b ∷ rest) ≡ b ∷ word_of joining rest
word_cons joining b rest h =
    enter _ _ _ (ap (λ x. x || (joining && joins b rest)) h)
    ∙ ap (λ j. b ∷ word_of j rest) (ap (λ x. joining && not x) (other_byte is_word_byte b 58 h refl) ∙ and_true joining)

join_cons : (b : ℕ) (rest : List ℕ) → joins b rest ≡ true → word_of true (b ∷ rest) ≡ b ∷ word_of (not (b == 58)) rest
join_cons b rest h = enter _ _ _ (ap (λ x. is_word_byte b || x) h ∙ or_true (is_word_byte b))

word_stop : (joining : Bool) (b : ℕ) (rest : List ℕ) → is_word_byte b ≡ false → (joining && joins b rest) ≡ false → word_of joining (b ∷ rest) ≡ []
word_stop joining b rest h k = skip _ _ _ (ap (λ x. x || (joining && joins b rest)) h ∙ k)

-- the word so far, and what goes on with it
pub word_goes_on : (xs : List ℕ) (i : ℕ) (joining : Bool) → i < length xs → is_word_byte (get_or xs i 0) ≡ true
    → word_of true xs ≡ take i xs ++ word_of joining (drop i xs) → word_of true xs ≡ take (i + 1) xs ++ word_of joining (drop (i + 1) xs)
word_goes_on xs i joining l h e =
    grow xs (word_of true xs) (word_of joining (drop (i + 1) xs)) i l
    (e ∙ ap (λ w. take i xs ++ w) (ap (word_of joining) (drop_step xs i l) ∙ word_cons joining (get_or xs i 0) (drop (i + 1) xs) h))

pub word_joins : (xs : List ℕ) (i : ℕ) → i < length xs → joins (get_or xs i 0) (drop (i + 1) xs) ≡ true
    → word_of true xs ≡ take i xs ++ word_of true (drop i xs) → word_of true xs ≡ take (i + 1) xs ++ word_of (not (get_or xs i 0 == 58)) (drop (i + 1) xs)
word_joins xs i l h e =
    grow xs (word_of true xs) (word_of (not (get_or xs i 0 == 58)) (drop (i + 1) xs)) i l
    (e ∙ ap (λ w. take i xs ++ w) (ap (word_of true) (drop_step xs i l) ∙ join_cons (get_or xs i 0) (drop (i + 1) xs) h))

pub append_nil : (xs : List ℕ) → xs ++ [] ≡ xs
append_nil [] = refl
append_nil (x ∷ xs) = ap (λ l. x ∷ l) (append_nil xs)

pub word_ends : (xs : List ℕ) (i : ℕ) (joining : Bool) → i < length xs → is_word_byte (get_or xs i 0) ≡ false
    → (joining && joins (get_or xs i 0) (drop (i + 1) xs)) ≡ false
    → word_of true xs ≡ take i xs ++ word_of joining (drop i xs) → take i xs ≡ word_of true xs
word_ends xs i joining l h k e =
    sym (e ∙ ap (λ w. take i xs ++ w) (ap (word_of joining) (drop_step xs i l) ∙ word_stop joining (get_or xs i 0) (drop (i + 1) xs) h k) ∙ append_nil (take i xs))

pub word_length : (xs ys : List ℕ) (i : ℕ) → i ≤ length xs → take i xs ≡ ys → i ≡ length ys
word_length xs ys i l e = omega (arith, simp length-take at (ap length e))

-- the bytes of a word are of ASCII
ascii_more : (b : ℕ) (w : List ℕ) → b < 128 → IsAscii w → IsAscii (b ∷ w)
ascii_more b w l h zero = l
ascii_more b w l h (suc i) = h i

byte_low : (b : ℕ) (joining : Bool) (rest : List ℕ) → (is_word_byte b || (joining && joins b rest)) ≡ true → b < 128
byte_low b joining rest h = grind (arith, nat_tests)

ascii_if : (c : Bool) (b : ℕ) (w : List ℕ) → (c ≡ true → b < 128) → IsAscii w → IsAscii (if c then b ∷ w else [])
ascii_if true b w l h = ascii_more b w (l refl) h
ascii_if false b w l h = λ i. lit< tt

pub word_is_ascii : (joining : Bool) (bytes : List ℕ) → IsAscii (word_of joining bytes)
word_is_ascii joining [] = λ i. lit< tt
word_is_ascii joining (b ∷ bytes) =
    ascii_if (is_word_byte b || (joining && joins b bytes)) b (word_of (joining && not (b == 58)) bytes) (byte_low b joining bytes)
    (word_is_ascii (joining && not (b == 58)) bytes)

-- parts, as the library cuts them
same_onto : (b : ℕ) (parts : List (List ℕ)) → list.onto_first b parts ≡ onto_first b parts
same_onto b [] = refl
same_onto b (part ∷ more) = refl

pub cut_at_plus : (scope : List ℕ) → slice_split is_plus scope ≡ scope_parts scope
cut_at_plus [] = refl
cut_at_plus (b ∷ bytes) =
    ap (λ parts. cond (is_plus b) ([] ∷ parts) (list.onto_first b parts)) (cut_at_plus bytes)
    ∙ ap (λ parts. cond (is_plus b) ([] ∷ scope_parts bytes) parts) (same_onto b (scope_parts bytes))

-- the number that digits write
pub digit_step : (xs : List ℕ) (i n : ℕ) → i < length xs → number_after n (drop i xs) ≡ number xs
    → number_after (10 * n + (get_or xs i 0 - 48)) (drop (i + 1) xs) ≡ number xs
digit_step xs i n l e = sym (ap (number_after n) (drop_step xs i l)) ∙ e

pub digits_step : (xs : List ℕ) (i : ℕ) → i < length xs → is_digit (get_or xs i 0) ≡ true → list_all is_digit (drop i xs) ≡ list_all is_digit xs
    → list_all is_digit (drop (i + 1) xs) ≡ list_all is_digit xs
digits_step xs i l h e = sym (ap (λ x. x && list_all is_digit (drop (i + 1) xs)) h) ∙ sym (ap (list_all is_digit) (drop_step xs i l)) ∙ e

number_grows : (n : ℕ) (digits : List ℕ) → n ≤ number_after n digits
number_grows n [] = omega arith
number_grows n (d ∷ digits) = omega (arith, number_grows (10 * n + (d - 48)) digits)

are_not_digits : (xs : List ℕ) → list_all is_digit xs ≡ false → are_digits xs ≡ false
are_not_digits [] h = refl
are_not_digits (x ∷ xs) h = h

pub no_digit : (xs : List ℕ) (i : ℕ) → i < length xs → is_digit (get_or xs i 0) ≡ false → list_all is_digit (drop i xs) ≡ list_all is_digit xs → small_number xs ≡ None
no_digit xs i l h e =
    let bad : list_all is_digit xs ≡ false = sym e ∙ ap (list_all is_digit) (drop_step xs i l) ∙ ap (λ x. x && list_all is_digit (drop (i + 1) xs)) h in
    skip _ _ _ (ap (λ x. x && nat_le (number xs) (2 ^ 63)) (are_not_digits xs bad))

and_false : (x : Bool) → (x && false) ≡ false
and_false true = refl
and_false false = refl

pub too_large : (xs rest : List ℕ) (n : ℕ) → 2 ^ 63 < n → number_after n rest ≡ number xs → small_number xs ≡ None
too_large xs rest n l e =
    let above : 2 ^ 63 < number xs = omega (arith, number_grows n rest) in
    let large : nat_le (number xs) (2 ^ 63) ≡ false = grind (arith, nat_tests) in
    skip _ _ _ (ap (λ x. are_digits xs && x) large ∙ and_false (are_digits xs))

pub all_digits : (xs : List ℕ) (n : ℕ) → 0 < length xs → list_all is_digit xs ≡ true → n ≤ 2 ^ 63 → n ≡ number xs → small_number xs ≡ Some n
all_digits [] n l h k e = absurd (omega arith)
all_digits (x ∷ xs) n l h k e =
    let small : nat_le (number (x ∷ xs)) (2 ^ 63) ≡ true = grind (arith, nat_tests) in
    enter _ _ _ (ap (λ t. t && nat_le (number (x ∷ xs)) (2 ^ 63)) h ∙ small) ∙ ap (λ m. Some m) (sym e)

pub much_too_large : (xs : List ℕ) (i n : ℕ) → i < length xs → 2 ^ 63 / 10 < n → number_after n (drop i xs) ≡ number xs → small_number xs ≡ None
much_too_large xs i n l h e = too_large xs (drop (i + 1) xs) (10 * n + (get_or xs i 0 - 48)) (omega arith) (digit_step xs i n l e)

-- what stands before and after a colon, as far as it was sought
pub record Sought (xs : List ℕ) (i : ℕ) : Type 0 where
  pub any : list_any is_colon xs ≡ list_any is_colon (drop i xs)
  pub front : before 58 xs ≡ take i xs ++ before 58 (drop i xs)
  pub back : after 58 xs ≡ after 58 (drop i xs)

pub sought_first : (xs : List ℕ) → Sought xs 0
sought_first xs = record { any = refl; front = refl; back = refl }

pub sought_next : (xs : List ℕ) (i : ℕ) → i < length xs → is_colon (get_or xs i 0) ≡ false → Sought xs i → Sought xs (i + 1)
sought_next xs i l h s =
    let b = get_or xs i 0 in
    let rest = drop (i + 1) xs in
    record {
      any = s.any ∙ ap (list_any is_colon) (drop_step xs i l) ∙ ap (λ x. x || list_any is_colon rest) h;
      front = grow xs (before 58 xs) (before 58 rest) i l (s.front ∙ ap (λ w. take i xs ++ w) (ap (before 58) (drop_step xs i l) ∙ skip _ _ _ h));
      back = s.back ∙ ap (after 58) (drop_step xs i l) ∙ skip _ _ _ h;
    }

-- it is found
pub record Found (xs : List ℕ) (i : ℕ) : Type 0 where
  pub any : list_any is_colon xs ≡ true
  pub front : take i xs ≡ before 58 xs
  pub back : drop (i + 1) xs ≡ after 58 xs

pub sought_found : (xs : List ℕ) (i : ℕ) → i < length xs → is_colon (get_or xs i 0) ≡ true → Sought xs i → Found xs i
sought_found xs i l h s = record {
  any = s.any ∙ ap (list_any is_colon) (drop_step xs i l) ∙ ap (λ x. x || list_any is_colon (drop (i + 1) xs)) h;
  front = sym (s.front ∙ ap (λ w. take i xs ++ w) (ap (before 58) (drop_step xs i l) ∙ enter _ _ _ h) ∙ append_nil (take i xs));
  back = sym (s.back ∙ ap (after 58) (drop_step xs i l) ∙ enter _ _ _ h);
}

pub sought_none : (xs : List ℕ) (i : ℕ) → length xs ≤ i → Sought xs i → list_any is_colon xs ≡ false
sought_none xs i l s = s.any ∙ ap (list_any is_colon) (drop_of_length-le xs l)

pub some_digits : (xs : List ℕ) (n : ℕ) → number_after n [] ≡ number xs → list_all is_digit [] ≡ list_all is_digit xs → 0 < length xs → n ≤ 2 ^ 63 → small_number xs ≡ Some n
some_digits xs n e k l h = all_digits xs n l (sym k) h e
