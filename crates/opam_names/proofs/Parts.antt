-- The parts of paths: at a slash, and of two texts around one.
use Rattle.std.proofs.Common.{◌≡◌, ℕ, zero, suc, ◌+◌, ◌-◌, ◌<◌, ◌≤◌, ◌&&◌, Bool, true, false, cond, List, [], ◌∷◌, ◌++◌, length, take, drop, get_or, refl, sym, ap, ◌∙◌, arith, add-one, length-append, length-drop, leb, lit<, lt_irrefl, le_of_suc-le-suc, suc-le-suc, zero-lt-suc}
use Rattle.std.proofs.lemmas.Bool.{and_from}
use Rattle.std.proofs.lemmas.Bool.Decides.{nat_tests}
use Rattle.std.proofs.lemmas.List.Folds.{list_all-append}
use Rattle.std.proofs.lemmas.List.Quantifiers.{position-Some}
use Rattle.std.proofs.lemmas.Iterator.Adapters.{position_from-zero}
use Rattle.std.specs.List.{list_all, position, position_from}
use Rattle.std.proofs.Common.{None, Some}
use Rattle.std.proofs.lemmas.List.{take_rest}
use Rattle.std.proofs.Math.Bool.{and-true}
use Rattle.std.specs.Prelude.{◌==◌}
use Rattle.opam_names.specs.Paths.{parts, onto_first, is_part, is_slash, is_not_zero, is_plain_byte, is_plain_path, joined, IsRelative}
use Rattle.opam_names.proofs.Bytes.{both_left, both_right, plain_no_zero}

-- a text with no slash is one part
none_whole : (xs : List ℕ) (i : ℕ) → position_from is_slash i xs ≡ None → parts xs ≡ xs ∷ []
none_whole [] i h = refl
none_whole (x ∷ xs) i h =
    elim (x == 47) as (λ b. cond b (Some i) (position_from is_slash (i + 1) xs) ≡ None → cond b ([] ∷ parts xs) (onto_first x (parts xs)) ≡ (x ∷ xs) ∷ []) [
      | true ↦ λ e. cc
      | false ↦ λ e. ap (onto_first x) (none_whole xs (i + 1) e)
    ] h

pub parts_whole : (xs : List ℕ) → position is_slash xs ≡ None → parts xs ≡ xs ∷ []
parts_whole xs h = none_whole xs 0 (sym (position_from-zero is_slash xs) ∙ h)

pub split_at : (k : ℕ) (xs : List ℕ) → k < length xs → is_slash (get_or xs k 0) ≡ true → ((i : ℕ) → i < k → is_slash (get_or xs i 0) ≡ false)
    → parts xs ≡ take k xs ∷ parts (drop (suc k) xs)
split_at zero [] l h none = absurd (lt_irrefl 0 l)
split_at (suc k) [] l h none = absurd (omega arith)
split_at zero (x ∷ xs) l h none = ap (λ b. cond b ([] ∷ parts xs) (onto_first x (parts xs))) h
split_at (suc k) (x ∷ xs) l h none =
    let rest : parts xs ≡ take k xs ∷ parts (drop (suc k) xs) = split_at k xs (le_of_suc-le-suc l) h (λ i s. none (suc i) (suc-le-suc s)) in
    ap (λ b. cond b ([] ∷ parts xs) (onto_first x (parts xs))) (none zero (zero-lt-suc k)) ∙ ap (onto_first x) rest

-- a text is the part before its first slash and what stands after it
pub parts_split : (xs : List ℕ) (n : ℕ) → position is_slash xs ≡ Some n → parts xs ≡ take n xs ∷ parts (drop (n + 1) xs)
parts_split xs n h =
    let at = position-Some is_slash xs n 0 h in
    rw add-one (split_at n xs at.0 at.1 at.2)

pub slash_within : (xs : List ℕ) (n : ℕ) → position is_slash xs ≡ Some n → n < length xs
slash_within xs n h = (position-Some is_slash xs n 0 h).0

some_onto : (x : ℕ) (ps : List (List ℕ)) → 0 < length (onto_first x ps)
some_onto x [] = lit< tt
some_onto x (p ∷ ps) = zero-lt-suc _

parts_some : (xs : List ℕ) → 0 < length (parts xs)
parts_some [] = lit< tt
parts_some (x ∷ xs) =
    elim (x == 47) as (λ b. 0 < length (cond b ([] ∷ parts xs) (onto_first x (parts xs)))) [ true ↦ zero-lt-suc _ | false ↦ some_onto x (parts xs) ]

onto_front : (x : ℕ) (ps qs : List (List ℕ)) → 0 < length ps → onto_first x (ps ++ qs) ≡ onto_first x ps ++ qs
onto_front x [] qs l = absurd (lt_irrefl 0 l)
onto_front x (p ∷ ps) qs l = refl

pub parts_joined : (xs ys : List ℕ) → parts (xs ++ 47 ∷ ys) ≡ parts xs ++ parts ys
parts_joined [] ys = refl
parts_joined (x ∷ xs) ys =
    elim (x == 47) as (λ b. cond b ([] ∷ parts (xs ++ 47 ∷ ys)) (onto_first x (parts (xs ++ 47 ∷ ys))) ≡ cond b ([] ∷ parts xs) (onto_first x (parts xs)) ++ parts ys) [
      | true ↦ ap (λ ps. [] ∷ ps) (parts_joined xs ys)
      | false ↦ ap (onto_first x) (parts_joined xs ys) ∙ onto_front x (parts xs) (parts ys) (parts_some xs)
    ]

pub joined_relative : (xs ys : List ℕ) → IsRelative xs → IsRelative ys → length xs + length ys < 1024 → IsRelative (joined xs ys)
joined_relative xs ys a b short = record {
  no_zero = list_all-append is_not_zero xs (47 ∷ ys) ∙ and_from (list_all is_not_zero xs) (list_all is_not_zero ys) a.no_zero b.no_zero;
  good_parts = ap (list_all is_part) (parts_joined xs ys) ∙ list_all-append is_part (parts xs) (parts ys)
      ∙ and_from (list_all is_part (parts xs)) (list_all is_part (parts ys)) a.good_parts b.good_parts;
  short = rw (length-append xs (47 ∷ ys)) (omega arith);
}

pub plain_relative : (xs : List ℕ) → is_plain_path xs ≡ true → IsRelative xs
plain_relative xs h =
    record {
      no_zero = plain_no_zero xs (both_left (list_all is_plain_byte xs) (list_all is_part (parts xs)) (both_left (list_all is_plain_byte xs && list_all is_part (parts xs)) (leb (length xs) 1024) h));
      good_parts = both_right (list_all is_plain_byte xs) (list_all is_part (parts xs)) (both_left (list_all is_plain_byte xs && list_all is_part (parts xs)) (leb (length xs) 1024) h);
      short = grind (arith, nat_tests, both_right (list_all is_plain_byte xs && list_all is_part (parts xs)) (leb (length xs) 1024) h);
    }

pub good_rest : (xs : List ℕ) (n : ℕ) (b : Bool) → position is_slash xs ≡ Some n → true ≡ is_part (take n xs) → list_all is_part (parts xs) ≡ b
    → list_all is_part (parts (take (length xs - (n + 1)) (drop (n + 1) xs))) ≡ b
good_rest xs n b h good all =
    rw take_rest (ap (λ v. v && list_all is_part (parts (drop (n + 1) xs))) good ∙ sym (ap (list_all is_part) (parts_split xs n h)) ∙ all)

pub bad_part : (xs : List ℕ) (n : ℕ) (b : Bool) → position is_slash xs ≡ Some n → false ≡ is_part (take n xs) → list_all is_part (parts xs) ≡ b → false ≡ b
bad_part xs n b h bad all =
    ap (λ v. v && list_all is_part (parts (drop (n + 1) xs))) bad ∙ sym (ap (list_all is_part) (parts_split xs n h)) ∙ all

pub last_part : (xs : List ℕ) (b : Bool) → position is_slash xs ≡ None → list_all is_part (parts xs) ≡ b → is_part xs ≡ b
last_part xs b h all = sym (and-true (is_part xs)) ∙ sym (ap (list_all is_part) (parts_whole xs h)) ∙ all

pub rest_short : (xs : List ℕ) (n : ℕ) → length xs ≤ 1024 → length (take (length xs - n) (drop n xs)) ≤ 1024
rest_short xs n h = rw (take_rest, length-drop) (omega arith)
