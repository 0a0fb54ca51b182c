-- Files in the order of their paths.
use Rattle.std.proofs.Common.{◌≡◌, ℕ, suc, ◌+◌, List, [], ◌∷◌, ◌++◌, take, drop, length, Bool, true, false, refl, sym, ◌∙◌, ap, add-one}
use Rattle.std.specs.Prelude.{◌&&◌, if◌then◌else◌}
use Rattle.std.specs.List.{insert, list_all}
use Rattle.opam_top.specs.Placements.{in_byte_order, is_before, place_of, put_all, put_in}
use Rattle.opam_top.specs.declared.records.Placed.{Placed}

-- the last of those left is put in first
pub put_last : (left order : List Placed) (file : Placed) → put_all (left ++ file ∷ []) order ≡ put_all left (put_in file order)
put_last [] order file = refl
put_last (first ∷ left) order file = ap (put_in first) (put_last left order file)

put_by : (before : Bool) (file other : Placed) (files : List Placed) → put_in file files ≡ take (place_of file.path files) files ++ file ∷ drop (place_of file.path files) files
    → (if before then other ∷ put_in file files else file ∷ other ∷ files) ≡ take (if before then place_of file.path files + 1 else 0) (other ∷ files) ++ file ∷ drop (if before then place_of file.path files + 1 else 0) (other ∷ files)
put_by true file other files later = rw (add-one) (ap (λ (l : List Placed). other ∷ l) later)
put_by false file other files later = refl

-- a file is put in at its place
pub put_at_place : (file : Placed) (files : List Placed) → put_in file files ≡ insert files (place_of file.path files) file
put_at_place file [] = refl
put_at_place file (other ∷ files) = put_by (is_before other.path file.path) file other files (put_at_place file files)

-- one more file
pub order_more : (left before order grown all : List Placed) (file : Placed) (place : ℕ) → before ≡ left ++ file ∷ [] → place ≡ place_of file.path order → grown ≡ insert order place file
    → put_all before order ≡ all → put_all left grown ≡ all
order_more left before order grown all file place last at is so_far =
    ap (put_all left) (is ∙ ap (λ n. insert order n file) at ∙ sym (put_at_place file order))
    ∙ sym (put_last left order file) ∙ ap (λ (l : List Placed). put_all l order) (sym last) ∙ so_far

-- what holds of all files holds of them in order
and_swap : (a b c : Bool) → (a && (b && c)) ≡ (b && (a && c))
and_swap true true c = refl
and_swap true false c = refl
and_swap false true c = refl
and_swap false false c = refl

kept_by : (before : Bool) (test : Placed → Bool) (file other : Placed) (files : List Placed) → list_all test (put_in file files) ≡ (test file && list_all test files)
    → list_all test (if before then other ∷ put_in file files else file ∷ other ∷ files) ≡ (test file && (test other && list_all test files))
kept_by true test file other files later = ap (λ b. test other && b) later ∙ and_swap (test other) (test file) (list_all test files)
kept_by false test file other files later = refl

put_keeps : (test : Placed → Bool) (file : Placed) (files : List Placed) → list_all test (put_in file files) ≡ (test file && list_all test files)
put_keeps test file [] = refl
put_keeps test file (other ∷ files) = kept_by (is_before other.path file.path) test file other files (put_keeps test file files)

pub order_keeps : (test : Placed → Bool) (files : List Placed) → list_all test (in_byte_order files) ≡ list_all test files
order_keeps test [] = refl
order_keeps test (file ∷ files) = put_keeps test file (in_byte_order files) ∙ ap (λ b. test file && b) (order_keeps test files)

longer_by : (before : Bool) (file other : Placed) (files : List Placed) → length (put_in file files) ≡ suc (length files)
    → length (if before then other ∷ put_in file files else file ∷ other ∷ files) ≡ suc (suc (length files))
longer_by true file other files later = ap suc later
longer_by false file other files later = refl

put_longer : (file : Placed) (files : List Placed) → length (put_in file files) ≡ suc (length files)
put_longer file [] = refl
put_longer file (other ∷ files) = longer_by (is_before other.path file.path) file other files (put_longer file files)

pub order_length : (files : List Placed) → length (in_byte_order files) ≡ length files
order_length [] = refl
order_length (file ∷ files) = put_longer file (in_byte_order files) ∙ ap suc (order_length files)
