-- Texts between quotes, one after another.
use Rattle.std.proofs.Common.{◌≡◌, ℕ, suc, ◌+◌, ◌<◌, ◌≤◌, List, [], ◌∷◌, ◌++◌, length, take, drop, Bool, true, false, Some, None, if◌then◌else◌, nat_eq, refl, sym, ◌∙◌, ap, arith, append_assoc, add-one}
use Rattle.std.proofs.lemmas.List.{append-nil}
use Rattle.std.proofs.lemmas.Grind.{common_steps}
use Rattle.opam_top.specs.Spellings.{quoted, quoted_from, onto_first, after_quote, before_quote}

none_by : (is_quote : Bool) (xs : List ℕ) → (after_quote xs ≡ None → quoted xs ≡ []) → (if is_quote then Some xs else after_quote xs) ≡ None → (if is_quote then quoted_from true xs else quoted xs) ≡ []
none_by true xs later is = absurd (cc)
none_by false xs later is = later is

pub quoted-none : (xs : List ℕ) → after_quote xs ≡ None → quoted xs ≡ []
quoted-none [] is = refl
quoted-none (x ∷ xs) is = none_by (nat_eq x 34) xs (quoted-none xs) is

some_by : (is_quote : Bool) (xs ys : List ℕ) → (after_quote xs ≡ Some ys → quoted xs ≡ quoted_from true ys) → (if is_quote then Some xs else after_quote xs) ≡ Some ys → (if is_quote then quoted_from true xs else quoted xs) ≡ quoted_from true ys
some_by true xs ys later is = let e : xs ≡ ys = cc in ap (quoted_from true) e
some_by false xs ys later is = later is

pub quoted-some : (xs ys : List ℕ) → after_quote xs ≡ Some ys → quoted xs ≡ quoted_from true ys
quoted-some [] ys is = absurd (cc)
quoted-some (x ∷ xs) ys is = some_by (nat_eq x 34) xs ys (quoted-some xs ys) is

shorter_by : (is_quote : Bool) (xs ys : List ℕ) → (after_quote xs ≡ Some ys → length ys < length xs) → (if is_quote then Some xs else after_quote xs) ≡ Some ys → length ys < suc (length xs)
shorter_by true xs ys later is = let e : xs ≡ ys = cc in omega (arith, ap length e)
shorter_by false xs ys later is = let e : length ys < length xs = later is in omega arith

pub after_quote-shorter : (xs ys : List ℕ) → after_quote xs ≡ Some ys → length ys < length xs
after_quote-shorter [] ys is = absurd (cc)
after_quote-shorter (x ∷ xs) ys is = shorter_by (nat_eq x 34) xs ys (after_quote-shorter xs ys) is

-- the first text of what stands behind a quote, and what follows its end
abbrev Splits : List ℕ → ℕ → Type 0
Splits xs n = quoted_from true xs ≡ take n xs ∷ quoted (drop (suc n) xs)

split_by : (is_quote : Bool) (x : ℕ) (xs : List ℕ) → Splits xs (before_quote xs) → (if is_quote then [] ∷ quoted xs else onto_first x (quoted_from true xs)) ≡ take (if is_quote then 0 else before_quote xs + 1) (x ∷ xs) ∷ quoted (drop (suc (if is_quote then 0 else before_quote xs + 1)) (x ∷ xs))
split_by true x xs later = refl
split_by false x xs later = rw (later, add-one) refl

pub quoted-inside : (xs : List ℕ) → Splits xs (before_quote xs)
quoted-inside [] = refl
quoted-inside (x ∷ xs) = split_by (nat_eq x 34) x xs (quoted-inside xs)

dropped_all : (n : ℕ) (xs : List ℕ) → length xs ≤ n → drop n xs ≡ []
dropped_all n xs le = grind (arith, common_steps)

-- one more text
pub quoted_more : (texts : List (List ℕ)) (bytes rest after : List ℕ) (n : ℕ) → after_quote rest ≡ Some after → n ≡ before_quote after → texts ++ quoted rest ≡ quoted bytes → (texts ++ take n after ∷ []) ++ quoted (drop (n + 1) after) ≡ quoted bytes
quoted_more texts bytes rest after n found is so_far =
    append_assoc texts (take n after ∷ []) (quoted (drop (n + 1) after))
    ∙ ap (λ (l : List (List ℕ)). texts ++ l) (sym (quoted-some rest after found ∙ quoted-inside after ∙ ap (λ m. take m after ∷ quoted (drop (suc m) after)) (sym is) ∙ ap (λ m. take n after ∷ quoted (drop m after)) (sym (add-one n))))
    ∙ so_far

pub quoted_end : (texts : List (List ℕ)) (bytes rest : List ℕ) → after_quote rest ≡ None → texts ++ quoted rest ≡ quoted bytes → texts ≡ quoted bytes
quoted_end texts bytes rest none so_far = sym (ap (λ (l : List (List ℕ)). texts ++ l) (quoted-none rest none) ∙ append-nil texts) ∙ so_far

pub quoted_step : (texts more : List (List ℕ)) (bytes rest after text later : List ℕ) → after_quote rest ≡ Some after → text ≡ take (before_quote after) after → later ≡ drop (before_quote after + 1) after → more ≡ texts ++ text ∷ [] → texts ++ quoted rest ≡ quoted bytes → more ++ quoted later ≡ quoted bytes
quoted_step texts more bytes rest after text later found is follows grown so_far =
    ap (λ (l : List (List ℕ)). l ++ quoted later) grown
    ∙ ap (λ (t : List ℕ). (texts ++ t ∷ []) ++ quoted later) is
    ∙ ap (λ (l : List ℕ). (texts ++ take (before_quote after) after ∷ []) ++ quoted l) follows
    ∙ quoted_more texts bytes rest after (before_quote after) found refl so_far
