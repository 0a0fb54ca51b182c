-- The parts of a text at a slash, and the path that grows by them.
use Rattle.std.proofs.Common.{◌≡◌, ℕ, zero, suc, ◌+◌, ◌-◌, ◌<◌, ◌≤◌, ◌==◌, true, false, cond, List, [], ◌∷◌, length, take, drop, get_or, fold, refl, sym, ap, ◌∙◌, arith, add-one, length-drop, lt_irrefl, le_of_suc-le-suc, suc-le-suc, zero-lt-suc, None, Some}
use Rattle.std.proofs.lemmas.List.Quantifiers.{position-Some}
use Rattle.std.proofs.lemmas.Iterator.Adapters.{position_from-zero}
use Rattle.std.proofs.lemmas.List.{take_rest}
use Rattle.std.specs.List.{position, position_from}
use Rattle.opam_names.specs.Paths.{parts, onto_first, is_slash}
use Rattle.install_sections.specs.PathGrowth.{with_part}

-- a text with no slash is one part
none_whole : (xs : List ℕ) (i : ℕ) → position_from is_slash i xs ≡ None → parts xs ≡ xs ∷ []
none_whole [] i h = refl
none_whole (x ∷ xs) i h =
    elim (x == 47) as (λ b. cond b (Some i) (position_from is_slash (i + 1) xs) ≡ None → cond b ([] ∷ parts xs) (onto_first x (parts xs)) ≡ (x ∷ xs) ∷ []) [
      | true ↦ λ e. cc
      | false ↦ λ e. ap (onto_first x) (none_whole xs (i + 1) e)
    ] h

pub parts_whole : (xs : List ℕ) → position is_slash xs ≡ None → parts xs ≡ xs ∷ []
parts_whole xs h = none_whole xs 0 (sym (position_from-zero is_slash xs) ∙ h)

split_at : (k : ℕ) (xs : List ℕ) → k < length xs → is_slash (get_or xs k 0) ≡ true → ((i : ℕ) → i < k → is_slash (get_or xs i 0) ≡ false)
    → parts xs ≡ take k xs ∷ parts (drop (suc k) xs)
split_at zero [] l h none = absurd (lt_irrefl 0 l)
split_at (suc k) [] l h none = absurd (omega arith)
split_at zero (x ∷ xs) l h none = ap (λ b. cond b ([] ∷ parts xs) (onto_first x (parts xs))) h
split_at (suc k) (x ∷ xs) l h none =
    let rest : parts xs ≡ take k xs ∷ parts (drop (suc k) xs) = split_at k xs (le_of_suc-le-suc l) h (λ i s. none (suc i) (suc-le-suc s)) in
    ap (λ b. cond b ([] ∷ parts xs) (onto_first x (parts xs))) (none zero (zero-lt-suc k)) ∙ ap (onto_first x) rest

-- a text is the part before its first slash and what stands after it
pub parts_split : (xs : List ℕ) (n : ℕ) → position is_slash xs ≡ Some n → parts xs ≡ take n xs ∷ parts (drop (n + 1) xs)
parts_split xs n h =
    let at = position-Some is_slash xs n 0 h in
    rw add-one (split_at n xs at.0 at.1 at.2)

-- the path grows by the next part
pub next_part : (path new whole xs : List ℕ) (n : ℕ) → position is_slash xs ≡ Some n → new ≡ with_part path (take n xs)
    → fold with_part path (parts xs) ≡ whole → fold with_part new (parts (take (length xs - (n + 1)) (drop (n + 1) xs))) ≡ whole
next_part path new whole xs n at grown all =
    rw take_rest (ap (λ p. fold with_part p (parts (drop (n + 1) xs))) grown ∙ sym (ap (fold with_part path) (parts_split xs n at)) ∙ all)

-- and by the last one
pub last_grown : (path new whole xs : List ℕ) → position is_slash xs ≡ None → new ≡ with_part path xs → fold with_part path (parts xs) ≡ whole → new ≡ whole
last_grown path new whole xs none grown all = grown ∙ sym (ap (fold with_part path) (parts_whole xs none)) ∙ all

pub rest_short : (xs : List ℕ) (n : ℕ) → length xs ≤ 1024 → length (take (length xs - n) (drop n xs)) ≤ 1024
rest_short xs n h = rw (take_rest, length-drop) (omega arith)
