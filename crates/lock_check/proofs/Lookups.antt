-- The first element that passes a test is the one at its place.
use Rattle.std.proofs.Common.{◌≡◌, ℕ, ◌<◌, ◌≤◌, List, length, get_or, ltb, Bor, inl, inr, ◌⊎◌, Bool, true, false, cond, refl, sym, ◌∙◌, ap, arith, ⊎_elim}
use Rattle.std.specs.Prelude.{find, nat_lt}
use Rattle.std.specs.List.{position, position_or_len, slice_get}
use Rattle.std.specs.Option.{IfSome, is_some, option_copied}
use Rattle.std.specs.declared.option.Option.{Option}
use Rattle.std.specs.declared.option.Option.TheVariants.{None, Some}
use Rattle.std.proofs.lemmas.Bool.{ltb-false, ltb-true}
use Rattle.std.proofs.lemmas.List.Folds.{find_at}
use Rattle.std.proofs.lemmas.Option.{slice_get_cases, slice_get_read}

-- what stands at a place, where there is one
abbrev look : {X : Type 0} → List X → Option ℕ → Option X
look xs None = None
look xs (Some i) = slice_get xs i

pub found_look : {X : Type 0} (p : X → Bool) (xs : List X) (r : Option ℕ) → position p xs ≡ r → find p xs ≡ look xs r
found_look p xs r is = find_at p xs ∙ by (nat_lt (position_or_len p xs) (length xs)) refl ∙ ap (look xs) is
  where
    by : (b : Bool) → nat_lt (position_or_len p xs) (length xs) ≡ b → slice_get xs (position_or_len p xs) ≡ look xs (cond b (Some (position_or_len p xs)) None)
    by true so = refl
    by false so =
        ⊎_elim (λ inside. absurd (omega (arith, ltb-false (position_or_len p xs) (length xs) so, inside.1))) (λ past. past.1) (slice_get_cases xs (position_or_len p xs)).1

pub found_none : {X : Type 0} (p : X → Bool) (xs : List X) (r : Option ℕ) → r ≡ position p xs → r ≡ None → None ≡ find p xs
found_none p xs r is none = sym (found_look p xs None (sym is ∙ none))

pub found_some : {X : Type 0} (p : X → Bool) (xs : List X) (r : Option ℕ) (i : ℕ) → r ≡ position p xs → r ≡ Some i → slice_get xs i ≡ find p xs
found_some p xs r i is some = sym (found_look p xs (Some i) (sym is ∙ some))

-- what is got at a place
pub got : {X : Type 0} (xs : List X) (i : ℕ) (r : Option (Bor X)) → is_some r ≡ ltb i (length xs) → IfSome r (λ x. x.now ≡ get_or xs i x.now) → option_copied r ≡ slice_get xs i
got xs i None inside is = past (slice_get_cases xs i).1
  where
    past : ((x : _) × (i < length xs) × (slice_get xs i ≡ Some x) × (get_or xs i x ≡ x)) ⊎ ((length xs ≤ i) × (slice_get xs i ≡ None)) → None ≡ slice_get xs i
    past (inl c) = absurd (omega (arith, ltb-false i (length xs) (sym inside), c.1))
    past (inr c) = sym c.1
got xs i (Some x) inside is = sym (slice_get_read xs (length xs) i x.now refl (ltb-true i (length xs) (sym inside)) is)
