-- What stands for an interpolation.
use Rattle.std.proofs.Common.{◌≡◌, ℕ, suc, ◌+◌, ◌<◌, ◌||◌, Bool, true, false, not, cond, List, [], ◌∷◌, length, refl, sym, ap, ◌∙◌, arith}
use Rattle.std.specs.List.{after_first, list_any, position_or_len}
use Rattle.std.specs.declared.option.Option.{Option}
use Rattle.opam_filter.specs.Texts.{chosen, is_question, shown}
use Rattle.opam_filter.specs.Truths.{is_yes, truth_of}
use Rattle.opam_filter.specs.declared.truth.VarValue.{VarValue}

-- where an element passes, one is found
pub some_found : (p : ℕ → Bool) (xs : List ℕ) → position_or_len p xs < length xs → list_any p xs ≡ true
some_found p [] h = absurd (omega arith)
some_found p (x ∷ xs) h =
    elim (p x) as (λ b. cond (not b) (1 + position_or_len p xs) 0 < suc (length xs) → (b || list_any p xs) ≡ true) [
      | true ↦ λ e. refl
      | false ↦ λ e. some_found p xs (omega arith)
    ] h

-- where no element passes, none is found
pub none_found : (p : ℕ → Bool) (xs : List ℕ) → position_or_len p xs ≡ length xs → list_any p xs ≡ false
none_found p [] h = refl
none_found p (x ∷ xs) h =
    elim (p x) as (λ b. cond (not b) (1 + position_or_len p xs) 0 ≡ suc (length xs) → (b || list_any p xs) ≡ false) [
      | true ↦ λ e. absurd (omega arith)
      | false ↦ λ e. none_found p xs (omega arith)
    ] h

-- what stands for an interpolation whose variable has this value
abbrev pub written : Option VarValue → List ℕ → List ℕ
written value inside = cond (list_any is_question inside) (chosen (is_yes (truth_of value)) (after_first is_question inside)) (shown value)

-- after a `?` one of two texts stands for it
pub written_choice : (value : Option VarValue) (inside choice : List ℕ) → position_or_len is_question inside < length inside → choice ≡ after_first is_question inside → chosen (is_yes (truth_of value)) choice ≡ written value inside
written_choice value inside choice h e =
    ap (chosen (is_yes (truth_of value))) e
    ∙ sym (ap (λ b. cond b (chosen (is_yes (truth_of value)) (after_first is_question inside)) (shown value)) (some_found is_question inside h))

-- without a `?` the value stands for it
pub written_value : (value : Option VarValue) (inside : List ℕ) → position_or_len is_question inside ≡ length inside → shown value ≡ written value inside
written_value value inside h =
    sym (ap (λ b. cond b (chosen (is_yes (truth_of value)) (after_first is_question inside)) (shown value)) (none_found is_question inside h))
