-- Texts without a byte, and how far the words of a list were taken.
use Rattle.std.proofs.Common.{◌≡◌, ℕ, suc, ◌+◌, ◌&&◌, ◌||◌, Bool, true, false, not, cond, List, [], ◌∷◌, length, take, refl, sym, ap, ◌∙◌, arith, take_all}
use Rattle.std.specs.List.{after_first, before_first, list_any, position_or_len}
use Rattle.std.specs.declared.option.Option.TheVariants.{None, Some}
use Rattle.opam_names.specs.Names.{is_name, is_version}
use Rattle.opam_names.specs.Packages.{is_dot}
use Rattle.command_words.specs.Arguments.{has_equals, is_equals, is_option, single}
use Rattle.command_words.specs.Readings.{is_shown}
use Rattle.command_words.specs.declared.arguments.Argument.TheVariants.{Given, Plain}

-- where no element passes, none is found
pub none_found : (p : ℕ → Bool) (xs : List ℕ) → position_or_len p xs ≡ length xs → list_any p xs ≡ false
none_found p [] h = refl
none_found p (x ∷ xs) h =
    elim (p x) as (λ b. cond (not b) (1 + position_or_len p xs) 0 ≡ suc (length xs) → (b || list_any p xs) ≡ false) [
      | true ↦ λ e. absurd (omega arith)
      | false ↦ λ e. none_found p xs (omega arith)
    ] h

pub all_before : (p : ℕ → Bool) (xs : List ℕ) → position_or_len p xs ≡ length xs → before_first p xs ≡ xs
all_before p xs h = ap (λ n. take n xs) h ∙ take_all (length xs) xs (omega arith)

-- an option without `=` is named by the whole word
pub whole_option : (name word : List ℕ) → name ≡ word → is_option word ≡ true → position_or_len is_equals word ≡ length word → Given name None ≡ single word
whole_option name word e h k =
    ap (λ n. Given n None) e ∙ sym (
    ap (λ b. cond b (Given (before_first is_equals word) (cond (has_equals word) (Some (after_first is_equals word)) None)) (Plain word)) h
    ∙ ap (λ b. Given (before_first is_equals word) (cond b (Some (after_first is_equals word)) None)) (none_found is_equals word k)
    ∙ ap (λ n. Given n None) (all_before is_equals word k)
    )

-- a word without a dot is to be a name
pub shown_name : (word : List ℕ) → position_or_len is_dot word ≡ length word → is_name word ≡ is_shown word
shown_name word k = sym (ap (λ b. cond b (is_name (before_first is_dot word) && is_version (after_first is_dot word)) (is_name word)) (none_found is_dot word k))
