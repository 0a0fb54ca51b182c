-- Numbers of three digits and more are no number of jobs.
use Rattle.std.proofs.Common.{◌≡◌, ℕ, ◌+◌, ◌-◌, ◌*◌, ◌≤◌, ◌&&◌, Bool, true, false, not, List, [], ◌∷◌, length, refl, arith, leb}
use Rattle.std.proofs.lemmas.Bool.Decides.{nat_tests}
use Rattle.std.specs.List.{list_all}
use Rattle.opam_names.specs.Names.{is_digit}
use Rattle.opam_names.specs.Orders.{is_zero, number, number_after}
use Rattle.command_words.specs.Readings.{is_jobs}

rises : (n : ℕ) (digits : List ℕ) → n ≤ number_after n digits
rises n [] = omega arith
rises n (d ∷ digits) = let more = rises (10 * n + (d - 48)) digits in omega arith

at_least : (a b c : ℕ) (digits : List ℕ) → is_digit a ≡ true → is_zero a ≡ false → 100 ≤ number (a ∷ b ∷ c ∷ digits)
at_least a b c digits h k =
    let first : 49 ≤ a = grind (arith, nat_tests) in
    let more = rises (10 * (10 * (10 * 0 + (a - 48)) + (b - 48)) + (c - 48)) digits in
    omega arith

pub both_left : (x y : Bool) → (x && y) ≡ true → x ≡ true
both_left true y h = refl
both_left false y h = h

too_many : (x y z w : Bool) (n : ℕ) → (x ≡ true → y ≡ false → 100 ≤ n) → (x && not y && leb 1 n && leb n 64) ≡ false
too_many false y w z n h = refl
too_many true true w z n h = refl
too_many true false w z n h = let large = h refl refl in grind (arith, nat_tests)

pub many_digits : (text : List ℕ) → 3 ≤ length text → is_jobs text ≡ false
many_digits [] l = absurd (omega arith)
many_digits (a ∷ []) l = absurd (omega arith)
many_digits (a ∷ b ∷ []) l = absurd (omega arith)
many_digits (a ∷ b ∷ c ∷ digits) l =
    too_many (list_all is_digit (a ∷ b ∷ c ∷ digits)) (is_zero a) true true (number (a ∷ b ∷ c ∷ digits))
    (λ h k. at_least a b c digits (both_left (is_digit a) (list_all is_digit (b ∷ c ∷ digits)) h) k)
