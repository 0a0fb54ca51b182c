-- How far the front of a list passes a test.
use Rattle.std.proofs.Common.{◌≡◌, ℕ, zero, suc, ◌+◌, ◌≤◌, ◌&&◌, Bool, true, false, cond, List, [], ◌∷◌, length, take, refl, arith, le_of_suc-le-suc}
use Rattle.std.specs.List.{list_all, prefix_len}

-- each shorter front passes too
pub run_passes : (p : ℕ → Bool) (xs : List ℕ) (n : ℕ) → n ≤ prefix_len p xs → list_all p (take n xs) ≡ true
run_passes p xs zero h = refl
run_passes p [] (suc n) h = refl
run_passes p (x ∷ xs) (suc n) h =
    elim (p x) as (λ b. suc n ≤ cond b (1 + prefix_len p xs) 0 → (b && list_all p (take n xs)) ≡ true) [
      | true ↦ λ e. run_passes p xs n (omega arith)
      | false ↦ λ e. absurd (omega arith)
    ] h

-- and no longer one does
pub run_ends : (p : ℕ → Bool) (xs : List ℕ) (n : ℕ) → n ≤ length xs → list_all p (take n xs) ≡ true → n ≤ prefix_len p xs
run_ends p xs zero l h = omega arith
run_ends p [] (suc n) l h = l
run_ends p (x ∷ xs) (suc n) l h =
    elim (p x) as (λ b. (b && list_all p (take n xs)) ≡ true → suc n ≤ cond b (1 + prefix_len p xs) 0) [
      | true ↦ λ e. let more : n ≤ prefix_len p xs = run_ends p xs n (le_of_suc-le-suc l) e in omega arith
      | false ↦ λ e. cc
    ] h
