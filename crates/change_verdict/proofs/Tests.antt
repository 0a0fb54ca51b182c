-- Tests that hold together, and bytes that all pass one.
use Rattle.std.proofs.Common.{◌≡◌, ℕ, zero, suc, ◌<◌, ◌&&◌, Bool, true, false, List, [], ◌∷◌, get_or, refl, lit<}
use Rattle.std.specs.List.{list_all}

pub both_left : (x y : Bool) → (x && y) ≡ true → x ≡ true
both_left true y h = refl
both_left false y h = h

pub both_right : (x y : Bool) → (x && y) ≡ true → y ≡ true
both_right true y h = h
both_right false y h = cc

pub both : (x y : Bool) → x ≡ true → y ≡ true → (x && y) ≡ true
both x y p q = rw (p, q) refl

pub all_ascii : (p : ℕ → Bool) → ((b : ℕ) → p b ≡ true → b < 128) → (bytes : List ℕ) → list_all p bytes ≡ true → (i : ℕ) → get_or bytes i 0 < 128
all_ascii p low [] h i = lit< tt
all_ascii p low (x ∷ xs) h zero = low x (both_left (p x) (list_all p xs) h)
all_ascii p low (x ∷ xs) h (suc i) = all_ascii p low xs (both_right (p x) (list_all p xs) h) i
