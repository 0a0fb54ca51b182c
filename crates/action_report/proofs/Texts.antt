-- Texts joined from the right, as a format writes them.
use Rattle.std.proofs.Common.{◌≡◌, ◌++◌, ℕ, List, append_assoc}

pub three : (a b c : List ℕ) → a ++ (b ++ c) ≡ a ++ b ++ c
three a b c = simp (append_assoc)

pub five : (a b c d e : List ℕ) → a ++ (b ++ (c ++ (d ++ e))) ≡ a ++ b ++ c ++ d ++ e
five a b c d e = simp (append_assoc)
