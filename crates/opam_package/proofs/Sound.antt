-- Values without faults: of several without a fault none has one.
use Rattle.std.proofs.Common.{◌≡◌, ℕ, ◌+◌, ◌<◌, List, [], ◌∷◌, ◌++◌, length, get_or, drop, sym, ap, refl, ◌∙◌}
use Rattle.std.specs.List.{flat_map}
use Rattle.std.proofs.lemmas.List.{drop_more}
use Rattle.opam_package.specs.declared.fault.PackageFault.{PackageFault}

-- the first of two empty lists
pub empty_left : {X : Type 0} (one other : List X) → one ++ other ≡ [] → one ≡ []
empty_left [] other is = refl
empty_left (x ∷ one) other is = absurd cc

-- the second
pub empty_right : {X : Type 0} (one other : List X) → one ++ other ≡ [] → other ≡ []
empty_right [] other is = is
empty_right (x ∷ one) other is = absurd cc

-- of several values without a fault the next has none
pub next_sound : {X : Type 0} (faults : X → List PackageFault) (xs : List X) (i : ℕ) (x : X) → i < length xs → x ≡ get_or xs i x
    → flat_map faults (drop i xs) ≡ [] → faults x ≡ []
next_sound faults xs i x within is none =
    ap faults is ∙ empty_left (faults (get_or xs i x)) (flat_map faults (drop (i + 1) xs)) (sym (ap (flat_map faults) (drop_more xs i x within)) ∙ none)

-- nor have those after it
pub rest_sound : {X : Type 0} (faults : X → List PackageFault) (xs : List X) (i : ℕ) (x : X) → i < length xs → x ≡ get_or xs i x
    → flat_map faults (drop i xs) ≡ [] → flat_map faults (drop (i + 1) xs) ≡ []
rest_sound faults xs i x within is none =
    empty_right (faults (get_or xs i x)) (flat_map faults (drop (i + 1) xs)) (sym (ap (flat_map faults) (drop_more xs i x within)) ∙ none)
