-- Packages in pairs of texts.
use Rattle.std.proofs.Common.{◌≡◌, ℕ, ◌-◌, ◌≤◌, List, [], ◌∷◌, ◌++◌, length, take, drop, get_or, false, Option, Some, None, Result, Ok, Err, refl, sym, ◌∙◌, ap, subst, arith, append_assoc}
use Rattle.std.specs.Prelude.{IfOk, ◌==◌}
use Rattle.std.proofs.lemmas.List.{take_rest}
use Rattle.opam_names.specs.declared.packages.Pkg.{Pkg}
use Rattle.opam_top.specs.Locks.{bound_as_spelled, prepended, read_lock, read_pkg, read_pkgs, with_pkg}
use Rattle.opam_top.specs.Spellings.{quoted}

prepend_more : (pkgs : List Pkg) (pkg : Pkg) (more : Option (List Pkg)) → prepended (pkgs ++ pkg ∷ []) more ≡ prepended pkgs (prepended (pkg ∷ []) more)
prepend_more pkgs pkg None = refl
prepend_more pkgs pkg (Some more) = ap (λ (l : List Pkg). Some l) (append_assoc pkgs (pkg ∷ []) more)

pair_more : (name version : List ℕ) (rest : List (List ℕ)) (pkg : Pkg) (pkgs grown : List Pkg) (all : Option (List Pkg)) → grown ≡ pkgs ++ pkg ∷ [] → read_pkg name version ≡ Some pkg
    → prepended pkgs (with_pkg (read_pkg name version) (read_pkgs rest)) ≡ all → prepended grown (read_pkgs rest) ≡ all
pair_more name version rest pkg pkgs grown all grows is so_far =
    ap (λ l. prepended l (read_pkgs rest)) grows ∙ prepend_more pkgs pkg (read_pkgs rest)
    ∙ ap (λ p. prepended pkgs (with_pkg p (read_pkgs rest))) (sym is) ∙ so_far

-- one more pair of texts
pub pkgs_more : (rest : List (List ℕ)) (name version : List ℕ) (pkg : Pkg) (pkgs grown : List Pkg) (all : Option (List Pkg)) → 2 ≤ length rest → name ≡ get_or rest 0 name → version ≡ get_or rest 1 version
    → grown ≡ pkgs ++ pkg ∷ [] → read_pkg name version ≡ Some pkg → prepended pkgs (read_pkgs rest) ≡ all → prepended grown (read_pkgs (take (length rest - 2) (drop 2 rest))) ≡ all
pkgs_more [] name version pkg pkgs grown all two first second grows is so_far = absurd (omega arith)
pkgs_more (x ∷ []) name version pkg pkgs grown all two first second grows is so_far = absurd (omega arith)
pkgs_more (x ∷ y ∷ rest) name version pkg pkgs grown all two first second grows is so_far =
    let found : read_pkg x y ≡ Some pkg = ap (λ n. read_pkg n y) (sym first) ∙ ap (read_pkg name) (sym second) ∙ is in
    ap (λ l. prepended grown (read_pkgs l)) (take_rest (x ∷ y ∷ rest) 2) ∙ pair_more x y rest pkg pkgs grown all grows found so_far

-- what is bound by a text that is not empty
pub bound_by_pkgs : (bytes : List ℕ) (pkgs : Option (List Pkg)) → (length bytes == 0) ≡ false → pkgs ≡ read_pkgs (quoted bytes) → bound_as_spelled bytes pkgs ≡ read_lock bytes
bound_by_pkgs [] pkgs some is = absurd (cc)
bound_by_pkgs (b ∷ bytes) pkgs some is = ap (bound_as_spelled (b ∷ bytes)) is

pub same_result : {E X : Type 0} (result : Result X E) (x y : X) → x ≡ y → IfOk result (λ z. z ≡ x) → IfOk result (λ z. z ≡ y)
same_result (Ok z) x y same is = is ∙ same
same_result (Err e) x y same is = tt

pub few_result : {E X : Type 0} (result : Result X E) (few : X → Type 0) (x : X) → few x → IfOk result (λ z. z ≡ x) → IfOk result few
few_result (Ok z) few x holds is = subst few (sym is) holds
few_result (Err e) few x holds is = tt
