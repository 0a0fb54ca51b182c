-- The folders of a path.
use Rattle.std.proofs.Common.{◌≡◌, ℕ, suc, ◌<◌, Bool, true, false, List, [], ◌∷◌, ◌++◌, length, take, drop, get_or, refl, sym, ap, ◌∙◌, subst, arith, length-append, drop-cons}
use Rattle.std.specs.Prelude.{◌==◌, if◌then◌else◌}
use Rattle.std.specs.List.{list_all}
use Rattle.std.proofs.lemmas.Bool.{eqb-true}
use Rattle.std.proofs.lemmas.Bool.Decides.{nat_tests}
use Rattle.std.proofs.lemmas.List.{take-append-drop}
use Rattle.std.proofs.lemmas.List.Folds.{list_all-append}
use Rattle.std.proofs.lemmas.Str.{IsCharBoundary-before_ascii, IsUtf8-take}
use Rattle.opam_names.specs.Faults.{IsFaultOf}
use Rattle.opam_names.specs.declared.fault.ReadFault.{ReadFault}
use Rattle.opam_names.specs.declared.fault.ReadFault.TheVariants.{Bad, Memory}
use Rattle.opam_names.specs.Paths.{IsPath, IsRelative, is_above, is_more_after_slash, is_not_zero, is_part, parts}
use Rattle.opam_names.proofs.Bytes.{both_left}
use Rattle.opam_names.proofs.Parts.{parts_joined}
use Rattle.path_order.proofs.Fronts.{no_last_slash}

-- a path is what stands before a slash, and what stands after it
cut : (path : List ℕ) (k : ℕ) → k < length path → get_or path k 0 ≡ 47 → path ≡ take k path ++ 47 ∷ drop (suc k) path
cut path k lt slash =
    sym (take-append-drop k path) ∙ ap (λ (l : List ℕ). take k path ++ l) (drop-cons path k 0 lt) ∙ ap (λ (b : ℕ). take k path ++ b ∷ drop (suc k) path) slash

front_of : (path front rest : List ℕ) → path ≡ front ++ 47 ∷ rest → IsRelative path → IsRelative front
front_of path front rest is whole = record {
  no_zero = both_left (list_all is_not_zero front) (list_all is_not_zero (47 ∷ rest)) (sym (list_all-append is_not_zero front (47 ∷ rest)) ∙ ap (list_all is_not_zero) (sym is) ∙ whole.no_zero);
  good_parts = both_left (list_all is_part (parts front)) (list_all is_part (parts rest))
      (sym (list_all-append is_part (parts front) (parts rest)) ∙ ap (list_all is_part) (sym (parts_joined front rest)) ∙ ap (λ (l : List ℕ). list_all is_part (parts l)) (sym is) ∙ whole.good_parts);
  short = let all = ap length is ∙ length-append front (47 ∷ rest) in let short = whole.short in omega (arith, all, short);
}

-- a folder of a path is one
pub front_path : (path : List ℕ) (k : ℕ) → IsPath path → k < length path → get_or path k 0 ≡ 47 → IsPath (take k path)
front_path path k is lt slash =
    (IsUtf8-take path k is.0 (IsCharBoundary-before_ascii path k lt (omega arith)), front_of path (take k path) (drop (suc k) path) (cut path k lt slash) is.1)

same : (x : ℕ) → (x == x) ≡ true
same x = grind (arith, nat_tests)

above_more : (folder : List ℕ) (b : ℕ) (more : List ℕ) → is_above folder (folder ++ 47 ∷ b ∷ more) ≡ true
above_more [] b more = refl
above_more (x ∷ xs) b more = ap (λ t. if t then is_above xs (xs ++ 47 ∷ b ∷ more) else false) (same x) ∙ above_more xs b more

above_whole : (path front rest : List ℕ) → path ≡ front ++ 47 ∷ rest → IsPath path → is_above front path ≡ true
above_whole path front [] is whole = absurd (no_last_slash front (subst IsPath is whole))
above_whole path front (b ∷ rest) is whole = ap (is_above front) is ∙ above_more front b rest

-- it stands above the path
pub folder_above : (path : List ℕ) (k : ℕ) → IsPath path → k < length path → get_or path k 0 ≡ 47 → is_above (take k path) path ≡ true
folder_above path k is lt slash = above_whole path (take k path) (drop (suc k) path) (cut path k lt slash) is

-- what stands above a path is what stands before one of its slashes
pub record IsFolder (q path : List ℕ) : Type 0 where
  pub within : length q < length path
  pub slash : get_or path (length q) 0 ≡ 47
  pub front : take (length q) path ≡ q

first_byte : (b : ℕ) → (b == 47) ≡ true → b ≡ 47
first_byte b is = eqb-true b 47 is

ends : (below : List ℕ) → is_more_after_slash below ≡ true → IsFolder [] below
ends [] is = absurd cc
ends (b ∷ []) is = absurd cc
ends (b ∷ c ∷ bytes) is = record { within = omega arith; slash = first_byte b is; front = refl }

one_on : (x y : ℕ) (xs ys : List ℕ) → x ≡ y → IsFolder xs ys → IsFolder (x ∷ xs) (y ∷ ys)
one_on x y xs ys first rest = record { within = let within = rest.within in omega (arith, within); slash = rest.slash; front = ap (λ (b : ℕ). b ∷ take (length xs) ys) (sym first) ∙ ap (λ (l : List ℕ). x ∷ l) rest.front }

by_first : (x y : ℕ) (xs ys : List ℕ) (t : Bool) → (x == y) ≡ t → (if t then is_above xs ys else false) ≡ true → (is_above xs ys ≡ true → IsFolder xs ys) → IsFolder (x ∷ xs) (y ∷ ys)
by_first x y xs ys true test is later = one_on x y xs ys (eqb-true x y test) (later is)
by_first x y xs ys false test is later = absurd cc

pub folder_of_above : (q path : List ℕ) → is_above q path ≡ true → IsFolder q path
folder_of_above [] path is = ends path is
folder_of_above (x ∷ xs) [] is = absurd cc
folder_of_above (x ∷ xs) (y ∷ ys) is = by_first x y xs ys (x == y) refl is (folder_of_above xs ys)

-- bytes that are refused for what they are are none
pub refused_path : (bytes : List ℕ) (fault : ReadFault) (at : ℕ) → fault ≡ Bad at → IsFaultOf IsPath bytes fault → IsPath bytes → ⊥
refused_path bytes (Bad k) at is bad path = bad.no_value path
refused_path bytes Memory at is bad path = absurd cc
