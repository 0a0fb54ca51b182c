-- A pass over members, one after another, and passes one after another.
use Rattle.std.proofs.Common.{◌≡◌, ℕ, suc, ◌+◌, ◌<◌, ◌≤◌, List, [], ◌∷◌, ◌++◌, length, get_or, drop, map, filter, Bool, true, false, not, IsTrue, if◌then◌else◌, ⊎_elim, refl, sym, ◌∙◌, ap, subst, arith}
use Rattle.std.specs.Prelude.{Contains, bytes_eq}
use Rattle.std.specs.List.{IsDistinct}
use Rattle.std.proofs.lemmas.List.{append_assoc, append-nil, drop_more}
use Rattle.std.proofs.lemmas.List.Elements.{Contains-push_cases}
use Rattle.opam_names.specs.ByteOrders.{RisesBy, in_order_by}
use Rattle.opam_names.specs.declared.packages.Pkg.{Pkg}
use Rattle.opam_filter.specs.Laws.{HoldingIsMonotone}
use Rattle.opam_filter.specs.Sets.{Rises}
use Rattle.opam_package.specs.declared.package.Member.{Member}
use Rattle.lock_check.specs.declared.removal.Pass.{Pass}
use Rattle.lock_check.specs.Passes.{Covers, IsPassing, Judges, count_of, pass_after, set_after, set_without}
use Rattle.lock_check.specs.Removals.{AreAmong, IsLargestMet}
use Rattle.lock_check.specs.Targets.{by_name, member_name}
use Rattle.lock_check.specs.Violations.{is_met_among, pkgs_of}
use Rattle.lock_check.proofs.Distinct.{differ_without}
use Rattle.lock_check.proofs.Largest.{dropped_covers, left_largest, left_met, met_again}
use Rattle.lock_check.proofs.Members.{in_map, in_order, of_map, of_order}

abbrev Chosen : Type 0
Chosen = (test : Pkg → Bool) (pkgs : List Pkg) → Rises pkgs → Rises (filter test pkgs)

one_up : (a b : ℕ) → a ≡ b + 1 → suc a ≡ suc b + 1
one_up a b is = grind arith

longer : {X : Type 0} (xs : List X) (x : X) → length (xs ++ x ∷ []) ≡ length xs + 1
longer [] x = refl
longer (y ∷ xs) x = one_up (length (xs ++ x ∷ [])) (length xs) (longer xs x)

abbrev kept_pass : Pass → Member → Pass
kept_pass pass m = record { kept = pass.kept ++ m ∷ []; dropped = pass.dropped }

abbrev dropped_pass : Pass → Pass
dropped_pass pass = record { kept = pass.kept; dropped = true }

-- the next member stands first among those that are left
next_is : (members : List Member) (i : ℕ) (m : Member) → i < length members → m ≡ get_or members i m → drop i members ≡ m ∷ drop (i + 1) members
next_is members i m within is = drop_more members i m within ∙ ap (λ x. x ∷ drop (i + 1) members) (sym is)

shorter_on : (n k i : ℕ) → n + k ≤ i → (n + 1) + k ≤ i + 1
shorter_on n k i le = grind arith

shorter_by : (n k i : ℕ) → n + k ≤ i → n + 1 ≤ i + 1
shorter_by n k i le = grind arith

step_by : HoldingIsMonotone → Chosen → (members : List Member) (before : List Pkg) (i : ℕ) (m : Member) (pass : Pass) (set : List Pkg) (b : Bool)
    → i < length members → m ≡ get_or members i m → is_met_among set m.package ≡ b → IsPassing members before i pass set
    → IsPassing members before (i + 1) (if b then kept_pass pass m else dropped_pass pass) (if b then set else set_without set (member_name m))
step_by law chosen members before i m pass set true within is met h =
    let rest = drop (i + 1) members in
    let same : pass.kept ++ drop i members ≡ (pass.kept ++ m ∷ []) ++ rest =
    ap (λ xs. pass.kept ++ xs) (next_is members i m within is) ∙ sym (append_assoc pass.kept (m ∷ []) rest) in
    record {
      rises = h.rises;
      covers = λ from differ c. let P : List Member → Type 0 = λ xs. Covers from xs set in subst P same (h.covers from differ c);
      differ = λ d. let P : List Member → Type 0 = λ xs. IsDistinct bytes_eq (map member_name xs) in subst P same (h.differ d);
      met = λ quiet x at.
          ⊎_elim (λ earlier. h.met quiet x earlier) (λ here. let P : Member → Type 0 = λ z. IsTrue (is_met_among set z.package) in subst P here met) (Contains-push_cases pass.kept m x at);
      shorter = let P : ℕ → Type 0 = λ n. n + count_of pass.dropped ≤ i + 1 in subst P (sym (longer pass.kept m)) (shorter_on (length pass.kept) (count_of pass.dropped) i h.shorter);
    }
step_by law chosen members before i m pass set false within is unmet h =
    let rest = drop (i + 1) members in
    let same : pass.kept ++ drop i members ≡ pass.kept ++ m ∷ rest = ap (λ xs. pass.kept ++ xs) (next_is members i m within is) in
    record {
      rises = chosen (λ (pkg : Pkg). not (bytes_eq pkg.name (member_name m))) set h.rises;
      covers = λ from differ c.
          let P : List Member → Type 0 = λ xs. Covers from xs set in dropped_covers law from pass.kept rest m set differ (subst P same (h.covers from differ c)) unmet;
      differ = λ d. let P : List Member → Type 0 = λ xs. IsDistinct bytes_eq (map member_name xs) in differ_without member_name pass.kept m rest (subst P same (h.differ d));
      met = λ quiet x at. absurd cc;
      shorter = shorter_by (length pass.kept) (count_of pass.dropped) i h.shorter;
    }

pub one_judged : HoldingIsMonotone → Chosen → (members : List Member) (before : List Pkg) (i : ℕ) (m : Member) (pass after : Pass) (set less : List Pkg)
    → i < length members → m ≡ get_or members i m → after ≡ pass_after set m pass → less ≡ set_after set m → IsPassing members before i pass set
    → IsPassing members before (i + 1) after less
one_judged law chosen members before i m pass after set less within is after_is less_is h =
    let P : Pass → Type 0 = λ p. IsPassing members before (i + 1) p less in
    let Q : List Pkg → Type 0 = λ s. IsPassing members before (i + 1) (pass_after set m pass) s in
    subst P (sym after_is) (subst Q (sym less_is) (step_by law chosen members before i m pass set (is_met_among set m.package) within is refl h))

none_left : {X : Type 0} (xs : List X) → drop (length xs) xs ≡ []
none_left [] = refl
none_left (x ∷ xs) = none_left xs

-- after the last member
pub all_judged : (members : List Member) (before : List Pkg) (n : ℕ) (pass : Pass) (set : List Pkg) → n ≡ length members → IsPassing members before n pass set → Judges members before pass set
all_judged members before n pass set last h =
    let same : pass.kept ++ drop n members ≡ pass.kept = ap (λ k. pass.kept ++ drop k members) last ∙ ap (λ xs. pass.kept ++ xs) (none_left members) ∙ append-nil pass.kept in
    record {
      covers = λ from differ c. let P : List Member → Type 0 = λ xs. Covers from xs set in subst P same (h.covers from differ c);
      differ = λ d. let P : List Member → Type 0 = λ xs. IsDistinct bytes_eq (map member_name xs) in subst P same (h.differ d);
      met = h.met;
      shorter = let P : ℕ → Type 0 = λ k. length pass.kept + count_of pass.dropped ≤ k in subst P last h.shorter;
    }

shorter_still : (n k m l a : ℕ) → n + k ≤ m → m + l ≤ a → n + k ≤ a
shorter_still n k m l a one other = grind arith

-- a pass over what another one kept
pub judged_again : (members : List Member) (before middle after : List Pkg) (pass next : Pass) → Judges members before pass middle → Judges pass.kept middle next after → Judges members before next after
judged_again members before middle after pass next one other = record {
  covers = λ from differ c. other.covers from differ (one.covers from differ c);
  differ = λ d. other.differ (one.differ d);
  met = other.met;
  shorter = shorter_still (length next.kept) (count_of next.dropped) (length pass.kept) (count_of pass.dropped) (length members) other.shorter one.shorter;
}

fewer_than : (n k m : ℕ) → n + k ≤ m → n + k < m + 1
fewer_than n k m le = grind arith

pub fewer : (pass next : Pass) (middle after : List Pkg) → pass.dropped ≡ true → Judges pass.kept middle next after
    → length next.kept + count_of next.dropped < length pass.kept + count_of pass.dropped
fewer pass next middle after is h =
    let P : Bool → Type 0 = λ b. length next.kept + count_of next.dropped < length pass.kept + count_of b in
    subst P (sym is) (fewer_than (length next.kept) (count_of next.dropped) (length pass.kept) h.shorter)

-- before the first pass the set is that of all members
all_covered : (members : List Member) (pkgs set : List Pkg) → pkgs ≡ pkgs_of members → set ≡ in_order_by (λ (pkg : Pkg). pkg.name) pkgs → Covers members members set
all_covered members pkgs set of order =
    let C : List Pkg → Type 0 = λ s. Covers members members s in
    subst C (sym (order ∙ ap (in_order_by (λ (pkg : Pkg). pkg.name)) of)) (record {
      some = λ x at. at;
      covered = λ p at. of_map (λ (m : Member). m.package.pkg) members p (of_order (λ (pkg : Pkg). pkg.name) (pkgs_of members) p at);
      largest = λ other within all x at. in_order (λ (pkg : Pkg). pkg.name) (pkgs_of members) x.package.pkg (in_map (λ (m : Member). m.package.pkg) members x (within x at));
    })

-- what is left once no pass drops any more
pub largest_left : HoldingIsMonotone → (members : List Member) (pkgs set after : List Pkg) (pass : Pass) (sorted : List Member) → IsDistinct bytes_eq (map member_name members)
    → pkgs ≡ pkgs_of members → set ≡ in_order_by (λ (pkg : Pkg). pkg.name) pkgs → Judges members set pass after → pass.dropped ≡ false
    → sorted ≡ by_name pass.kept → RisesBy member_name sorted → IsLargestMet members sorted
largest_left law members pkgs set after pass sorted differ of order h quiet is rises =
    let c = h.covers members differ (all_covered members pkgs set of order) in
    let into : AreAmong pass.kept sorted = λ x at. let P : List Member → Type 0 = λ xs. Contains xs x in subst P (sym is) (in_order member_name pass.kept x at) in
    let back : AreAmong sorted pass.kept = λ x at. let P : List Member → Type 0 = λ xs. Contains xs x in of_order member_name pass.kept x (subst P is at) in
    record {
      rises = rises;
      some = λ x at. c.some x (back x at);
      met = met_again law pass.kept sorted into back (left_met law members pass.kept after c (h.met quiet));
      largest = λ other within all x at. into x (left_largest law members pass.kept after differ c other within all x at);
    }
