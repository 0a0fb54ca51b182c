-- The largest part of members in which each is met: what is dropped because it is not met among more is in no such part.
use Rattle.std.proofs.Common.{◌≡◌, ℕ, List, [], ◌∷◌, ◌++◌, map, Bool, true, false, not, ◌&&◌, IsTrue, refl, sym, ◌∙◌, ap, subst}
use Rattle.std.specs.Prelude.{Contains, bytes_eq}
use Rattle.std.specs.List.{IsDistinct, list_all}
use Rattle.std.proofs.lemmas.Slice.Eq.{bytes_eq-Decides}
use Rattle.opam_names.specs.declared.packages.Pkg.{Pkg}
use Rattle.opam_filter.specs.Laws.{HoldingIsMonotone}
use Rattle.opam_filter.specs.Sets.{holds}
use Rattle.opam_package.specs.declared.package.Member.{Member}
use Rattle.opam_package.specs.declared.package.Need.{Need}
use Rattle.lock_check.specs.Passes.{Covers, set_without}
use Rattle.lock_check.specs.Removals.{AreAmong, AreMet}
use Rattle.lock_check.specs.Targets.{member_name}
use Rattle.lock_check.specs.Violations.{is_met_among, is_need_met, pkgs_of}
use Rattle.lock_check.proofs.Distinct.{one_of_name}
use Rattle.lock_check.proofs.Members.{between, in_filter, in_map, narrower, of_filter, of_map, wider}

abbrev pkg_of : Member → Pkg
pkg_of member = member.package.pkg

abbrev Sub : List Pkg → List Pkg → Type 0
Sub set more = (pkg : Pkg) → Contains set pkg → Contains more pkg

and_on : (a b c d : Bool) → (a ≡ true → c ≡ true) → (b ≡ true → d ≡ true) → (a && b) ≡ true → (c && d) ≡ true
and_on true true c d one other is = both c d (one refl) (other refl)
  where
    both : (c d : Bool) → c ≡ true → d ≡ true → (c && d) ≡ true
    both true d one other = other
    both false d one other = one
and_on true false c d one other is = absurd cc
and_on false b c d one other is = absurd cc

module _ (monotone : HoldingIsMonotone) where
  need_on : (set more : List Pkg) → Sub set more → (need : Need) → is_need_met set need ≡ true → is_need_met more need ≡ true
  need_on set more sub need =
      and_on (holds need.runtime set && holds need.building set) (holds need.full set) (holds need.runtime more && holds need.building more) (holds need.full more)
      (and_on (holds need.runtime set) (holds need.building set) (holds need.runtime more) (holds need.building more)
      (monotone.packages need.runtime set more sub) (monotone.packages need.building set more sub))
      (monotone.packages need.full set more sub)

  needs_on : (set more : List Pkg) → Sub set more → (needs : List Need) → list_all (is_need_met set) needs ≡ true → list_all (is_need_met more) needs ≡ true
  needs_on set more sub [] is = refl
  needs_on set more sub (need ∷ needs) is =
      and_on (is_need_met set need) (list_all (is_need_met set) needs) (is_need_met more need) (list_all (is_need_met more) needs) (need_on set more sub need) (needs_on set more sub needs) is

  pub mono : (member : Member) (set more : List Pkg) → Sub set more → IsTrue (is_met_among set member.package) → IsTrue (is_met_among more member.package)
  mono member set more sub is = needs_on set more sub member.package.items is

  unique : (from : List Member) → IsDistinct bytes_eq (map member_name from) → (x y : Member) → Contains from x → Contains from y → pkg_of x ≡ pkg_of y → x ≡ y
  unique from differ x y at other same = one_of_name member_name from differ x y at other (ap (λ (p : Pkg). p.name) same)

  name_is : (a b : List ℕ) → not (bytes_eq a b) ≡ true → a ≡ b → ⊥
  name_is a b apart same = let e : false ≡ true = ap not (sym ((bytes_eq-Decides a b).1 same)) ∙ apart in cc

  -- a member that is not met in the set is dropped, with its package
  pub dropped_covers : (from kept rest : List Member) (m : Member) (set : List Pkg) → IsDistinct bytes_eq (map member_name from) → Covers from (kept ++ m ∷ rest) set
      → is_met_among set m.package ≡ false → Covers from (kept ++ rest) (set_without set (member_name m))
  dropped_covers from kept rest m set differ h unmet =
      let apart_from : Pkg → Bool = λ p. not (bytes_eq p.name (member_name m)) in
      let keeps : (p : Pkg) → Contains set p → ¬ (p ≡ pkg_of m) → Contains (set_without set (member_name m)) p = λ p at apart.
      let c = h.covered p at in
      in_filter apart_from set p at (not_named_so p.name (member_name m) (λ same.
      apart (sym c.2 ∙ ap pkg_of (one_of_name member_name from differ c.0 m (h.some c.0 c.1) (h.some m (between kept m rest)) (ap (λ (q : Pkg). q.name) c.2 ∙ same))))) in
      record {
        some = λ x at. h.some x (wider kept m rest x at);
        covered = λ p at.
            let d = of_filter apart_from set p at in
            let c = h.covered p d.0 in
            (c.0, narrower kept m rest c.0 c.1 (λ same. name_is p.name (member_name m) d.1 (ap (λ (q : Pkg). q.name) (sym c.2) ∙ ap member_name (sym same))), c.2);
        largest = λ other within all x at.
            keeps (pkg_of x) (h.largest other within all x at) (λ same.
            let is = unique from differ x m (within x at) (h.some m (between kept m rest)) same in
            let Q : Member → Type 0 = λ z. Contains other z in
            let there = all m (subst Q is at) in
            let R : Pkg → Type 0 = λ p. Contains set p in
            let up = mono m (pkgs_of other) set (λ p in_other. let c = of_map pkg_of other p in_other in subst R c.2 (h.largest other within all c.0 c.1)) there in
            let e : false ≡ true = sym unmet ∙ up in cc);
      }
    where
      not_named_so : (a b : List ℕ) → (a ≡ b → ⊥) → not (bytes_eq a b) ≡ true
      not_named_so a b apart = by (bytes_eq a b) refl
        where
          by : (t : Bool) → bytes_eq a b ≡ t → not t ≡ true
          by true is = absurd (apart ((bytes_eq-Decides a b).0 is))
          by false is = refl

  -- once all that is left is met in the set, each member is met, and each part in which all are is among them
  pub left_met : (from left : List Member) (set : List Pkg) → Covers from left set → ((x : Member) → Contains left x → IsTrue (is_met_among set x.package)) → AreMet left
  left_met from left set h met_there x at =
      let R : Pkg → Type 0 = λ p. Contains (pkgs_of left) p in
      mono x set (pkgs_of left) (λ p in_set. let c = h.covered p in_set in subst R c.2 (in_map pkg_of left c.0 c.1)) (met_there x at)

  pub left_largest : (from left : List Member) (set : List Pkg) → IsDistinct bytes_eq (map member_name from) → Covers from left set → (other : List Member) → AreAmong other from → AreMet other → AreAmong other left
  left_largest from left set differ h other within all x at =
      let c = h.covered (pkg_of x) (h.largest other within all x at) in
      let Q : Member → Type 0 = λ z. Contains left z in
      subst Q (unique from differ c.0 x (h.some c.0 c.1) (within x at) c.2) c.1

  -- the same members in another order are met too
  pub met_again : (left again : List Member) → AreAmong left again → AreAmong again left → AreMet left → AreMet again
  met_again left again into back all x at =
      let R : Pkg → Type 0 = λ p. Contains (pkgs_of again) p in
      mono x (pkgs_of left) (pkgs_of again) (λ p in_left. let c = of_map pkg_of left p in_left in subst R c.2 (in_map pkg_of again c.0 (into c.0 c.1))) (all x (back x at))
