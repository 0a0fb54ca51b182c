-- A plan that is fit for a switch and a target fits a request for it.
use Rattle.std.proofs.Common.{◌≡◌, ◌∙◌, ℕ, zero, suc, ◌+◌, ◌<◌, ◌≤◌, List, [], ◌∷◌, length, Bool, true, false, not, cond, Option, Some, None, refl, sym, ap, subst, arith, inl, inr}
use Rattle.std.specs.Prelude.{◌||◌, ◌⊎◌, Contains, bytes_eq, filter, filter_map, nat_eq, nat_lt, slice_get}
use Rattle.std.specs.List.{All, cons_option, list_all, list_any, slice_index_or}
use Rattle.std.specs.Option.{option_map}
use Rattle.std.proofs.lemmas.Bool.{false≢true}
use Rattle.std.proofs.lemmas.Bool.Decides.{nat_tests}
use Rattle.std.proofs.lemmas.List.Elements.{All-cons, All-nil}
use Rattle.std.proofs.lemmas.Option.{slice_get-get_or, slice_get_within}
use Rattle.opam_names.specs.declared.packages.Pkg.{Pkg}
use Rattle.opam_package.specs.Dependencies.{is_edge}
use Rattle.opam_package.specs.declared.package.Member.{Member}
use Rattle.opam_package.specs.declared.package.Target.{Target}
use Rattle.owner_map.specs.Owning.{is_same_pkg}
use Rattle.action_graph.specs.Fitness.{AreAtOne, IsFit, Stays}
use Rattle.action_graph.specs.Leaving as leaving
use Rattle.action_graph.specs.Leaving.{edge_between, member_called}
use Rattle.action_graph.specs.Links.{member_needs, needs_at}
use Rattle.action_graph.specs.PlanLaws.{IsStepAt}
use Rattle.action_graph.specs.Places.{IsIn}
use Rattle.action_graph.specs.declared.plan.Step.{Step}
use Rattle.action_graph.proofs.Leading.{called_at}
use Rattle.action_graph.proofs.Lookups.{rises_differ}
use Rattle.action_graph.proofs.Membership.{none_in_nil}
use Rattle.action_graph.proofs.Placing.{needs_within}
use Rattle.change_floor.specs.Floors.{install_place}
use Rattle.switch_state.specs.Actions.{is_other_member}
use Rattle.switch_state.specs.Ends.{is_called}
use Rattle.switch_state.specs.Sound.{NamesDiffer, has_edge, member_pkg, member_pkgs, name_of}
use Rattle.switch_state.proofs.RequestKept.{same_pkg}
use Rattle.switch_state.proofs.SoundKept.{bytes_self, is_false, pkg_self}
use Rattle.change_outcome.specs.Changes.{Change}
use Rattle.change_outcome.specs.Running.{coming, staying, stays_by}
use Rattle.change_outcome.specs.Running as running
use Rattle.change_outcome.proofs.Lists.{and_left, and_right, any_filter, any_map, both, get_in, neither, or_right}
use Rattle.change_laws.specs.Fits.{FitPlansFit, MayStay, has_stayed, is_need_met}
use Rattle.change_laws.proofs.Needs.{one_place, some_same}

-- ---- lists by their places

module _ {X : Type 0} where
  all_by : (P : X → Type 0) (xs : List X) → ((k : ℕ) (x : X) → slice_get xs k ≡ Some x → P x) → All P xs
  all_by P [] each = All-nil P
  all_by P (x ∷ xs) each = All-cons P x xs (each 0 x refl) (all_by P xs (λ k y is. each (suc k) y is))

  pub pass_by : (t : X → Bool) (xs : List X) → ((k : ℕ) (x : X) → slice_get xs k ≡ Some x → t x ≡ true) → list_all t xs ≡ true
  pass_by t [] each = refl
  pass_by t (x ∷ xs) each = both (t x) (list_all t xs) (each 0 x refl) (pass_by t xs (λ k y is. each (suc k) y is))

  pub none_by : (t : X → Bool) (xs : List X) → ((k : ℕ) (x : X) → slice_get xs k ≡ Some x → t x ≡ false) → list_any t xs ≡ false
  none_by t [] each = refl
  none_by t (x ∷ xs) each = neither (t x) (list_any t xs) (each 0 x refl) (none_by t xs (λ k y is. each (suc k) y is))

  pub place_contains : (xs : List X) (k : ℕ) (x : X) → slice_get xs k ≡ Some x → Contains xs x
  place_contains xs k x is =
      let within = slice_get_within xs k x is in
      (k, within, some_same (slice_index_or xs k x) x (slice_get xs k) (slice_get-get_or xs k x within) is)

  -- what is kept of a list stood there, and passes
  pub kept_at : (keep : X → Bool) (xs : List X) (k : ℕ) (x : X) → slice_get (filter keep xs) k ≡ Some x → (j : ℕ) × (slice_get xs j ≡ Some x) × (keep x ≡ true)
  kept_at keep [] k x is = absurd cc
  kept_at keep (y ∷ xs) k x is = by (keep y) refl k is (kept_at keep xs)
    where
      by : (b : Bool) → keep y ≡ b → (n : ℕ) → slice_get (cond b (y ∷ filter keep xs) (filter keep xs)) n ≡ Some x → ((n : ℕ) (x : X) → slice_get (filter keep xs) n ≡ Some x → (j : ℕ) × (slice_get xs j ≡ Some x) × (keep x ≡ true))
          → (j : ℕ) × (slice_get (y ∷ xs) j ≡ Some x) × (keep x ≡ true)
      by true passes zero is more = (let e : y ≡ x = cc in (0, is, ap keep (sym e) ∙ passes))
      by true passes (suc n) is more = (let it = more n x is in (suc it.0, it.1, it.2))
      by false passes n is more = (let it = more n x is in (suc it.0, it.1, it.2))

module _ {X Y : Type 0} (f : X → Option Y) where
  -- what is given was given by an element
  pub given_at : (xs : List X) (k : ℕ) (y : Y) → slice_get (filter_map f xs) k ≡ Some y → (i : ℕ) × (x : X) × (slice_get xs i ≡ Some x) × (f x ≡ Some y)
  given_at [] k y is = absurd cc
  given_at (x ∷ xs) k y is = by (f x) refl k is (given_at xs)
    where
      by : (o : Option Y) → f x ≡ o → (n : ℕ) → slice_get (cons_option o (filter_map f xs)) n ≡ Some y → ((n : ℕ) (y : Y) → slice_get (filter_map f xs) n ≡ Some y → (i : ℕ) × (z : X) × (slice_get xs i ≡ Some z) × (f z ≡ Some y))
          → (i : ℕ) × (z : X) × (slice_get (x ∷ xs) i ≡ Some z) × (f z ≡ Some y)
      by None gives n is more = (let it = more n y is in (suc it.0, it.1, it.2, it.3))
      by (Some z) gives zero is more = (0, x, refl, gives ∙ is)
      by (Some z) gives (suc n) is more = (let it = more n y is in (suc it.0, it.1, it.2, it.3))

  given_passes : (t : Y → Bool) (xs : List X) (i : ℕ) (x : X) (y : Y) → list_all t (filter_map f xs) ≡ true → slice_get xs i ≡ Some x → f x ≡ Some y → t y ≡ true
  given_passes t [] i x y all is gives = absurd cc
  given_passes t (z ∷ xs) zero x y all is gives =
      (let e : z ≡ x = cc in and_left (t y) (list_all t (filter_map f xs)) (ap (λ o. list_all t (cons_option o (filter_map f xs))) (sym (ap f e ∙ gives)) ∙ all))
  given_passes t (z ∷ xs) (suc i) x y all is gives = given_passes t xs i x y (by (f z) all) is gives
    where
      by : (o : Option Y) → list_all t (cons_option o (filter_map f xs)) ≡ true → list_all t (filter_map f xs) ≡ true
      by None all = all
      by (Some w) all = and_right (t w) (list_all t (filter_map f xs)) all

lt_is : (n m : ℕ) → n < m → nat_lt n m ≡ true
lt_is n m less = grind (arith, nat_tests)

nat_self : (n : ℕ) → nat_eq n n ≡ true
nat_self n = grind (arith, nat_tests)

-- an install stands no later than where a step of its member does
place_first : (need : ℕ) (xs : List Step) (j : ℕ) (step : Step) → slice_get xs j ≡ Some step → step.member ≡ need → install_place xs need ≤ j
place_first need [] j step is same = absurd cc
place_first need (x ∷ xs) zero step is same =
    (let e : x ≡ step = cc in let f : nat_eq x.member need ≡ true = ap (λ n. nat_eq n need) (ap (λ (s : Step). s.member) e ∙ same) ∙ nat_self need in
    let g = ap (λ b. cond (not b) (1 + install_place xs need) 0) f in omega (arith, g))
place_first need (x ∷ xs) (suc j) step is same = by (nat_eq x.member need) (place_first need xs j step is same)
  where
    by : (b : Bool) → install_place xs need ≤ j → cond (not b) (1 + install_place xs need) 0 ≤ suc j
    by true later = omega arith
    by false later = omega (arith, later)

or_first : (a b c : Bool) → a ≡ true → (a || b || c) ≡ true
or_first a b c is = rw is refl

or_middle : (a b c : Bool) → b ≡ true → (a || b || c) ≡ true
or_middle true b c is = refl
or_middle false b c is = rw is refl

pub index_get : (xs : List ℕ) (x : ℕ) → IsIn xs x → (i : ℕ) × (slice_get xs i ≡ Some x)
index_get xs x is = (is.0, slice_get-get_or xs is.0 0 is.1 ∙ ap (λ y. Some y) is.2)

module _ (change : Change) (target : Target) (asked : AreAtOne change.entries target) (fit : IsFit change.entries target change.plan) (members : change.members ≡ target.members) where
  differ : NamesDiffer target.members
  differ = rises_differ name_of target.members asked.rises

  -- an entry that stays is not removed
  stays_at : (k : ℕ) (entry : Member) → slice_get (staying change) k ≡ Some entry → (at : ℕ) × Stays change.entries change.plan at entry
  stays_at k entry there =
      let it = kept_at (stays_by (running.leaving change)) change.entries k entry there in (
        it.0,
        (
          it.1,
          λ removed.
              let place = index_get change.plan.removals it.0 removed in
              false≢true
              (sym (ap not (pkg_self (member_pkg entry)))
              ∙ given_passes (λ at. option_map member_pkg (slice_get change.entries at)) (λ pkg. is_other_member pkg entry) change.plan.removals place.0 it.0 (member_pkg entry) it.2 place.1 (ap (option_map member_pkg) it.1)),
        ),
      )

  -- and one that is not removed stays
  at_stays : (at : ℕ) (entry : Member) → Stays change.entries change.plan at entry → stays_by (running.leaving change) entry ≡ true
  at_stays at entry stays =
      pass_by (λ pkg. is_other_member pkg entry) (running.leaving change)
      (λ k pkg there.
      let given = given_at (λ place. option_map member_pkg (slice_get change.entries place)) change.plan.removals k pkg there in
      ap not (is_false (is_same_pkg (member_pkg entry) pkg) (λ same. absurd (by given.0 given.1 given.2 (slice_get change.entries given.1) refl given.3 (same_pkg (member_pkg entry) pkg same)))))
    where
      by : {pkg : Pkg} (i place : ℕ) → slice_get change.plan.removals i ≡ Some place → (o : Option Member) → slice_get change.entries place ≡ o → option_map member_pkg o ≡ Some pkg → member_pkg entry ≡ pkg → ⊥
      by i place there None is gives same = absurd cc
      by {pkg} i place there (Some gone) is gives same =
          let e : member_pkg gone ≡ pkg = cc in
          let at_one = one_place change.entries place at gone entry asked.differ is stays.0 (ap (λ (p : Pkg). p.name) (e ∙ sym same)) in
          let within = slice_get_within change.plan.removals i place there in
          stays.1 (i, within, some_same _ at (slice_get change.plan.removals i) (slice_get-get_or change.plan.removals i 0 within) (there ∙ ap (λ n. Some n) at_one))

  edges_none : (entry m : Member) (at place : ℕ) → slice_get target.members at ≡ Some entry → slice_get target.members place ≡ Some m → leaving.has_edge target.members (name_of entry) (name_of m) ≡ false → is_edge entry.package (member_pkg m) ≡ false
  edges_none entry m at place one two none = (λ i. edge_between (sym (called_at target.members at entry differ one) i) (sym (called_at target.members place m differ two) i)) ∙ none

  entry_apart : (k : ℕ) (entry : Member) → slice_get (staying change) k ≡ Some entry → not (has_edge entry (member_pkgs (coming change))) ≡ true
  entry_apart k entry there =
      let stays = stays_at k entry there in
      let place = fit.stays stays.0 entry stays.1 in
      ap not
      (any_map member_pkg (is_edge entry.package) (coming change)
      ∙ none_by (λ (m : Member). is_edge entry.package (member_pkg m)) (coming change)
      (λ j m named.
      let given = given_at (λ (step : Step). slice_get change.members step.member) change.plan.installs j m named in
      let found : slice_get target.members given.1.member ≡ Some m = ap (λ (ms : List Member). slice_get ms given.1.member) (sym members) ∙ given.3 in
      edges_none entry m place.0 given.1.member place.1 found
      (or_right (leaving.has_edge change.entries (name_of entry) (name_of m)) (leaving.has_edge target.members (name_of entry) (name_of m))
      (fit.apart stays.0 entry (name_of m) stays.1 (inr (given.0, given.1, m, given.2, found, refl))))))

  need_met : (place : ℕ) (step : Step) → IsStepAt change.plan place step → (k need : ℕ) → slice_get step.needs k ≡ Some need → is_need_met change place need ≡ true
  need_met place step stands k need there =
      let within = slice_get_within step.needs k need there in
      let inside : IsIn step.needs need = (k, within, some_same _ need (slice_get step.needs k) (slice_get-get_or step.needs k 0 within) there) in
      let bound = below (slice_get target.members step.member) (subst (λ (ns : List ℕ). IsIn ns need) (fit.needs place step stands) inside) in
      let q = get_in target.members need bound in
      by q.0 q.1 (fit.met place step need q.0 stands inside q.1)
    where
      below : (o : Option Member) → IsIn (member_needs o target.members) need → need < length target.members
      below None inside = absurd (none_in_nil need inside)
      below (Some m) inside = needs_within m.package target.members need inside

      by : (q : Member) → slice_get target.members need ≡ Some q
          → ((at : ℕ) × (entry : Member) × Stays change.entries change.plan at entry × (name_of entry ≡ name_of q)) ⊎ ((j : ℕ) × (other : Step) × (j < place) × IsStepAt change.plan j other × (other.member ≡ need))
          → is_need_met change place need ≡ true
      by q found (inl it) =
          or_first (has_stayed change (slice_get change.members need)) (nat_lt (install_place change.plan.installs need) place) (list_any (nat_eq need) change.plan.missing)
          (ap (has_stayed change) (ap (λ (ms : List Member). slice_get ms need) members ∙ found)
          ∙ any_filter (is_called (name_of q)) (stays_by (running.leaving change)) change.entries it.0 it.1 it.2.0 (at_stays it.0 it.1 it.2) (ap (bytes_eq (name_of q)) it.3 ∙ bytes_self (name_of q)))
      by q found (inr it) =
          or_middle (has_stayed change (slice_get change.members need)) (nat_lt (install_place change.plan.installs need) place) (list_any (nat_eq need) change.plan.missing)
          (let e = place_first need change.plan.installs it.0 it.1 it.3 it.4 in let less = it.2 in lt_is (install_place change.plan.installs need) place (omega (arith, e, less)))

pub fit_plans : FitPlansFit
fit_plans change target state request asked fit members none order = record {
  names = subst NamesDiffer (sym members) (differ change target asked fit members);
  stays =
      all_by (MayStay change request) (staying change)
      (λ k entry there.
      let stays = stays_at change target asked fit members k entry there in
      let place = fit.stays stays.0 entry stays.1 in
      inl (subst (λ (ms : List Member). Contains ms entry) (sym members) (place_contains target.members place.0 entry place.1)));
  apart = pass_by (λ entry. not (has_edge entry (member_pkgs (coming change)))) (staying change) (entry_apart change target asked fit members);
  needs = λ place step stands. fit.needs place step stands ∙ ap (λ (ms : List Member). needs_at ms step.member) (sym members);
  met = λ place step stands. pass_by (is_need_met change place) step.needs (need_met change target asked fit members place step stands);
  present = none_by (λ (step : Step). list_any (nat_eq step.member) change.plan.missing) change.plan.installs (λ k step there. ap (list_any (nat_eq step.member)) none);
  order = order;
}
