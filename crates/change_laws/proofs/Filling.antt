-- A member whose turn it is suits what is installed, where the plan fits.
use Rattle.std.proofs.Common.{◌≡◌, ◌∙◌, ℕ, zero, suc, ◌+◌, ◌<◌, ◌≤◌, List, [], ◌∷◌, ◌++◌, drop, length, map, take, Bool, true, false, not, Some, refl, sym, ap, subst, arith, inl, inr, append_assoc}
use Rattle.std.specs.Prelude.{◌&&◌, ◌||◌, IsFalse, IsTrue, bytes_eq, nat_eq, nat_le, nat_lt, slice_get, slice_index_or}
use Rattle.std.specs.List.{IsDistinct, list_all, list_any}
use Rattle.std.proofs.lemmas.Bool.{false≢true}
use Rattle.std.proofs.lemmas.Bool.Decides.{nat_tests}
use Rattle.std.proofs.lemmas.List.{get_or-drop, length-drop, map-append, take-append-drop}
use Rattle.std.proofs.lemmas.List.Folds.{list_any-append}
use Rattle.opam_names.specs.declared.packages.Pkg.{Pkg}
use Rattle.opam_filter.specs.Sets.{holds, is_met_by}
use Rattle.opam_filter.specs.Reductions.{is_met}
use Rattle.opam_filter.specs.declared.formula.Test.{Test}
use Rattle.opam_package.specs.Dependencies.{is_edge, is_run_with}
use Rattle.opam_package.specs.declared.package.Member.{Member}
use Rattle.opam_package.specs.declared.package.Need.{Need}
use Rattle.action_graph.specs.PlanLaws.{IsStepAt}
use Rattle.action_graph.specs.declared.plan.Step.{Step}
use Rattle.change_floor.specs.Floors.{has_installed, install_place, is_done_at, is_there}
use Rattle.change_floor.proofs.Keeping.{done_within}
use Rattle.change_floor.proofs.Standing.{own_place}
use Rattle.switch_journal.specs.Applying.{is_put_back, puts_back}
use Rattle.switch_journal.specs.declared.request.Done.{Done}
use Rattle.switch_journal.specs.declared.request.Done.TheVariants as done
use Rattle.switch_state.specs.Ends.{is_called}
use Rattle.switch_state.specs.Sound.{TargetAgrees, has_edge, is_against, is_all_met, member_pkg, member_pkgs, name_of, runs_on}
use Rattle.switch_state.proofs.SoundKept.{any_end, bytes_self, is_false, neither, or_left, or_right}
use Rattle.change_outcome.specs.Changes.{Change, Point}
use Rattle.change_outcome.specs.Running.{CanRun, coming, staying}
use Rattle.change_outcome.proofs.Lists.{all_at, all_more, and_left, and_right, any_map, distinct_at, get_in}
use Rattle.change_outcome.proofs.Returning.{any_back, bytes_same, or_second}
use Rattle.change_laws.specs.Fits.{IsFitFor, MayStay, has_stayed, is_need_met}
use Rattle.change_laws.proofs.Chosen.{chosen, chosen_in, chosen_none}
use Rattle.change_laws.proofs.Formulas.{runs_grow}
use Rattle.change_laws.proofs.Needs.{all_false, all_needs, all_place, any_place, contains_place, edge_is_need, none_at, one_place, place_any, run_is_need, some_same, two_agree}
use Rattle.change_laws.proofs.Places.{Comes, comes, comes_by, drop_at}

-- ---- lists

none_or_all : {X : Type 0} (f g : X → Bool) (xs : List X) → ((x : X) → f x ≡ false → g x ≡ false) → list_all (λ x. not (f x)) xs ≡ true → list_any g xs ≡ false
none_or_all f g [] less all = refl
none_or_all f g (x ∷ xs) less all =
    neither (g x) (list_any g xs) (less x (opposite (f x) (and_left (not (f x)) (list_all (λ y. not (f y)) xs) all)))
    (none_or_all f g xs less (and_right (not (f x)) (list_all (λ y. not (f y)) xs) all))
  where
    opposite : (b : Bool) → not b ≡ true → b ≡ false
    opposite true is = absurd (false≢true is)
    opposite false is = refl

pub is_back : (pkg : Pkg) (things : List Done) → list_any (puts_back pkg) things ≡ true → list_any is_put_back things ≡ true
is_back pkg [] is = absurd (false≢true is)
is_back pkg (done.Removed gone number kept ∷ things) is = is_back pkg things is
is_back pkg (done.Installed other ∷ things) is = is_back pkg things is
is_back pkg (done.PutBack other ∷ things) is = refl

lt_not : (n m k : ℕ) → n ≤ m → k ≤ n → nat_lt m k ≡ false
lt_not n m k le ke = grind (arith, nat_tests)

le_is : (n m : ℕ) → nat_le n m ≡ true → n ≤ m
le_is n m is = grind (arith, nat_tests)

lt_is : (n m : ℕ) → nat_lt n m ≡ true → n < m
lt_is n m is = grind (arith, nat_tests)

take_get : {X : Type 0} (xs : List X) (n k : ℕ) (x : X) → k < n → slice_get xs k ≡ Some x → slice_get (take n xs) k ≡ Some x
take_get [] n k x less is = absurd cc
take_get (y ∷ xs) zero k x less is = absurd (omega (arith, less))
take_get (y ∷ xs) (suc n) zero x less is = is
take_get (y ∷ xs) (suc n) (suc k) x less is = take_get xs n k x (omega (arith, less)) is

module _ (change : Change) (start : Point) (can : CanRun change start) (fit : IsFitFor change start.state can.request) (target : TargetAgrees change.members) where
  -- an entry that stays is a member of the target while installs are left
  stays_there : 0 < length change.plan.installs → (entry : Member) → MayStay change can.request entry → (k : ℕ) × (slice_get change.members k ≡ Some entry)
  stays_there some entry (inl there) = contains_place change.members entry there
  stays_there some entry (inr back) = absurd (false≢true (sym (can.back some) ∙ is_back (member_pkg entry) can.request.done back))

  module _ (i : ℕ) (it : Comes change start can i) (within : i < length change.plan.installs) (bools : List Bool) (long : length bools ≡ length change.plan.removals + i) where
    abbrev flags : List Bool
    flags = drop (length change.plan.removals) bools

    -- what is installed then
    abbrev pub entries : List Member
    entries = staying change ++ chosen flags (coming change)

    some : 0 < length change.plan.installs
    some = omega (arith, within)

    stayed : (need : ℕ) (q : Member) → slice_get change.members need ≡ Some q → has_stayed change (slice_get change.members need) ≡ true → (t : Member → Bool) → t q ≡ true → list_any t entries ≡ true
    stayed need q there is t here =
        let found = any_place (is_called (name_of q)) (staying change) (ap (has_stayed change) (sym there) ∙ is) in
        let entry = found.1 in
        let place = stays_there some entry (all_place (MayStay change can.request) (staying change) found.0 entry fit.stays found.2) in
        let same : name_of entry ≡ name_of q = sym (bytes_same (name_of q) (name_of entry) found.3) in
        let at_one = one_place change.members place.0 need entry q fit.names place.1 there same in
        let e : entry ≡ q = some_same entry q (slice_get change.members need) (sym (ap (slice_get change.members) at_one) ∙ place.1) there in
        list_any-append t (staying change) (chosen flags (coming change))
        ∙ first (list_any t (staying change)) (list_any t (chosen flags (coming change))) (place_any t (staying change) found.0 entry found.2 (ap t e ∙ here))
      where
        first : (a b : Bool) → a ≡ true → (a || b) ≡ true
        first a b is = rw is refl

    came : (need : ℕ) (q : Member) → slice_get change.members need ≡ Some q → is_done_at change.plan bools (install_place change.plan.installs need) ≡ true → (t : Member → Bool) → t q ≡ true → list_any t entries ≡ true
    came need q there is t here =
        let p : ℕ = install_place change.plan.installs need in
        let before = done_within change.plan bools p is in
        let step = get_in change.plan.installs p (omega (arith, before, long, within)) in
        let own = own_place change.plan.installs need step.0 step.1 in
        let at = comes_by change start can p step.0 step.1 in
        let e : at.member ≡ q = some_same at.member q (slice_get change.members need) (ap (slice_get change.members) (sym own) ∙ at.there) there in
        let flag : slice_index_or flags p false ≡ true = get_or-drop (length change.plan.removals) bools p false ∙ is in
        list_any-append t (staying change) (chosen flags (coming change))
        ∙ or_second (list_any t (staying change)) (list_any t (chosen flags (coming change))) (chosen_in t flags (coming change) p at.member flag at.named (ap t e ∙ here))

    -- a need that is installed is an entry
    need_is_entry : (need : ℕ) (q : Member) → slice_get change.members need ≡ Some q → is_need_met change i need ≡ true → has_installed change.plan bools need ≡ true → (t : Member → Bool) → t q ≡ true → list_any t entries ≡ true
    need_is_entry need q there met has t here = by (is_there change.plan need) refl has
      where
        by : (b : Bool) → is_there change.plan need ≡ b → (b || is_done_at change.plan bools (install_place change.plan.installs need)) ≡ true → list_any t entries ≡ true
        by true is has =
            let far = le_is (length change.plan.installs) (install_place change.plan.installs need)
            (and_left (nat_le (length change.plan.installs) (install_place change.plan.installs need)) (not (list_any (nat_eq need) change.plan.missing)) is) in
            let behind = lt_not (length change.plan.installs) (install_place change.plan.installs need) i far (omega (arith, within)) in
            let present = opposite (list_any (nat_eq need) change.plan.missing) (and_right (nat_le (length change.plan.installs) (install_place change.plan.installs need)) (not (list_any (nat_eq need) change.plan.missing)) is) in
            stayed need q there (first (has_stayed change (slice_get change.members need)) (nat_lt (install_place change.plan.installs need) i) (list_any (nat_eq need) change.plan.missing) behind present met) t here
          where
            opposite : (b : Bool) → not b ≡ true → b ≡ false
            opposite true is = absurd (false≢true is)
            opposite false is = refl

            first : (a b c : Bool) → b ≡ false → c ≡ false → (a || b || c) ≡ true → a ≡ true
            first true b c two three is = refl
            first false b c two three is = absurd (false≢true (sym (neither b c two three) ∙ is))
        by false is has = came need q there has t here

    module _ (lacks_none : list_all (has_installed change.plan bools) it.step.needs ≡ true) where
      named_there : (name : List ℕ) (test : Test) → is_run_with it.member.package.items name ≡ true → list_any (is_met_by name test) (member_pkgs change.members) ≡ true
          → list_any (is_met_by name test) (member_pkgs (entries ++ it.member ∷ [])) ≡ true
      named_there name test named any =
          let found = any_place (λ (m : Member). is_met_by name test (member_pkg m)) change.members (sym (any_map member_pkg (is_met_by name test) change.members) ∙ any) in
          let q = found.1 in
          any_map member_pkg (is_met_by name test) (entries ++ it.member ∷ []) ∙ by found.0 q found.2 found.3 (bytes_eq (name_of q) (name_of it.member)) refl
        where
          t : Member → Bool
          t = λ (m : Member). is_met_by name test (member_pkg m)

          by : (k : ℕ) (q : Member) → slice_get change.members k ≡ Some q → is_met_by name test (member_pkg q) ≡ true → (b : Bool) → bytes_eq (name_of q) (name_of it.member) ≡ b → list_any (λ (m : Member). is_met_by name test (member_pkg m)) (entries ++ it.member ∷ []) ≡ true
          by k q there passes true same =
              let at_one = one_place change.members k it.step.member q it.member fit.names there it.there (bytes_same (name_of q) (name_of it.member) same) in
              let e : q ≡ it.member = some_same q it.member (slice_get change.members it.step.member) (sym (ap (slice_get change.members) at_one) ∙ there) it.there in
              any_end (λ (m : Member). is_met_by name test (member_pkg m)) entries it.member (ap (λ (m : Member). is_met_by name test (member_pkg m)) (sym e) ∙ passes)
          by k q there passes false other =
              let called = bytes_same (name_of q) name (and_left (bytes_eq (name_of q) name) (is_met test (member_pkg q).version) passes) in
              let needed = run_is_need it.member.package (member_pkg q) (ap not other) (ap (is_run_with it.member.package.items) called ∙ named) in
              let needs = fit.needs i it.step it.stands in
              let met = all_needs (is_need_met change i) change.members it.step.member k it.member q it.there (ap (list_all (is_need_met change i)) (sym needs) ∙ fit.met i it.step it.stands) there needed in
              let has = all_needs (has_installed change.plan bools) change.members it.step.member k it.member q it.there (ap (list_all (has_installed change.plan bools)) (sym needs) ∙ lacks_none) there needed in
              list_any-append (λ (m : Member). is_met_by name test (member_pkg m)) entries (it.member ∷ [])
              ∙ first (list_any (λ (m : Member). is_met_by name test (member_pkg m)) entries) (list_any (λ (m : Member). is_met_by name test (member_pkg m)) (it.member ∷ []))
              (need_is_entry k q there met has (λ (m : Member). is_met_by name test (member_pkg m)) passes)
            where
              first : (a b : Bool) → a ≡ true → (a || b) ≡ true
              first a b is = rw is refl

      pub runs : IsTrue (runs_on (member_pkgs (entries ++ it.member ∷ [])) it.member.package)
      runs =
          let met = all_at (λ (m : Member). is_all_met (member_pkgs change.members) m.package) change.members it.step.member it.member target.met it.there in
          let running = all_more (λ (n : Need). holds n.runtime (member_pkgs change.members) && holds n.building (member_pkgs change.members) && holds n.full (member_pkgs change.members)) (λ (n : Need). holds n.runtime (member_pkgs change.members)) it.member.package.items
          (λ n is.
          and_left (holds n.runtime (member_pkgs change.members)) (holds n.building (member_pkgs change.members))
          (and_left (holds n.runtime (member_pkgs change.members) && holds n.building (member_pkgs change.members)) (holds n.full (member_pkgs change.members)) is)) met in
          runs_grow (member_pkgs change.members) (member_pkgs (entries ++ it.member ∷ [])) (λ name. is_run_with it.member.package.items name ≡ true) named_there it.member.package.items (λ name is. is) running

    -- the member is none of those that stay and come before it
    unnamed : list_any (λ (m : Member). bytes_eq (name_of it.member) (name_of m)) (staying change ++ take i (coming change)) ≡ false
    unnamed =
        let split : coming change ≡ take i (coming change) ++ it.member ∷ drop (suc i) (coming change) = sym (take-append-drop i (coming change)) ∙ ap (λ ms. take i (coming change) ++ ms) (drop_at (coming change) i it.member it.named) in
        let whole : staying change ++ coming change ≡ (staying change ++ take i (coming change)) ++ it.member ∷ drop (suc i) (coming change) =
        ap (λ ms. staying change ++ ms) split ∙ sym (append_assoc (staying change) (take i (coming change)) (it.member ∷ drop (suc i) (coming change))) in
        sym (any_map name_of (bytes_eq (name_of it.member)) (staying change ++ take i (coming change)))
        ∙ distinct_at (map name_of (staying change ++ take i (coming change))) (name_of it.member) (map name_of (drop (suc i) (coming change)))
        (subst (IsDistinct bytes_eq) (ap (map name_of) whole ∙ map-append name_of (staying change ++ take i (coming change)) (it.member ∷ drop (suc i) (coming change))) can.fresh)

    -- no install before it is the same member
    not_before : (p : ℕ) (step : Step) → p < i → IsStepAt change.plan p step → step.member ≡ it.step.member → ⊥
    not_before p step less stands same =
        let at = comes_by change start can p step stands in
        let e : at.member ≡ it.member = some_same at.member it.member (slice_get change.members it.step.member) (ap (slice_get change.members) (sym same) ∙ at.there) it.there in
        let none = any_back (λ (m : Member). bytes_eq (name_of it.member) (name_of m)) (staying change) (take i (coming change)) unnamed in
        false≢true
        (sym (none_at (λ (m : Member). bytes_eq (name_of it.member) (name_of m)) (take i (coming change)) p at.member none (take_get (coming change) i p at.member less at.named))
        ∙ ap (λ (m : Member). bytes_eq (name_of it.member) (name_of m)) e ∙ bytes_self (name_of it.member))

    -- no earlier one has an edge to it
    earlier_apart : (j : ℕ) (e : Member) → j < i → slice_get (coming change) j ≡ Some e → is_edge e.package (member_pkg it.member) ≡ false
    earlier_apart j e less named =
        let at = comes change start can j (omega (arith, less, within)) in
        let same : at.member ≡ e = some_same at.member e (slice_get (coming change) j) at.named named in
        is_false (is_edge e.package (member_pkg it.member))
        (λ edge.
        let needed = edge_is_need at.member.package (member_pkg it.member) (ap (λ (m : Member). is_edge m.package (member_pkg it.member)) same ∙ edge) in
        let met = all_needs (is_need_met change j) change.members at.step.member it.step.member at.member it.member at.there
        (ap (list_all (is_need_met change j)) (sym (fit.needs j at.step at.stands)) ∙ fit.met j at.step at.stands) it.there needed in
        false≢true (sym (nothing j less) ∙ met))
      where
        nothing : (j : ℕ) → j < i → is_need_met change j it.step.member ≡ false
        nothing j less =
            let stayed : has_stayed change (slice_get change.members it.step.member) ≡ false =
            ap (has_stayed change) it.there ∙ first_none (λ (m : Member). bytes_eq (name_of it.member) (name_of m)) (staying change) (take i (coming change)) unnamed in
            let p : ℕ = install_place change.plan.installs it.step.member in
            let before : nat_lt p j ≡ false =
            is_false (nat_lt p j) (λ is.
            let below = lt_is p j is in
            let step = get_in change.plan.installs p (omega (arith, below, less, within)) in
            not_before p step.0 (omega (arith, below, less)) step.1 (own_place change.plan.installs it.step.member step.0 step.1)) in
            let present = none_at (λ (step : Step). list_any (nat_eq step.member) change.plan.missing) change.plan.installs i it.step fit.present it.stands in
            neither (has_stayed change (slice_get change.members it.step.member) || nat_lt p j) (list_any (nat_eq it.step.member) change.plan.missing) (neither (has_stayed change (slice_get change.members it.step.member)) (nat_lt p j) stayed before) present
          where
            first_none : (t : Member → Bool) (xs ys : List Member) → list_any t (xs ++ ys) ≡ false → list_any t xs ≡ false
            first_none t [] ys none = refl
            first_none t (x ∷ xs) ys none = neither (t x) (list_any t xs) (or_left (t x) (list_any t (xs ++ ys)) none) (first_none t xs ys (or_right (t x) (list_any t (xs ++ ys)) none))

    -- each of these flags is of an earlier install
    few : (j : ℕ) → j < length flags → j < i
    few j less = (let e = length-drop (length change.plan.removals) bools in omega (arith, e, long, less))

    last : IsFalse (list_any (λ (m : Member). is_edge m.package (member_pkg it.member)) entries)
    last =
        list_any-append (λ (m : Member). is_edge m.package (member_pkg it.member)) (staying change) (chosen flags (coming change))
        ∙ neither (list_any (λ (m : Member). is_edge m.package (member_pkg it.member)) (staying change)) (list_any (λ (m : Member). is_edge m.package (member_pkg it.member)) (chosen flags (coming change)))
        (none_or_all (λ (m : Member). has_edge m (member_pkgs (coming change))) (λ (m : Member). is_edge m.package (member_pkg it.member)) (staying change)
        (λ m none. none_at (λ (c : Member). is_edge m.package (member_pkg c)) (coming change) i it.member (sym (any_map member_pkg (is_edge m.package) (coming change)) ∙ none) it.named) fit.apart)
        (chosen_none (λ (m : Member). is_edge m.package (member_pkg it.member)) flags (coming change) (λ j e less named. earlier_apart j e (few j less) named))

    -- a test that no member of the target meets
    none_there : (t : Member → Bool) → ((k : ℕ) (m : Member) → slice_get change.members k ≡ Some m → t m ≡ false) → list_any t entries ≡ false
    none_there t none =
        list_any-append t (staying change) (chosen flags (coming change))
        ∙ neither (list_any t (staying change)) (list_any t (chosen flags (coming change)))
        (all_false (MayStay change can.request) t (staying change) (λ entry may. let place = stays_there some entry may in none place.0 entry place.1) fit.stays)
        (chosen_none t flags (coming change)
        (λ j e less named.
        let at = comes change start can j (let f = few j less in omega (arith, f, within)) in
        let same : at.member ≡ e = some_same at.member e (slice_get (coming change) j) at.named named in
        ap t (sym same) ∙ none at.step.member at.member at.there))

    agreed : IsFalse (list_any (λ (m : Member). is_against m.package it.member.package) entries)
    agreed = none_there (λ (m : Member). is_against m.package it.member.package) (λ k m there. two_agree change.members k it.step.member m it.member target.agree there it.there)

    agrees : IsFalse (list_any (λ (m : Member). is_against it.member.package m.package) entries)
    agrees = none_there (λ (m : Member). is_against it.member.package m.package) (λ k m there. two_agree change.members it.step.member k it.member m target.agree it.there there)

    pub record Suited : Type 0 where
      pub last : IsFalse (list_any (λ (m : Member). is_edge m.package (member_pkg it.member)) entries)
      pub agreed : IsFalse (list_any (λ (m : Member). is_against m.package it.member.package) entries)
      pub agrees : IsFalse (list_any (λ (m : Member). is_against it.member.package m.package) entries)

    pub suited : Suited
    suited = record { last = last; agreed = agreed; agrees = agrees }
