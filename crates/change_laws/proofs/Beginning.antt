-- A change whose request is new begins well.
use Rattle.std.proofs.Common.{◌≡◌, ◌∙◌, ℕ, zero, suc, ◌+◌, ◌<◌, ◌≤◌, ◌⊎◌, List, [], ◌∷◌, ◌++◌, drop, filter, length, map, reverse, take, Bool, true, false, not, cond, Option, Some, None, refl, sym, ap, subst, arith, inl, inr}
use Rattle.std.specs.Prelude.{◌&&◌, ◌||◌, bytes_eq, filter_map, nat_lt, slice_get, slice_index}
use Rattle.std.specs.List.{cons_option, list_any}
use Rattle.std.specs.Option.{option_map}
use Rattle.std.proofs.lemmas.Bool.{false≢true}
use Rattle.std.proofs.lemmas.Bool.Decides.{nat_tests}
use Rattle.std.proofs.lemmas.List.{length-take-le, reverse-append, take-append-drop, take-take, take_all}
use Rattle.std.proofs.lemmas.List.Elements.{filter-append}
use Rattle.std.proofs.lemmas.Option.{slice_get-get_or, slice_get_within}
use Rattle.opam_names.specs.ByteOrders.{has_key}
use Rattle.opam_names.specs.declared.packages.Pkg.{Pkg}
use Rattle.opam_package.specs.Dependencies.{is_edge}
use Rattle.opam_package.specs.declared.package.Member.{Member}
use Rattle.opam_package.specs.declared.package.Target.{Target}
use Rattle.owner_map.specs.Owning.{is_same_pkg}
use Rattle.action_graph.specs.Fitness.{AreAtOne, IsFit, Stays}
use Rattle.action_graph.specs.GraphLaws.{HoldsOf}
use Rattle.action_graph.specs.Leaving as leaving
use Rattle.action_graph.specs.Leaving.{Comes, IsAffected, Leaves, OfName, edge_between, has_name}
use Rattle.action_graph.specs.Links.{needs_at}
use Rattle.action_graph.specs.Order.{IsOrder}
use Rattle.action_graph.specs.Places.{IsIn}
use Rattle.action_graph.specs.Plans.{IsPlan, step_of}
use Rattle.action_graph.specs.declared.plan.Step.{Step}
use Rattle.action_graph.proofs.Fitness.{plans_are_fit}
use Rattle.action_graph.proofs.Leading.{called_at}
use Rattle.action_graph.proofs.Lookups.{rises_differ}
use Rattle.action_graph.proofs.Membership.{none_in_nil}
use Rattle.action_graph.proofs.Placing.{in_cons}
use Rattle.switch_state.specs.Begins.{Asking, asking_for, pkg_at, pkgs_at, request_begun, state_begun}
use Rattle.switch_state.specs.Sound as sound
use Rattle.switch_state.specs.Sound.{AreInOrder, NamesDiffer, TargetAgrees, has_edge, is_kept_entry, member_pkg, member_pkgs, name_of, removals_left}
use Rattle.switch_state.specs.SoundLaws.{AsksSoundly, arriving, is_leaving, is_left_apart}
use Rattle.switch_state.specs.State.{Request, SwitchState}
use Rattle.switch_state.proofs.RequestKept.{opposite, same_pkg}
use Rattle.switch_state.proofs.SoundKept.{bytes_self, is_false, pkg_self}
use Rattle.change_outcome.specs.Changes.{Change}
use Rattle.change_outcome.specs.Running.{coming}
use Rattle.change_outcome.proofs.Lists.{and_left, and_right, any_map, both, get_in, neither, or_left, or_right}
use Rattle.change_outcome.proofs.Returning.{bytes_same, or_second}
use Rattle.change_laws.specs.BeginLaws.{BeginsWell, PlansBeginWell}
use Rattle.change_laws.specs.Fits.{IsFitFor, StandInOrder}
use Rattle.change_laws.specs.Rests.{IsRest, comes_at, comes_with, is_come, is_one_of}
use Rattle.change_laws.proofs.FitPlans.{fit_plans, given_at, kept_at, none_by, pass_by}
use Rattle.change_laws.proofs.Needs.{any_place, none_at, one_place, some_same}
use Rattle.change_laws.proofs.Ordering.{goes_said, order_to, stands_itself, test_at, whole_said}
use Rattle.change_laws.proofs.Parted.{behind_none, up_to_none}
use Rattle.change_laws.proofs.Places.{drop_at}

-- ---- lists

given_any : {X Y : Type 0} (f : X → Option Y) (t : Y → Bool) (xs : List X) (i : ℕ) (x : X) (y : Y) → slice_get xs i ≡ Some x → f x ≡ Some y → t y ≡ true → list_any t (filter_map f xs) ≡ true
given_any f t [] i x y is gives here = absurd cc
given_any f t (z ∷ xs) zero x y is gives here =
    (let e : z ≡ x = cc in ap (λ o. list_any t (cons_option o (filter_map f xs))) (ap f e ∙ gives) ∙ (rw here refl))
given_any f t (z ∷ xs) (suc i) x y is gives here = by (f z) (given_any f t xs i x y is gives here)
  where
    by : (o : Option _) → list_any t (filter_map f xs) ≡ true → list_any t (cons_option o (filter_map f xs)) ≡ true
    by None later = later
    by (Some w) later = or_second (t w) (list_any t (filter_map f xs)) later

mapped_at : {X Y : Type 0} (f : X → Y) (xs : List X) (i : ℕ) (x : X) → slice_get xs i ≡ Some x → slice_get (map f xs) i ≡ Some (f x)
mapped_at f [] i x is = absurd cc
mapped_at f (y ∷ xs) zero x is = (let e : y ≡ x = cc in ap (λ z. Some (f z)) e)
mapped_at f (y ∷ xs) (suc i) x is = mapped_at f xs i x is

filter_each : {X : Type 0} (s t : X → Bool) (xs : List X) → ((k : ℕ) (x : X) → slice_get xs k ≡ Some x → s x ≡ t x) → filter s xs ≡ filter t xs
filter_each s t [] same = refl
filter_each s t (x ∷ xs) same = (let later = filter_each s t xs (λ k y is. same (suc k) y is) in let here = same 0 x refl in λ i. cond (here i) (x ∷ later i) (later i))

filter_none : {X : Type 0} (t : X → Bool) (xs : List X) → ((k : ℕ) (x : X) → slice_get xs k ≡ Some x → t x ≡ false) → filter t xs ≡ []
filter_none t [] none = refl
filter_none t (x ∷ xs) none = ap (λ b. cond b (x ∷ filter t xs) (filter t xs)) (none 0 x refl) ∙ filter_none t xs (λ k y is. none (suc k) y is)

lt_is : (n m : ℕ) → n < m → nat_lt n m ≡ true
lt_is n m less = grind (arith, nat_tests)

get_taken : {X : Type 0} (xs : List X) (n k : ℕ) (x : X) → slice_get (take n xs) k ≡ Some x → slice_get xs k ≡ Some x
get_taken xs zero k x is = absurd cc
get_taken [] (suc n) k x is = absurd cc
get_taken (y ∷ xs) (suc n) zero x is = is
get_taken (y ∷ xs) (suc n) (suc k) x is = get_taken xs n k x is

take_get : {X : Type 0} (xs : List X) (n k : ℕ) (x : X) → k < n → slice_get xs k ≡ Some x → slice_get (take n xs) k ≡ Some x
take_get [] n k x less is = absurd cc
take_get (y ∷ xs) zero k x less is = absurd (omega (arith, less))
take_get (y ∷ xs) (suc n) zero x less is = is
take_get (y ∷ xs) (suc n) (suc k) x less is = take_get xs n k x (omega (arith, less)) is

get_dropped : {X : Type 0} (xs : List X) (n k : ℕ) → slice_get (drop n xs) k ≡ slice_get xs (n + k)
get_dropped xs zero k = (let e : 0 + k ≡ k = omega arith in ap (slice_get xs) (sym e))
get_dropped [] (suc n) k = refl
get_dropped (y ∷ xs) (suc n) k = (let e : suc n + k ≡ suc (n + k) = omega arith in get_dropped xs n k ∙ ap (slice_get (y ∷ xs)) (sym e))

-- each number is less than the one before it, the first than a bound
abbrev Falls : ℕ → List ℕ → Type 0
Falls bound [] = Unit {0}
Falls bound (place ∷ places) = (place < bound) × Falls place places

falls_from : (bound : ℕ) (places : List ℕ) → ((i : ℕ) → i < length places → slice_index places i < bound) → ((i j : ℕ) → i < j → j < length places → slice_index places j < slice_index places i) → Falls bound places
falls_from bound [] within falling = tt
falls_from bound (place ∷ places) within falling =
    (within 0 (omega arith), falls_from place places (λ i less. falling 0 (suc i) (omega arith) (omega (arith, less))) (λ i j less far. falling (suc i) (suc j) (omega (arith, less)) (omega (arith, far))))

falls_below : (bound : ℕ) (places : List ℕ) (k : ℕ) → Falls bound places → IsIn places k → k < bound
falls_below bound [] k falls is = absurd (none_in_nil k is)
falls_below bound (place ∷ places) k falls is = by (in_cons place places k is) (falls_below place places k falls.1)
  where
    by : (place ≡ k) ⊎ IsIn places k → (IsIn places k → k < place) → k < bound
    by (inl same) later = (let e = falls.0 in omega (arith, e, same))
    by (inr inside) later = (let e = falls.0 in let f = later inside in omega (arith, e, f))

-- ---- entries by places

module _ (members : List Member) (differ : NamesDiffer members) where
  place_in : (places : List ℕ) (at : ℕ) (entry : Member) → slice_get members at ≡ Some entry → IsIn places at → list_any (is_same_pkg (member_pkg entry)) (pkgs_at members places) ≡ true
  place_in places at entry there inside =
      given_any (pkg_at members) (is_same_pkg (member_pkg entry)) places inside.0 at (member_pkg entry) (slice_get-get_or places inside.0 0 inside.1 ∙ ap (λ n. Some n) inside.2) (ap (option_map member_pkg) there) (pkg_self (member_pkg entry))

  in_place : (places : List ℕ) (at : ℕ) (entry : Member) → slice_get members at ≡ Some entry → list_any (is_same_pkg (member_pkg entry)) (pkgs_at members places) ≡ true → IsIn places at
  in_place places at entry there is =
      let found = any_place (is_same_pkg (member_pkg entry)) (pkgs_at members places) is in
      let given = given_at (pkg_at members) places found.0 found.1 found.2 in
      by given.0 given.1 given.2 (slice_get members given.1) refl given.3 (same_pkg (member_pkg entry) found.1 found.3)
    where
      by : {pkg : Pkg} (i place : ℕ) → slice_get places i ≡ Some place → (o : Option Member) → slice_get members place ≡ o → option_map member_pkg o ≡ Some pkg → member_pkg entry ≡ pkg → IsIn places at
      by i place stands None is gives same = absurd cc
      by {pkg} i place stands (Some gone) is gives same =
          let e : member_pkg gone ≡ pkg = cc in
          let at_one = one_place members place at gone entry differ is there (ap (λ (p : Pkg). p.name) (e ∙ sym same)) in
          let within = slice_get_within places i place stands in
          (i, within, some_same _ at (slice_get places i) (slice_get-get_or places i 0 within) (stands ∙ ap (λ n. Some n) at_one))

  abbrev among : List ℕ → Pkg → Bool
  among places pkg = list_any (is_same_pkg pkg) (pkgs_at members places)

  -- those at places that fall stand in reverse
  reversed_by : (n : ℕ) (places : List ℕ) → n ≤ length members → Falls n places → filter (λ (m : Member). list_any (is_same_pkg (member_pkg m)) (pkgs_at members places)) (take n members) ≡ reverse (filter_map (slice_get members) places)
  reversed_by n [] within falls = filter_none (λ (m : Member). false) (take n members) (λ k x is. refl)
  reversed_by n (place ∷ places) within falls =
      let found = get_in members place (let e = falls.0 in omega (arith, e, within)) in
      let m : Member = found.0 in
      let here = take_get members n place m falls.0 found.1 in
      let test : Member → Bool = λ (x : Member). list_any (is_same_pkg (member_pkg x)) (pkgs_at members (place ∷ places)) in
      let split : take n members ≡ take place members ++ m ∷ drop (suc place) (take n members) =
      sym (take-append-drop place (take n members))
      ∙ (λ i. take-take place n members (let e = falls.0 in omega (arith, e)) i ++ drop_at (take n members) place m here i) in
      let front : filter test (take place members) ≡ filter (λ (x : Member). list_any (is_same_pkg (member_pkg x)) (pkgs_at members places)) (take place members) =
      filter_each test (λ (x : Member). list_any (is_same_pkg (member_pkg x)) (pkgs_at members places)) (take place members)
      (λ k x is.
      ap (λ o. list_any (is_same_pkg (member_pkg x)) (cons_option o (pkgs_at members places))) (ap (option_map member_pkg) found.1)
      ∙ ap (λ b. b || list_any (is_same_pkg (member_pkg x)) (pkgs_at members places))
      (is_false (is_same_pkg (member_pkg x) (member_pkg m)) (λ same.
      let at_one = one_place members k place x m differ (get_taken members place k x is) found.1 (ap (λ (p : Pkg). p.name) (same_pkg (member_pkg x) (member_pkg m) same)) in
      let less = slice_get_within (take place members) k x is in
      let long = length-take-le place members (let e = falls.0 in omega (arith, e, within)) in
      absurd (omega (arith, at_one, less, long))))) in
      let back : filter test (drop (suc place) (take n members)) ≡ [] =
      filter_none test (drop (suc place) (take n members))
      (λ k x is.
      is_false (test x) (λ among_them.
      let stands = get_taken members n (suc place + k) x (sym (get_dropped (take n members) (suc place) k) ∙ is) in
      let below = falls_below (suc place) (place ∷ places) (suc place + k) (omega arith, falls.1) (in_place (place ∷ places) (suc place + k) x stands among_them) in
      absurd (omega (arith, below)))) in
      ap (filter test) split ∙ filter-append test (take place members) (m ∷ drop (suc place) (take n members))
      ∙ (λ i. front i ++ cond (place_in (place ∷ places) place m found.1 (0, omega arith, refl) i) (m ∷ back i) (back i))
      ∙ (λ i. reversed_by place places (let e = falls.0 in omega (arith, e, within)) falls.1 i ++ m ∷ [])
      ∙ sym (ap (λ o. reverse (cons_option o (filter_map (slice_get members) places))) found.1 ∙ reverse-append (m ∷ []) (filter_map (slice_get members) places))

-- packages of what is given, and what is given
pkgs_given : (members : List Member) (places : List ℕ) → pkgs_at members places ≡ member_pkgs (filter_map (slice_get members) places)
pkgs_given members [] = refl
pkgs_given members (place ∷ places) = by (slice_get members place) (pkgs_given members places)
  where
    by : (o : Option Member) → pkgs_at members places ≡ member_pkgs (filter_map (slice_get members) places)
        → cons_option (option_map member_pkg o) (pkgs_at members places) ≡ member_pkgs (cons_option o (filter_map (slice_get members) places))
    by None later = later
    by (Some m) later = ap (λ ps. member_pkg m ∷ ps) later

map_reverse : (members : List Member) → member_pkgs (reverse members) ≡ reverse (member_pkgs members)
map_reverse [] = refl
map_reverse (m ∷ members) =
    ap member_pkgs (reverse-append (m ∷ []) members) ∙ parts (reverse members) (m ∷ []) ∙ ap (λ ps. ps ++ member_pkg m ∷ []) (map_reverse members) ∙ sym (reverse-append (member_pkg m ∷ []) (member_pkgs members))
  where
    parts : (xs ys : List Member) → member_pkgs (xs ++ ys) ≡ member_pkgs xs ++ member_pkgs ys
    parts [] ys = refl
    parts (x ∷ xs) ys = ap (λ ps. member_pkg x ∷ ps) (parts xs ys)

filter_pkgs : (t : Pkg → Bool) (members : List Member) → filter t (member_pkgs members) ≡ member_pkgs (filter (λ (m : Member). t (member_pkg m)) members)
filter_pkgs t [] = refl
filter_pkgs t (m ∷ members) = by (t (member_pkg m)) (filter_pkgs t members)
  where
    by : (b : Bool) → filter t (member_pkgs members) ≡ member_pkgs (filter (λ (x : Member). t (member_pkg x)) members)
        → cond b (member_pkg m ∷ filter t (member_pkgs members)) (filter t (member_pkgs members)) ≡ member_pkgs (cond b (m ∷ filter (λ (x : Member). t (member_pkg x)) members) (filter (λ (x : Member). t (member_pkg x)) members))
    by true later = ap (λ ps. member_pkg m ∷ ps) later
    by false later = later

-- ---- the request of a plan

module _ (number : ℕ) (state : SwitchState) (target : Target) (change : Change) (asked : AreAtOne state.members target) (plan : IsPlan state.members target change.plan) (agrees : TargetAgrees target.members) (entries : change.entries ≡ state.members) (members : change.members ≡ target.members) where
  abbrev asking : Asking
  asking = asking_for target change.plan.removals state

  abbrev begun : SwitchState
  begun = state_begun number (asking_for target change.plan.removals state) state

  abbrev request : Request
  request = request_begun number (asking_for target change.plan.removals state)

  fit : IsFit state.members target change.plan
  fit = plans_are_fit state.members target change.plan asked plan

  differ : NamesDiffer target.members
  differ = rises_differ name_of target.members asked.rises

  abbrev order : List ℕ
  order = plan.installs.0

  -- an entry leaves by its place or by its package
  leaves_so : (at : ℕ) (entry : Member) → slice_get state.members at ≡ Some entry → list_any (is_same_pkg (member_pkg entry)) (pkgs_at state.members change.plan.removals) ≡ true → IsAffected state.members target (name_of entry)
  leaves_so at entry there is =
      subst (OfName (IsAffected state.members target)) there ((plan.removals.those at).0 (in_place state.members asked.differ change.plan.removals at entry there is))

  so_leaves : (at : ℕ) (entry : Member) → slice_get state.members at ≡ Some entry → IsAffected state.members target (name_of entry) → list_any (is_same_pkg (member_pkg entry)) (pkgs_at state.members change.plan.removals) ≡ true
  so_leaves at entry there affected =
      place_in state.members asked.differ change.plan.removals at entry there ((plan.removals.those at).1 (subst (OfName (IsAffected state.members target)) (sym there) affected))

  abbrev IsNew : List ℕ → Type 0
  IsNew name = IsAffected state.members target name ⊎ (has_name state.members name ≡ false)

  -- what comes by the plan comes with the request
  comes_to : (place : ℕ) → Comes state.members target place → comes_at begun request place ≡ true
  comes_to place = by (slice_get target.members place)
    where
      by : (o : Option Member) → OfName (λ name. IsAffected state.members target name ⊎ (has_name state.members name ≡ false)) o → comes_with (state_begun number (asking_for target change.plan.removals state) state) (request_begun number (asking_for target change.plan.removals state)) o ≡ true
      by None of = absurd of
      by (Some m) of =
          ap not
          (none_by (is_kept_entry (request_begun number (asking_for target change.plan.removals state)) (name_of m)) state.members
          (λ k e there.
          is_false (is_kept_entry (request_begun number (asking_for target change.plan.removals state)) (name_of m) e) (λ kept.
          let same = bytes_same (name_of e) (name_of m) (and_left (bytes_eq (name_of e) (name_of m)) (not (list_any (is_same_pkg (member_pkg e)) (pkgs_at state.members change.plan.removals))) kept) in
          let left = opposite (list_any (is_same_pkg (member_pkg e)) (pkgs_at state.members change.plan.removals)) (and_right (bytes_eq (name_of e) (name_of m)) (not (list_any (is_same_pkg (member_pkg e)) (pkgs_at state.members change.plan.removals))) kept) in
          new k e there same left of)))
        where
          new : (k : ℕ) (e : Member) → slice_get state.members k ≡ Some e → name_of e ≡ name_of m → list_any (is_same_pkg (member_pkg e)) (pkgs_at state.members change.plan.removals) ≡ false → IsAffected state.members target (name_of m) ⊎ (has_name state.members (name_of m) ≡ false) → ⊥
          new k e there same left (inl affected) = false≢true (sym left ∙ so_leaves k e there (subst (IsAffected state.members target) (sym same) affected))
          new k e there same left (inr none) =
              false≢true (sym (none_at (has_key leaving.name_of (name_of m)) state.members k e none there) ∙ ap (λ n. bytes_eq n (name_of m)) same ∙ bytes_self (name_of m))

  comes_from : (place : ℕ) → comes_at begun request place ≡ true → Comes state.members target place
  comes_from place = by (slice_get target.members place)
    where
      by : (o : Option Member) → comes_with (state_begun number (asking_for target change.plan.removals state) state) (request_begun number (asking_for target change.plan.removals state)) o ≡ true → OfName (λ name. IsAffected state.members target name ⊎ (has_name state.members name ≡ false)) o
      by None is = absurd (false≢true is)
      by (Some m) is = named (has_name state.members (name_of m)) refl
        where
          none : list_any (is_kept_entry (request_begun number (asking_for target change.plan.removals state)) (name_of m)) state.members ≡ false
          none = opposite (list_any (is_kept_entry (request_begun number (asking_for target change.plan.removals state)) (name_of m)) state.members) is

          gone : (a b : Bool) → a ≡ true → (a && not b) ≡ false → b ≡ true
          gone true true one is = refl
          gone true false one is = absurd (false≢true (sym is))
          gone false b one is = absurd (false≢true one)

          named : (b : Bool) → has_name state.members (name_of m) ≡ b → IsAffected state.members target (name_of m) ⊎ (has_name state.members (name_of m) ≡ false)
          named false absent = inr absent
          named true present =
              let found = any_place (has_key leaving.name_of (name_of m)) state.members present in
              let e : Member = found.1 in
              let here = none_at (is_kept_entry (request_begun number (asking_for target change.plan.removals state)) (name_of m)) state.members found.0 e none found.2 in
              let leaves = gone (bytes_eq (name_of e) (name_of m)) (list_any (is_same_pkg (member_pkg e)) (pkgs_at state.members change.plan.removals)) found.3 here in
              inl (subst (IsAffected state.members target) (bytes_same (name_of e) (name_of m) found.3) (leaves_so found.0 e found.2 leaves))

  order_so : IsOrder (needs_at target.members) (HoldsOf (comes_at begun request)) order
  order_so = order_to (needs_at target.members) (Comes state.members target) (HoldsOf (comes_at begun request)) comes_to comes_from order plan.installs.1

  order_tested : IsOrder (needs_at target.members) (HoldsOf (λ place. test_at (sound.comes begun request) (slice_get target.members place))) order
  order_tested =
      order_to (needs_at target.members) (HoldsOf (comes_at begun request)) (HoldsOf (λ place. test_at (sound.comes begun request) (slice_get target.members place)))
      (λ place is. to (slice_get target.members place) is) (λ place is. back (slice_get target.members place) is) order order_so
    where
      to : (o : Option Member) → comes_with (state_begun number (asking_for target change.plan.removals state) state) (request_begun number (asking_for target change.plan.removals state)) o ≡ true
          → test_at (sound.comes (state_begun number (asking_for target change.plan.removals state) state) (request_begun number (asking_for target change.plan.removals state))) o ≡ true
      to None is = is
      to (Some m) is = is

      back : (o : Option Member) → test_at (sound.comes (state_begun number (asking_for target change.plan.removals state) state) (request_begun number (asking_for target change.plan.removals state))) o ≡ true
          → comes_with (state_begun number (asking_for target change.plan.removals state) state) (request_begun number (asking_for target change.plan.removals state)) o ≡ true
      back None is = is
      back (Some m) is = is

  in_order : (done : List Pkg) → sound.stand_among (pkgs_at target.members order) done ≡ true → AreInOrder (sound.coming begun request) done
  in_order done stands = record {
    order = pkgs_at target.members order;
    steps = goes_said target.members asked.rises (sound.comes begun request) [] order order_tested.steps;
    whole = whole_said target.members asked.rises (sound.comes begun request) order order_tested;
    done_so = stands;
  }

  nothing_done : (ps : List Pkg) → sound.stand_among ps [] ≡ true
  nothing_done [] = refl
  nothing_done (p ∷ ps) = refl

  -- ---- what is asked is sound

  removals_within : (i : ℕ) → i < length change.plan.removals → slice_index change.plan.removals i < length state.members
  removals_within i less =
      by (slice_get state.members (slice_index change.plan.removals i)) refl ((plan.removals.those (slice_index change.plan.removals i)).0 (i, less, refl))
    where
      by : (o : Option Member) → slice_get state.members (slice_index change.plan.removals i) ≡ o → OfName (IsAffected state.members target) o → slice_index change.plan.removals i < length state.members
      by None is of = absurd of
      by (Some e) is of = slice_get_within state.members (slice_index change.plan.removals i) e is

  removals_reversed : filter (λ (pkg : Pkg). list_any (is_same_pkg pkg) (pkgs_at state.members change.plan.removals)) (member_pkgs state.members) ≡ reverse (pkgs_at state.members change.plan.removals)
  removals_reversed =
      let all : take (length state.members) state.members ≡ state.members = take_all (length state.members) state.members (omega arith) in
      filter_pkgs (λ (pkg : Pkg). list_any (is_same_pkg pkg) (pkgs_at state.members change.plan.removals)) state.members
      ∙ ap member_pkgs
      (ap (filter (λ (m : Member). list_any (is_same_pkg (member_pkg m)) (pkgs_at state.members change.plan.removals))) (sym all)
      ∙ reversed_by state.members asked.differ (length state.members) change.plan.removals (omega arith) (falls_from (length state.members) change.plan.removals removals_within plan.removals.falling))
      ∙ map_reverse (filter_map (slice_get state.members) change.plan.removals) ∙ ap reverse (sym (pkgs_given state.members change.plan.removals))

  stays_so : (at : ℕ) (entry : Member) → slice_get state.members at ≡ Some entry → list_any (is_same_pkg (member_pkg entry)) (pkgs_at state.members change.plan.removals) ≡ false → Stays state.members change.plan at entry
  stays_so at entry there left = (there, λ inside. false≢true (sym left ∙ place_in state.members asked.differ change.plan.removals at entry there inside))

  -- a member that comes is that of an install
  install_of : (place : ℕ) (m : Member) → slice_get target.members place ≡ Some m → sound.comes begun request m ≡ true → (i : ℕ) × (step : Step) × (slice_get change.plan.installs i ≡ Some step) × (step.member ≡ place)
  install_of place m found comes =
      let inside = order_so.whole place (ap (comes_with begun request) found ∙ comes) in
      let at : slice_get order inside.0 ≡ Some place = slice_get-get_or order inside.0 0 inside.1 ∙ ap (λ n. Some n) inside.2 in
      (inside.0, step_of target.members place, ap (λ ss. slice_get ss inside.0) plan.installs.2 ∙ mapped_at (step_of target.members) order inside.0 place at, refl)

  apart_so : (at : ℕ) (entry : Member) → slice_get state.members at ≡ Some entry → is_left_apart state asking entry ≡ true
  apart_so at entry there = by (is_leaving asking entry) refl
    where
      by : (b : Bool) → is_leaving (asking_for target change.plan.removals state) entry ≡ b
          → (b || (not (has_edge entry (pkgs_at state.members change.plan.removals)) && not (has_edge entry (member_pkgs (arriving state (asking_for target change.plan.removals state)))))) ≡ true
      by true is = refl
      by false is =
          let stays = stays_so at entry there is in
          let place = fit.stays at entry stays in
          both (not (has_edge entry (pkgs_at state.members change.plan.removals))) (not (has_edge entry (member_pkgs (arriving state (asking_for target change.plan.removals state)))))
          (ap not (none_by (is_edge entry.package) (pkgs_at state.members change.plan.removals) (λ j pkg gives. removed_apart stays j pkg (given_at (pkg_at state.members) change.plan.removals j pkg gives))))
          (ap not
          (any_map member_pkg (is_edge entry.package) (arriving state (asking_for target change.plan.removals state))
          ∙ none_by (λ (m : Member). is_edge entry.package (member_pkg m)) (arriving state (asking_for target change.plan.removals state)) (λ j m named. coming_apart stays place.0 place.1 j m named)))
        where
          called : (ms : List Member) → NamesDiffer ms → (i j : ℕ) (one other : Member) → slice_get ms i ≡ Some one → slice_get ms j ≡ Some other → leaving.has_edge ms (name_of one) (name_of other) ≡ false → is_edge one.package (member_pkg other) ≡ false
          called ms apart i j one other first second none = (λ x. edge_between (sym (called_at ms i one apart first) x) (sym (called_at ms j other apart second) x)) ∙ none

          by_gone : Stays state.members change.plan at entry → (i place : ℕ) (pkg : Pkg) → slice_get change.plan.removals i ≡ Some place → (o : Option Member) → slice_get state.members place ≡ o → option_map member_pkg o ≡ Some pkg → is_edge entry.package pkg ≡ false
          by_gone stays i place pkg stands None is gives = absurd cc
          by_gone stays i place pkg stands (Some gone) is gives =
              let e : member_pkg gone ≡ pkg = cc in
              let within = slice_get_within change.plan.removals i place stands in
              let inside : IsIn change.plan.removals place = (i, within, some_same _ place (slice_get change.plan.removals i) (slice_get-get_or change.plan.removals i 0 within) stands) in
              ap (is_edge entry.package) (sym e)
              ∙ called state.members asked.differ at place entry gone there is
              (or_left (leaving.has_edge state.members (name_of entry) (name_of gone)) (leaving.has_edge target.members (name_of entry) (name_of gone))
              (fit.apart at entry (name_of gone) stays (inl (place, gone, is, inside, refl))))

          removed_apart : Stays state.members change.plan at entry → (j : ℕ) (pkg : Pkg) → (i : ℕ) × (place : ℕ) × (slice_get change.plan.removals i ≡ Some place) × (pkg_at state.members place ≡ Some pkg) → is_edge entry.package pkg ≡ false
          removed_apart stays j pkg given = by_gone stays given.0 given.1 pkg given.2 (slice_get state.members given.1) refl given.3

          coming_apart : Stays state.members change.plan at entry → (place : ℕ) → slice_get target.members place ≡ Some entry → (j : ℕ) (m : Member) → slice_get (arriving state (asking_for target change.plan.removals state)) j ≡ Some m → is_edge entry.package (member_pkg m) ≡ false
          coming_apart stays place found j m named =
              let kept = kept_at (sound.comes (state_begun number (asking_for target change.plan.removals state) state) (request_begun number (asking_for target change.plan.removals state))) target.members j m named in
              let step = install_of kept.0 m kept.1 kept.2 in
              called target.members differ place kept.0 entry m found kept.1
              (or_right (leaving.has_edge state.members (name_of entry) (name_of m)) (leaving.has_edge target.members (name_of entry) (name_of m))
              (fit.apart at entry (name_of m) stays (inr (step.0, step.1, m, step.2, ap (slice_get target.members) step.3 ∙ kept.1, refl))))

  asks : AsksSoundly state asking
  asks = record {
    target = agrees;
    removals = removals_reversed;
    apart = pass_by (is_left_apart state asking) state.members apart_so;
    order = in_order [] (nothing_done (pkgs_at target.members order));
  }

  -- ---- the plan fits, and is the rest

  coming_given : (places : List ℕ) → member_pkgs (filter_map (λ (step : Step). slice_get target.members step.member) (map (step_of target.members) places)) ≡ pkgs_at target.members places
  coming_given [] = refl
  coming_given (place ∷ places) = by (slice_get target.members place) (coming_given places)
    where
      rest : List Member
      rest = filter_map (λ (step : Step). slice_get target.members step.member) (map (step_of target.members) places)

      by : (o : Option Member) → member_pkgs (filter_map (λ (step : Step). slice_get target.members step.member) (map (step_of target.members) places)) ≡ pkgs_at target.members places
          → member_pkgs (cons_option o (filter_map (λ (step : Step). slice_get target.members step.member) (map (step_of target.members) places))) ≡ cons_option (option_map member_pkg o) (pkgs_at target.members places)
      by None later = later
      by (Some m) later = ap (λ ps. member_pkg m ∷ ps) later

  stands : StandInOrder change begun request
  stands =
      let same : member_pkgs (coming change) ≡ pkgs_at target.members order =
      (λ i. member_pkgs (filter_map (λ (step : Step). slice_get (members i) step.member) (plan.installs.2 i))) ∙ coming_given order in
      in_order (member_pkgs (coming change)) (ap (sound.stand_among (pkgs_at target.members order)) same ∙ stands_itself (pkgs_at target.members order))

  fits : IsFitFor change begun request
  fits =
      fit_plans change target begun request (subst (λ ms. AreAtOne ms target) (sym entries) asked) (subst (λ ms. IsFit ms target change.plan) (sym entries) fit) members plan.missing stands

  none_come : (steps : List Step) → list_any (is_come request) steps ≡ false
  none_come [] = refl
  none_come (step ∷ steps) = neither (is_come request step) (list_any (is_come request) steps) (by (slice_get target.members step.member)) (none_come steps)
    where
      by : (o : Option Member) → is_one_of [] o ≡ false
      by None = refl
      by (Some m) = refl

  rest : IsRest begun change
  rest = record {
    request = request;
    is_open = refl;
    rises = asked.rises;
    entries = entries;
    members = members;
    within =
        pass_by (λ at. nat_lt at (length change.entries)) change.plan.removals
        (λ k at there.
        let within = slice_get_within change.plan.removals k at there in
        let less = removals_within k within in
        let same = some_same (slice_index change.plan.removals k) at (slice_get change.plan.removals k) (slice_get-get_or change.plan.removals k 0 within) there in
        ap (λ ms. nat_lt at (length ms)) entries ∙ lt_is at (length state.members) (omega (arith, less, same)));
    removals = ap (λ ms. pkgs_at ms change.plan.removals) entries;
    steps = change.plan.installs;
    order = (order, order_so, plan.installs.2);
    installs = sym (behind_none (is_come request) change.plan.installs (none_come change.plan.installs));
    missing = plan.missing ∙ sym (ap (λ ss. map (λ (step : Step). step.member) (filter (λ step. not (is_come request step)) ss)) (up_to_none (is_come request) change.plan.installs (none_come change.plan.installs)));
  }

  begins_well : BeginsWell number state target change
  begins_well = record { asks = asks; fits = fits; rest = rest }

pub plans_begin : PlansBeginWell
plans_begin number state target change asked plan agrees entries members = begins_well number state target change asked plan agrees entries members
