-- An order by places is an order by packages.
use Rattle.std.proofs.Common.{◌≡◌, ◌∙◌, ℕ, zero, suc, ◌+◌, ◌<◌, ◌≤◌, ◌⊎◌, List, [], ◌∷◌, ◌++◌, filter, map, Bool, true, false, not, cond, Option, Some, None, refl, sym, ap, subst, arith, inl, inr}
use Rattle.std.specs.Prelude.{◌&&◌, ◌||◌, slice_get, if◌then◌else◌}
use Rattle.std.specs.List.{AllByRecursion, cons_option, list_all, list_any}
use Rattle.std.specs.List.Sorted.{IsStrictlySortedBy}
use Rattle.std.specs.Option.{option_map}
use Rattle.std.specs.Ordering.{is_lt}
use Rattle.std.specs.declared.cmp.Ordering.{Ordering}
use Rattle.std.specs.declared.cmp.Ordering.TheVariants.{Less, Equal, Greater}
use Rattle.std.proofs.lemmas.Bool.{false≢true}
use Rattle.opam_names.specs.ByteOrders.{RisesBy, byte_order, precedes}
use Rattle.opam_names.specs.declared.packages.Pkg.{Pkg}
use Rattle.opam_package.specs.Dependencies.{is_need}
use Rattle.opam_package.specs.declared.package.Member.{Member}
use Rattle.owner_map.specs.Owning.{is_same_pkg}
use Rattle.path_order.proofs.Fronts.{not_back, not_itself}
use Rattle.action_graph.specs.GraphLaws.{HoldsOf}
use Rattle.action_graph.specs.Links.{member_needs, needs_at}
use Rattle.action_graph.specs.Order.{CanBeNext, GoesOn, IsNext, IsOrder}
use Rattle.action_graph.specs.Places.{IsIn}
use Rattle.action_graph.proofs.Leading.{from_has, has_from}
use Rattle.action_graph.proofs.Lookups.{rises_differ}
use Rattle.action_graph.proofs.Membership.{none_in_nil}
use Rattle.action_graph.proofs.Placing.{in_cons}
use Rattle.switch_state.specs.Begins.{pkg_at, pkgs_at}
use Rattle.switch_state.specs.Sound.{NamesDiffer, can_be_next, goes_on_so, has_least_name, is_listed, is_next_install, is_ready, member_pkg, name_of, stand_among}
use Rattle.switch_state.proofs.RequestKept.{same_pkg}
use Rattle.switch_state.proofs.SoundKept.{is_false, pkg_self}
use Rattle.change_outcome.proofs.Lists.{and_left, and_right, any_filter, both}
use Rattle.change_outcome.proofs.Making.{filter_push}
use Rattle.change_outcome.proofs.Returning.{or_second}
use Rattle.change_laws.proofs.Needs.{one_place, some_same}

-- ---- lists

in_head : (y : ℕ) (ys : List ℕ) → IsIn (y ∷ ys) y
in_head y ys = (0, omega arith, refl)

in_tail : (y : ℕ) (ys : List ℕ) (x : ℕ) → IsIn ys x → IsIn (y ∷ ys) x
in_tail y ys x is = (let e = is.1 in (suc is.0, omega (arith, e), is.2))

-- what is chosen passes where each that is chosen does
all_chosen : {X : Type 0} (keep t : X → Bool) (xs : List X) → ((k : ℕ) (x : X) → slice_get xs k ≡ Some x → keep x ≡ true → t x ≡ true) → list_all t (filter keep xs) ≡ true
all_chosen keep t [] each = refl
all_chosen keep t (x ∷ xs) each = by (keep x) refl (all_chosen keep t xs (λ k y is. each (suc k) y is))
  where
    by : (b : Bool) → keep x ≡ b → list_all t (filter keep xs) ≡ true → list_all t (cond b (x ∷ filter keep xs) (filter keep xs)) ≡ true
    by true passes later = both (t x) (list_all t (filter keep xs)) (each 0 x refl passes) later
    by false passes later = later

-- one that is chosen passes what all that are chosen do
chosen_passes : {X : Type 0} (keep t : X → Bool) (xs : List X) (k : ℕ) (x : X) → list_all t (filter keep xs) ≡ true → slice_get xs k ≡ Some x → keep x ≡ true → t x ≡ true
chosen_passes keep t [] k x all is kept = absurd cc
chosen_passes keep t (y ∷ xs) zero x all is kept = (let e : y ≡ x = cc in by (keep y) (ap keep e ∙ kept) all (ap t e))
  where
    by : (b : Bool) → b ≡ true → list_all t (cond b (y ∷ filter keep xs) (filter keep xs)) ≡ true → t y ≡ t x → t x ≡ true
    by true kept all same = sym same ∙ and_left (t y) (list_all t (filter keep xs)) all
    by false kept all same = absurd (false≢true kept)
chosen_passes keep t (y ∷ xs) (suc k) x all is kept = chosen_passes keep t xs k x (by (keep y) all) is kept
  where
    by : (b : Bool) → list_all t (cond b (y ∷ filter keep xs) (filter keep xs)) ≡ true → list_all t (filter keep xs) ≡ true
    by true all = and_right (t y) (list_all t (filter keep xs)) all
    by false all = all

pub stands_itself : (ps : List Pkg) → stand_among ps ps ≡ true
stands_itself [] = refl
stands_itself (p ∷ ps) = ap (λ b. if b then stand_among ps ps else stand_among ps (p ∷ ps)) (pkg_self p) ∙ stands_itself ps

-- ---- an order under another name of what is wanted

module _ (needs : ℕ → List ℕ) (one other : ℕ → Type 0) (to : (place : ℕ) → one place → other place) (back : (place : ℕ) → other place → one place) where
  can_to : (listed : List ℕ) (place : ℕ) → CanBeNext needs one listed place → CanBeNext needs other listed place
  can_to listed place can = record { is_wanted = to place can.is_wanted; is_new = can.is_new; is_met = λ need is wanted. can.is_met need is (back need wanted) }

  can_back : (listed : List ℕ) (place : ℕ) → CanBeNext needs other listed place → CanBeNext needs one listed place
  can_back listed place can = record { is_wanted = back place can.is_wanted; is_new = can.is_new; is_met = λ need is wanted. can.is_met need is (to need wanted) }

  goes_to : (listed places : List ℕ) → GoesOn needs one listed places → GoesOn needs other listed places
  goes_to listed [] goes = tt
  goes_to listed (place ∷ places) goes =
      (record { can = can_to listed place goes.0.can; least = λ q can. goes.0.least q (can_back listed q can) }, goes_to (listed ++ place ∷ []) places goes.1)

  pub order_to : (order : List ℕ) → IsOrder needs one order → IsOrder needs other order
  order_to order is = record { steps = goes_to [] order is.steps; whole = λ place wanted. is.whole place (back place wanted) }

-- ---- places and packages

-- a test of the member at a place
abbrev pub test_at : (Member → Bool) → Option Member → Bool
test_at test None = false
test_at test (Some member) = test member

module _ (members : List Member) (rises : RisesBy name_of members) (comes : Member → Bool) where
  abbrev wanted : ℕ → Bool
  wanted place = test_at comes (slice_get members place)

  differ : NamesDiffer members
  differ = rises_differ name_of members rises

  abbrev installs : List Member
  installs = filter comes members

  -- the member of a place that is wanted
  there : (place : ℕ) → wanted place ≡ true → (m : Member) × (slice_get members place ≡ Some m) × (comes m ≡ true)
  there place is = by (slice_get members place) refl is
    where
      by : (o : Option Member) → slice_get members place ≡ o → test_at comes o ≡ true → (m : Member) × (slice_get members place ≡ Some m) × (comes m ≡ true)
      by None found is = absurd (false≢true is)
      by (Some m) found is = (m, found, is)

  is_wanted : (place : ℕ) (m : Member) → slice_get members place ≡ Some m → comes m ≡ true → wanted place ≡ true
  is_wanted place m found is = ap (test_at comes) found ∙ is

  listed_in : (places : List ℕ) (k : ℕ) (m : Member) → slice_get members k ≡ Some m → IsIn places k → is_listed (pkgs_at members places) m ≡ true
  listed_in [] k m found is = absurd (none_in_nil k is)
  listed_in (y ∷ places) k m found is = by (in_cons y places k is) (listed_in places k m found)
    where
      head : (o : Option Pkg) → o ≡ Some (member_pkg m) → list_any (is_same_pkg (member_pkg m)) (cons_option o (pkgs_at members places)) ≡ true
      head o is = ap (λ p. list_any (is_same_pkg (member_pkg m)) (cons_option p (pkgs_at members places))) is ∙ (let e = pkg_self (member_pkg m) in rw e refl)

      tail : (o : Option Pkg) → is_listed (pkgs_at members places) m ≡ true → list_any (is_same_pkg (member_pkg m)) (cons_option o (pkgs_at members places)) ≡ true
      tail None later = later
      tail (Some p) later = or_second (is_same_pkg (member_pkg m) p) (is_listed (pkgs_at members places) m) later

      by : (y ≡ k) ⊎ IsIn places k → (IsIn places k → is_listed (pkgs_at members places) m ≡ true) → is_listed (pkgs_at members (y ∷ places)) m ≡ true
      by (inl same) later = head (pkg_at members y) (ap (option_map member_pkg) (ap (slice_get members) same ∙ found))
      by (inr inside) later = tail (pkg_at members y) (later inside)

  in_listed : (places : List ℕ) (k : ℕ) (m : Member) → slice_get members k ≡ Some m → is_listed (pkgs_at members places) m ≡ true → IsIn places k
  in_listed [] k m found is = absurd (false≢true is)
  in_listed (y ∷ places) k m found is = by (slice_get members y) refl is (in_listed places k m found)
    where
      by_same : (z : Member) → slice_get members y ≡ Some z → (b : Bool) → is_same_pkg (member_pkg m) (member_pkg z) ≡ b → (b || is_listed (pkgs_at members places) m) ≡ true → (is_listed (pkgs_at members places) m ≡ true → IsIn places k) → IsIn (y ∷ places) k
      by_same z here true same is later = (let e = one_place members y k z m differ here found (ap (λ (p : Pkg). p.name) (sym (same_pkg (member_pkg m) (member_pkg z) same))) in subst (IsIn (y ∷ places)) e (in_head y places))
      by_same z here false other is later = in_tail y places k (later is)

      by : (o : Option Member) → slice_get members y ≡ o → list_any (is_same_pkg (member_pkg m)) (cons_option (option_map member_pkg o) (pkgs_at members places)) ≡ true → (is_listed (pkgs_at members places) m ≡ true → IsIn places k) → IsIn (y ∷ places) k
      by None here is later = in_tail y places k (later is)
      by (Some z) here is later = by_same z here (is_same_pkg (member_pkg m) (member_pkg z)) refl is later

  need_in : (at k : ℕ) (m q : Member) → slice_get members at ≡ Some m → slice_get members k ≡ Some q → is_need m.package (member_pkg q) ≡ true → IsIn (needs_at members at) k
  need_in at k m q here found is =
      (let e : 0 + k ≡ k = omega arith in
      subst (λ (o : Option Member). IsIn (member_needs o members) k) (sym here) (subst (IsIn (member_needs (Some m) members)) e (from_has (λ (other : Member). is_need m.package other.package.pkg) 0 members k q found is)))

  in_need : (at k : ℕ) (m : Member) → slice_get members at ≡ Some m → IsIn (needs_at members at) k → (q : Member) × (slice_get members k ≡ Some q) × (is_need m.package (member_pkg q) ≡ true)
  in_need at k m here is =
      let it = has_from (λ (other : Member). is_need m.package other.package.pkg) 0 members k (subst (λ (o : Option Member). IsIn (member_needs o members) k) here is) in
      let e : it.0 ≡ k = (let f = it.2 in omega (arith, f)) in
      (it.1, ap (slice_get members) (sym e) ∙ it.3, it.4)

  rises_at : (xs : List Member) → RisesBy name_of xs → (i j : ℕ) (a b : Member) → i < j → slice_get xs i ≡ Some a → slice_get xs j ≡ Some b → byte_order (name_of a) (name_of b) ≡ Less
  unfolding IsStrictlySortedBy
  rises_at [] rise i j a b less one two = absurd cc
  rises_at (x ∷ xs) rise zero zero a b less one two = absurd (omega (arith, less))
  rises_at (x ∷ xs) rise zero (suc j) a b less one two = (let e : x ≡ a = cc in ap (λ (m : Member). byte_order (name_of m) (name_of b)) (sym e) ∙ later xs j b rise.0 two)
    where
      later : (ys : List Member) (k : ℕ) (m : Member) → AllByRecursion (λ y. byte_order (name_of x) y ≡ Less) (map name_of ys) → slice_get ys k ≡ Some m → byte_order (name_of x) (name_of m) ≡ Less
      later [] k m all is = absurd cc
      later (y ∷ ys) zero m all is = (let e : y ≡ m = cc in ap (λ (n : Member). byte_order (name_of x) (name_of n)) (sym e) ∙ all.0)
      later (y ∷ ys) (suc k) m all is = later ys k m all.1 is
  rises_at (x ∷ xs) rise (suc i) zero a b less one two = absurd (omega (arith, less))
  rises_at (x ∷ xs) rise (suc i) (suc j) a b less one two = rises_at xs rise.1 i j a b (omega (arith, less)) one two

  -- no member at a place that is not before has a lesser name
  not_less : (p q : ℕ) (m other : Member) → p ≤ q → slice_get members p ≡ Some m → slice_get members q ≡ Some other → precedes (name_of other) (name_of m) ≡ false
  not_less p q m other le one two = is_false (precedes (name_of other) (name_of m)) (λ is. by (less_is (byte_order (name_of other) (name_of m)) is) (parts p q le))
    where
      less_is : (o : Ordering) → is_lt o ≡ true → o ≡ Less
      less_is Less is = refl
      less_is Equal is = absurd (false≢true is)
      less_is Greater is = absurd (false≢true is)

      parts : (p q : ℕ) → p ≤ q → (p < q) ⊎ (p ≡ q)
      parts zero zero le = inr refl
      parts zero (suc q) le = inl (omega arith)
      parts (suc p) zero le = absurd (omega (arith, le))
      parts (suc p) (suc q) le = grown p q (parts p q (omega (arith, le)))
        where
          grown : (p q : ℕ) → (p < q) ⊎ (p ≡ q) → (suc p < suc q) ⊎ (suc p ≡ suc q)
          grown p q (inl less) = inl (omega (arith, less))
          grown p q (inr same) = inr (ap suc same)

      by : byte_order (name_of other) (name_of m) ≡ Less → (p < q) ⊎ (p ≡ q) → ⊥
      by less (inl before) = not_back (name_of other) (name_of m) less (rises_at members rises p q m other before one two)
      by less (inr same) =
          (let e : m ≡ other = some_same m other (slice_get members q) (ap (slice_get members) (sym same) ∙ one) two in
          not_itself (name_of m) (ap (λ (n : Member). byte_order (name_of n) (name_of m)) e ∙ less))

  module _ (listed : List ℕ) where
    abbrev known : List Pkg
    known = pkgs_at members listed

    -- what may be next among packages may be next among places
    can_place : (q : ℕ) (other : Member) → slice_get members q ≡ Some other → comes other ≡ true → can_be_next installs known other ≡ true → CanBeNext (needs_at members) (HoldsOf wanted) listed q
    can_place q other found comes_so can =
        let new = and_left (not (is_listed known other)) (is_ready installs known other) can in
        let ready = and_right (not (is_listed known other)) (is_ready installs known other) can in
        record {
          is_wanted = is_wanted q other found comes_so;
          is_new = λ inside. false≢true (sym (ap not (listed_in listed q other found inside)) ∙ new);
          is_met = λ need inside want.
              let its = in_need q need other found inside in
              let w = there need want in
              let same : its.0 ≡ w.0 = some_same its.0 w.0 (slice_get members need) its.1 w.1 in
              let met = chosen_passes comes (λ (n : Member). not (is_need other.package (member_pkg n)) || is_listed known n) members need its.0 ready its.1 (ap comes same ∙ w.2) in
              in_listed listed need its.0 its.1 (ap (λ b. not b || is_listed known its.0) (sym its.2) ∙ met);
        }

    next_is : (place : ℕ) (m : Member) → slice_get members place ≡ Some m → IsNext (needs_at members) (HoldsOf wanted) listed place → list_any (is_next_install installs known (member_pkg m)) installs ≡ true
    next_is place m found next =
        any_filter (is_next_install installs known (member_pkg m)) comes members place m found comes_m
        (both (is_same_pkg (member_pkg m) (member_pkg m) && can_be_next installs known m) (has_least_name installs known m)
        (both (is_same_pkg (member_pkg m) (member_pkg m)) (can_be_next installs known m) (pkg_self (member_pkg m)) (both (not (is_listed known m)) (is_ready installs known m) new ready)) least)
      where
        comes_m : comes m ≡ true
        comes_m = ap (test_at comes) (sym found) ∙ next.can.is_wanted

        new : not (is_listed (pkgs_at members listed) m) ≡ true
        new = ap not (is_false (is_listed (pkgs_at members listed) m) (λ is. next.can.is_new (in_listed listed place m found is)))

        ready : is_ready (filter comes members) (pkgs_at members listed) m ≡ true
        ready = all_chosen comes (λ (n : Member). not (is_need m.package (member_pkg n)) || is_listed (pkgs_at members listed) n) members (λ k n is kept. by k n is kept (is_need m.package (member_pkg n)) refl)
          where
            by : (k : ℕ) (n : Member) → slice_get members k ≡ Some n → comes n ≡ true → (b : Bool) → is_need m.package (member_pkg n) ≡ b → (not b || is_listed (pkgs_at members listed) n) ≡ true
            by k n is kept true needed = listed_in listed k n is (next.can.is_met k (need_in place k m n found is needed) (is_wanted k n is kept))
            by k n is kept false needed = refl

        least : has_least_name (filter comes members) (pkgs_at members listed) m ≡ true
        least = all_chosen comes (λ (n : Member). not (can_be_next (filter comes members) (pkgs_at members listed) n) || not (precedes (name_of n) (name_of m))) members (λ k n is kept. by k n is kept (can_be_next (filter comes members) (pkgs_at members listed) n) refl)
          where
            by : (k : ℕ) (n : Member) → slice_get members k ≡ Some n → comes n ≡ true → (b : Bool) → can_be_next (filter comes members) (pkgs_at members listed) n ≡ b → (not b || not (precedes (name_of n) (name_of m))) ≡ true
            by k n is kept true can = ap not (not_less place k m n (next.least k (can_place k n is kept can)) found is)
            by k n is kept false can = refl

  pub goes_said : (listed places : List ℕ) → GoesOn (needs_at members) (HoldsOf wanted) listed places → goes_on_so installs (pkgs_at members listed) (pkgs_at members places) ≡ true
  goes_said listed [] goes = refl
  goes_said listed (place ∷ places) goes =
      let m = there place goes.0.can.is_wanted in
      let pkg : Pkg = member_pkg m.0 in
      let gives : pkg_at members place ≡ Some pkg = ap (option_map member_pkg) m.1 in
      let more : pkgs_at members listed ++ pkg ∷ [] ≡ pkgs_at members (listed ++ place ∷ []) =
      sym (filter_push (pkg_at members) listed place (pkg_at members place) refl ∙ ap (λ o. pkgs_at members listed ++ cons_option o []) gives) in
      ap (λ o. goes_on_so installs (pkgs_at members listed) (cons_option o (pkgs_at members places))) gives
      ∙ both (list_any (is_next_install installs (pkgs_at members listed) pkg) installs) (goes_on_so installs (pkgs_at members listed ++ pkg ∷ []) (pkgs_at members places)) (next_is listed place m.0 m.1 goes.0)
      (ap (λ ps. goes_on_so installs ps (pkgs_at members places)) more ∙ goes_said (listed ++ place ∷ []) places goes.1)

  pub whole_said : (order : List ℕ) → IsOrder (needs_at members) (HoldsOf wanted) order → list_all (is_listed (pkgs_at members order)) installs ≡ true
  whole_said order is = all_chosen comes (is_listed (pkgs_at members order)) members (λ k m found kept. listed_in order k m found (is.whole k (is_wanted k m found kept)))
