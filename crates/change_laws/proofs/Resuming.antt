-- The rest of a change that was stopped is what is left of the whole.
use Rattle.std.proofs.Common.{◌≡◌, ◌∙◌, ℕ, zero, suc, ◌+◌, ◌-◌, ◌<◌, ◌≤◌, List, [], ◌∷◌, ◌++◌, drop, filter, length, map, take, Bool, true, false, cond, not, Option, Some, None, refl, sym, ap, subst, arith, append_assoc}
use Rattle.std.specs.Prelude.{◌&&◌, ◌||◌, IsTrue, bytes_eq, is_some, nat_eq, nat_le, nat_lt, slice_get, slice_index_or, if◌then◌else◌}
use Rattle.std.specs.List.{AllByRecursion, IsDistinct, list_all, list_any}
use Rattle.std.specs.List.Sorted.{IsStrictlySortedBy}
use Rattle.std.specs.Option.{option_map}
use Rattle.std.specs.declared.cmp.Ordering.TheVariants.{Less}
use Rattle.std.proofs.lemmas.Bool.{false≢true}
use Rattle.std.proofs.lemmas.Bool.Decides.{nat_tests}
use Rattle.std.proofs.lemmas.List.{append-nil, drop_at, get_or-append_right, get_or-drop, get_or_append_left, get_or_past, get_or_push, length-append, length-drop, length-take-le, map-append, take-append-drop}
use Rattle.std.proofs.lemmas.List.Folds.{list_any-append}
use Rattle.std.proofs.lemmas.Slice.Eq.{bytes_eq-Decides}
use Rattle.opam_names.specs.ByteOrders.{RisesBy, byte_order}
use Rattle.opam_names.specs.declared.packages.Pkg.{Pkg}
use Rattle.opam_package.specs.declared.package.Member.{Member}
use Rattle.owner_map.specs.Owning.{is_same_pkg}
use Rattle.path_order.proofs.Fronts.{not_itself}
use Rattle.action_graph.specs.GraphLaws.{HoldsOf}
use Rattle.action_graph.specs.Links.{needs_at}
use Rattle.action_graph.specs.Plans.{AreSteps, step_of}
use Rattle.action_graph.specs.declared.plan.Step.{Step}
use Rattle.action_graph.proofs.OrderLaws.{one_is}
use Rattle.change_floor.specs.Floors.{has_installed, install_place, is_there}
use Rattle.change_floor.proofs.Standing.{own_place}
use Rattle.switch_state.specs.FormedLaws.{ActionsKeepForm}
use Rattle.switch_state.specs.Sound.{NamesDiffer, installs_of, member_pkg, member_pkgs, name_of, removals_left}
use Rattle.switch_state.specs.State.{Request, SwitchState}
use Rattle.switch_state.specs.Underway.{ActionsRemoveFirst}
use Rattle.switch_state.proofs.RequestKept.{same_pkg}
use Rattle.switch_state.proofs.SoundKept.{is_false, pkg_self}
use Rattle.change_outcome.specs.Changes.{Change, Point}
use Rattle.change_outcome.specs.Outcomes.{first_decided}
use Rattle.change_outcome.specs.Running.{CanRun, coming, leaving, staying, stays_by}
use Rattle.change_outcome.specs.Steps.{which_done}
use Rattle.change_outcome.proofs.Following.{as_many_leave, counted}
use Rattle.change_outcome.proofs.Lists.{all_at, all_more, distinct_drop, get_drop, get_given, get_in, get_past, length_given, neither}
use Rattle.change_outcome.proofs.Returning.{or_second}
use Rattle.change_laws.specs.Fits.{CanBeCarriedOut}
use Rattle.change_laws.specs.RestLaws.{AreToldAlike}
use Rattle.change_laws.specs.Rests.{AreInstallsOf, IsRest, behind_last, comes_at, comes_with, has_put_back, installs_left, is_one_of, is_come, left_out, up_to_last}
use Rattle.change_laws.proofs.Chosen.{chosen_clear, chosen_in}
use Rattle.change_laws.proofs.Continues.{IsLeft}
use Rattle.change_laws.proofs.Needs.{none_at, one_place, place_any, some_same}
use Rattle.change_laws.proofs.Parted.{any_out, behind_at, is_of, none_behind, outs, parted, place_left, place_none, place_right, place_some, up_to_at}
use Rattle.change_laws.proofs.Places.{at_first, cleared, comes_by}
use Rattle.change_laws.proofs.Standing.{Known, came_at, flags_at, flags_more, known_early, known_late, left_at, many_flags}
use Rattle.change_laws.proofs.Stopping.{IsRight}

-- ---- lists

names_rise : (members : List Member) → RisesBy name_of members → NamesDiffer members
unfolding IsStrictlySortedBy IsDistinct
names_rise [] rises = tt
names_rise (m ∷ members) rises = (others members rises.0, names_rise members rises.1)
  where
    others : (ms : List Member) → AllByRecursion (λ y. byte_order (name_of m) y ≡ Less) (map name_of ms) → AllByRecursion (λ y. bytes_eq (name_of m) y ≡ false) (map name_of ms)
    others [] all = tt
    others (x ∷ ms) all =
        (is_false (bytes_eq (name_of m) (name_of x)) (λ same. not_itself (name_of x) (ap (λ n. byte_order n (name_of x)) (sym ((bytes_eq-Decides (name_of m) (name_of x)).0 same)) ∙ all.0)), others ms all.1)

filter_place : {X : Type 0} (keep : X → Bool) (xs : List X) (k : ℕ) (x : X) → slice_get (filter keep xs) k ≡ Some x → (j : ℕ) × (slice_get xs j ≡ Some x)
filter_place keep [] k x is = absurd cc
filter_place keep (y ∷ xs) k x is = by (keep y) k is (λ n later. filter_place keep xs n x later)
  where
    by : (b : Bool) (n : ℕ) → slice_get (cond b (y ∷ filter keep xs) (filter keep xs)) n ≡ Some x → ((n : ℕ) → slice_get (filter keep xs) n ≡ Some x → (j : ℕ) × (slice_get xs j ≡ Some x)) → (j : ℕ) × (slice_get (y ∷ xs) j ≡ Some x)
    by true zero is more = (0, is)
    by true (suc n) is more = (let later = more n is in (suc later.0, later.1))
    by false n is more = (let later = more n is in (suc later.0, later.1))

get_behind : {X : Type 0} (xs ys : List X) (k : ℕ) → slice_get (xs ++ ys) (length xs + k) ≡ slice_get ys k
get_behind [] ys k = (let e : 0 + k ≡ k = omega arith in ap (slice_get ys) e)
get_behind (x ∷ xs) ys k = (let e : suc (length xs) + k ≡ suc (length xs + k) = omega arith in ap (slice_get (x ∷ (xs ++ ys))) e ∙ get_behind xs ys k)

any_each : (t : Step → Bool) (xs : List Step) → ((k : ℕ) (x : Step) → slice_get xs k ≡ Some x → t x ≡ false) → list_any t xs ≡ false
any_each t [] none = refl
any_each t (x ∷ xs) none = neither (t x) (list_any t xs) (none 0 x refl) (any_each t xs (λ k y is. none (suc k) y is))

drop_next : {X : Type 0} (xs : List X) (n : ℕ) (x : X) → slice_get xs n ≡ Some x → drop n xs ≡ x ∷ drop (suc n) xs
drop_next [] n x is = absurd cc
drop_next (y ∷ xs) zero x is = (let e : y ≡ x = cc in ap (λ z. z ∷ xs) e)
drop_next (y ∷ xs) (suc n) x is = drop_next xs n x is

take_next : {X : Type 0} (xs : List X) (n : ℕ) (x : X) → slice_get xs n ≡ Some x → take (suc n) xs ≡ take n xs ++ x ∷ []
take_next [] n x is = absurd cc
take_next (y ∷ xs) zero x is = (let e : y ≡ x = cc in ap (λ z. z ∷ []) e)
take_next (y ∷ xs) (suc n) x is = ap (λ zs. y ∷ zs) (take_next xs n x is)

take_there : {X : Type 0} (xs : List X) (n k : ℕ) (x : X) → slice_get (take n xs) k ≡ Some x → slice_get xs k ≡ Some x
take_there xs zero k x is = absurd cc
take_there [] (suc n) k x is = absurd cc
take_there (y ∷ xs) (suc n) zero x is = is
take_there (y ∷ xs) (suc n) (suc k) x is = take_there xs n k x is

set_within : (bs : List Bool) (x : ℕ) → slice_index_or bs x false ≡ true → x < length bs
set_within [] x set = absurd (false≢true set)
set_within (b ∷ bs) zero set = omega arith
set_within (b ∷ bs) (suc x) set = (let e = set_within bs x set in omega (arith, e))

any_mapped : {X Y : Type 0} (f : X → Y) (t : Y → Bool) (xs : List X) → list_any t (map f xs) ≡ list_any (λ x. t (f x)) xs
any_mapped f t [] = refl
any_mapped f t (x ∷ xs) = ap (λ b. t (f x) || b) (any_mapped f t xs)

or_true : (a b : Bool) → b ≡ true → (a || b) ≡ true
or_true a b is = or_second a b is

or_nothing : (a : Bool) → (a || false) ≡ a
or_nothing true = refl
or_nothing false = refl

or_none : (a : Bool) → (a || false) ≡ a
or_none a = or_nothing a

twice : (a : Bool) → (true && not (not a && true)) ≡ a
twice true = refl
twice false = refl

lt_is : (n m : ℕ) → nat_lt n m ≡ true → n < m
lt_is n m is = grind (arith, nat_tests)

nat_is : (n m : ℕ) → nat_eq n m ≡ true → n ≡ m
nat_is n m is = grind (arith, nat_tests)

nat_self : (n : ℕ) → nat_eq n n ≡ true
nat_self n = grind (arith, nat_tests)

le_not : (n m : ℕ) → m < n → nat_le n m ≡ false
le_not n m less = grind (arith, nat_tests)

le_self : (n : ℕ) → nat_le n n ≡ true
le_self n = grind (arith, nat_tests)

-- ---- one list of installs

steps_one : (T U : List Member) (w v : ℕ → Bool) (steps others : List Step) → T ≡ U → w ≡ v → AreSteps T (HoldsOf w) steps → AreSteps U (HoldsOf v) others → steps ≡ others
steps_one T U w v steps others same alike one other =
    let mine = subst (λ (x : ℕ → Bool). AreSteps U (HoldsOf x) steps) alike (subst (λ (ms : List Member). AreSteps ms (HoldsOf w) steps) same one) in
    mine.2 ∙ ap (map (step_of U)) (one_is (needs_at U) (HoldsOf v) mine.0 other.0 mine.1 other.1) ∙ sym other.2

-- ---- the rest of a request that is known

record RestOf (state : SwitchState) (request : Request) (change : Change) : Type 0 where
  rises : RisesBy name_of request.target
  entries : change.entries ≡ state.members
  members : change.members ≡ request.target
  within : IsTrue (list_all (λ at. nat_lt at (length change.entries)) change.plan.removals)
  removals : leaving change ≡ removals_left request
  steps : List Step
  order : AreInstallsOf state request steps
  installs : change.plan.installs ≡ installs_left request steps
  missing : change.plan.missing ≡ left_out request steps

rest_of : (state : SwitchState) (request : Request) (change : Change) → state.request ≡ Some request → IsRest state change → RestOf state request change
rest_of state request change opened is =
    let same : is.request ≡ request = some_same is.request request state.request is.is_open opened in
    subst (λ (r : Request). RestOf state r change) same (record {
      rises = is.rises;
      entries = is.entries;
      members = is.members;
      within = is.within;
      removals = is.removals;
      steps = is.steps;
      order = is.order;
      installs = is.installs;
      missing = is.missing;
    })

-- as many removals as packages that leave
entries_there : (change : Change) → list_all (λ at. nat_lt at (length change.entries)) change.plan.removals ≡ true → list_all (λ at. is_some (option_map member_pkg (slice_get change.entries at))) change.plan.removals ≡ true
entries_there change within =
    all_more (λ at. nat_lt at (length change.entries)) (λ at. is_some (option_map member_pkg (slice_get change.entries at))) change.plan.removals
    (λ at less. ap (λ o. is_some (option_map member_pkg o)) (get_in change.entries at (lt_is at (length change.entries) less)).1) within

pub as_many : (change : Change) → list_all (λ at. nat_lt at (length change.entries)) change.plan.removals ≡ true → length (leaving change) ≡ length change.plan.removals
as_many change within = length_given (λ at. option_map member_pkg (slice_get change.entries at)) change.plan.removals (entries_there change within)

module _ (whole rest : Change) (start : Point) (out : CanBeCarriedOut whole start) (forms : ActionsKeepForm) (firsts : ActionsRemoveFirst) (is_whole : IsRest start.state whole) (told : AreToldAlike whole rest) where
  abbrev can : CanRun whole start
  can = out.restores.runs

  abbrev request : Request
  request = out.restores.runs.request

  w : RestOf start.state request whole
  w = rest_of start.state request whole can.is_open is_whole

  coming_differ : NamesDiffer (coming whole)
  coming_differ =
      let names = map-append name_of (staying whole) (coming whole) in
      subst (IsDistinct bytes_eq) (ap (drop (length (map name_of (staying whole)))) names ∙ drop_at (map name_of (staying whole)) (map name_of (coming whole)) (length (map name_of (staying whole))) refl)
      (distinct_drop (length (map name_of (staying whole))) (map name_of (staying whole ++ coming whole)) can.fresh)

  members_differ : NamesDiffer whole.members
  members_differ = subst NamesDiffer (sym w.members) (names_rise request.target w.rises)

  -- installs of one member are one
  same_place : (a b : ℕ) (one other : Step) → slice_get whole.plan.installs a ≡ Some one → slice_get whole.plan.installs b ≡ Some other → one.member ≡ other.member → a ≡ b
  same_place a b one other first second same =
      let x = comes_by whole start can a one first in
      let y = comes_by whole start can b other second in
      let e : x.member ≡ y.member = some_same x.member y.member (slice_get whole.members other.member) (ap (slice_get whole.members) (sym same) ∙ x.there) y.there in
      one_place (coming whole) a b x.member y.member coming_differ x.named y.named (ap name_of e)

  told_so : (gone : List Step) → whole.plan.installs ≡ gone ++ rest.plan.installs → (place : ℕ) (step : Step) → slice_get rest.plan.installs place ≡ Some step
      → rest.built (install_place rest.plan.installs step.member) ≡ whole.built (install_place whole.plan.installs step.member)
  told_so gone split place step stands =
      let p : ℕ = install_place rest.plan.installs step.member in
      let some = place_some step.member rest.plan.installs (place_any (is_of step.member) rest.plan.installs place step stands (nat_self step.member)) in
      let at = get_in rest.plan.installs p some in
      let own = own_place rest.plan.installs step.member at.0 at.1 in
      let one : slice_get whole.plan.installs (length gone + p) ≡ Some at.0 = ap (λ ss. slice_get ss (length gone + p)) split ∙ get_behind gone rest.plan.installs p ∙ at.1 in
      let other : slice_get whole.plan.installs (length gone + place) ≡ Some step = ap (λ ss. slice_get ss (length gone + place)) split ∙ get_behind gone rest.plan.installs place ∙ stands in
      let same = same_place (length gone + p) (length gone + place) at.0 step one other own in
      let e : p ≡ place = omega (arith, same) in
      ap rest.built e ∙ told place step stands

  -- ---- where the rest begins

  module _ (t : ℕ) (within : t ≤ length whole.plan.removals + length whole.plan.installs) (is_rest : IsRest (at_first whole start can t).state rest) where
    abbrev point : Point
    point = at_first whole start can t

    abbrev bools : List Bool
    bools = which_done (first_decided whole start t)

    long : length bools ≡ t
    long = counted whole start t

    module _ (gone : ℕ) (came : List Pkg) (known : Known whole start out forms firsts point gone came) where
      r : RestOf point.state known.now rest
      r = rest_of point.state known.now rest known.is_open is_rest

      wanted_same : comes_at point.state known.now ≡ comes_at start.state request
      wanted_same = λ i place. pointwise place i
        where
          by : (o : Option Member) → comes_with point.state known.now o ≡ comes_with start.state request o
          by None = refl
          by (Some m) = ap not (known.entries (name_of m))

          pointwise : (place : ℕ) → comes_at point.state known.now place ≡ comes_at start.state request place
          pointwise place = ap (λ (ms : List Member). comes_with point.state known.now (slice_get ms place)) known.target ∙ by (slice_get request.target place)

      steps_same : r.steps ≡ w.steps
      steps_same = steps_one known.now.target request.target (comes_at point.state known.now) (comes_at start.state request) r.steps w.steps known.target wanted_same r.order w.order

      members_same : rest.members ≡ whole.members
      members_same = r.members ∙ known.target ∙ sym w.members

      leave_same : leaving rest ≡ drop gone (leaving whole)
      leave_same = r.removals ∙ left_at whole start out forms firsts point gone came known

      removals_many : length rest.plan.removals ≡ length whole.plan.removals - gone
      removals_many = (let a = as_many rest r.within in let b = ap length leave_same in let c = length-drop gone (leaving whole) in let d = as_many_leave whole start can in omega (arith, a, b, c, d))

    -- ---- while packages are removed, or right after

    module _ (early : t ≤ length whole.plan.removals) where
      known : Known whole start out forms firsts point t []
      known = known_early whole start out forms firsts t early

      abbrev r_early : RestOf point.state known.now rest
      r_early = r t [] known

      come_same : installs_of known.now.done ≡ installs_of request.done
      come_same = known.installs ∙ append-nil (installs_of request.done)

      tests_same : is_come known.now ≡ is_come request
      tests_same = λ i step. is_one_of (come_same i) (slice_get (known.target i) step.member)

      installs_same : rest.plan.installs ≡ whole.plan.installs
      installs_same =
          r_early.installs ∙ (λ i. if known.backs i then [] else behind_last (tests_same i) (steps_same t [] known i)) ∙ sym w.installs

      missing_same : rest.plan.missing ≡ whole.plan.missing
      missing_same =
          r_early.missing
          ∙ (λ i. map (λ (step : Step). step.member) (filter (λ step. not (tests_same i step)) (if known.backs i then steps_same t [] known i else up_to_last (tests_same i) (steps_same t [] known i))))
          ∙ sym w.missing

      leaves_alike : (k at other : ℕ) → slice_get whole.plan.removals (t + k) ≡ Some at → slice_get rest.plan.removals k ≡ Some other → slice_get rest.entries other ≡ slice_get whole.entries at
      leaves_alike k at other one two =
          let mine = get_in whole.entries at (lt_is at (length whole.entries) (all_at (λ at. nat_lt at (length whole.entries)) whole.plan.removals (t + k) at can.removals one)) in
          let its = get_in rest.entries other (lt_is other (length rest.entries) (all_at (λ at. nat_lt at (length rest.entries)) rest.plan.removals k other r_early.within two)) in
          let named = get_given (λ at. option_map member_pkg (slice_get whole.entries at)) whole.plan.removals (t + k) at (member_pkg mine.0) (entries_there whole can.removals) one (ap (option_map member_pkg) mine.1) in
          let called = get_given (λ at. option_map member_pkg (slice_get rest.entries at)) rest.plan.removals k other (member_pkg its.0) (entries_there rest r_early.within) two (ap (option_map member_pkg) its.1) in
          let both : Some (member_pkg its.0) ≡ Some (member_pkg mine.0) = sym called ∙ ap (λ ps. slice_get ps k) (leave_same t [] known) ∙ get_drop t k (leaving whole) ∙ named in
          let same : member_pkg its.0 ≡ member_pkg mine.0 = cc in
          let stood = filter_place (stays_by (take t (leaving whole))) whole.entries other its.0 (ap (λ (ms : List Member). slice_get ms other) (sym (cleared whole start can t early).members ∙ sym r_early.entries) ∙ its.1) in
          let at_one = one_place whole.entries stood.0 at its.0 mine.0 can.names stood.1 mine.1 (ap (λ (p : Pkg). p.name) same) in
          its.1 ∙ sym stood.1 ∙ ap (slice_get whole.entries) at_one

      has_early : (more : List Bool) (need : ℕ) → has_installed whole.plan (bools ++ more) need ≡ has_installed rest.plan more need
      has_early more need =
          let p : ℕ = install_place whole.plan.installs need in
          let shift : slice_index_or (bools ++ more) (length whole.plan.removals + p) false ≡ slice_index_or more (length rest.plan.removals + p) false =
          get_or-append_right bools more t (length whole.plan.removals + p) false long (omega (arith, early))
          ∙ (let e : length whole.plan.removals + p - t ≡ length rest.plan.removals + p = (let a = removals_many t [] known in omega (arith, a, early)) in ap (λ n. slice_index_or more n false) e) in
          ap (λ b. is_there whole.plan need || b) shift
          ∙ (λ i. (nat_le (length (sym installs_same i)) (install_place (sym installs_same i) need) && not (list_any (nat_eq need) (sym missing_same i))) || slice_index_or more (length rest.plan.removals + install_place (sym installs_same i) need) false)

      pub left_early : IsLeft whole rest start t
      left_early = record {
        within = within;
        members = members_same t [] known;
        removals = removals_many t [] known;
        leave = leaves_alike;
        gone = [];
        installs = sym installs_same;
        passed = omega (arith, early);
        has = λ more few need. has_early more need;
        told = told_so [] (sym installs_same);
      }

    -- ---- right after an install

    module _ (i : ℕ) (is : t ≡ length whole.plan.removals + suc i) (right : IsRight whole start t) where
      abbrev installs : List Step
      installs = whole.plan.installs

      some : 0 < length whole.plan.installs
      some = omega (arith, is, within)

      late : Known whole start out forms firsts point (length whole.plan.removals) (member_pkgs (came_at whole start out forms firsts t))
      late = known_late whole start out forms firsts (suc i) t (omega (arith, is, within)) is

      abbrev r_late : RestOf point.state late.now rest
      r_late = r (length whole.plan.removals) (member_pkgs (came_at whole start out forms firsts t)) late

      abbrev flags : List Bool
      flags = flags_at whole start out forms firsts t

      flags_long : length flags ≡ suc i
      flags_long = (let a = length-drop (length whole.plan.removals) bools in let b = long in omega (arith, a, b, is))

      -- the last one is set
      last_set : slice_index_or flags i false ≡ true
      last_set = by t is right refl
        where
          by : (n : ℕ) → n ≡ length whole.plan.removals + suc i → IsRight whole start n → n ≡ t → slice_index_or (flags_at whole start out forms firsts n) i false ≡ true
          by zero there right same = absurd (omega (arith, there))
          by (suc n) there right same =
              let at : n ≡ length whole.plan.removals + i = omega (arith, there) in
              let less : i < length whole.plan.installs = omega (arith, is, within) in
              ap (λ bs. slice_index_or bs i false) (flags_more whole start out forms firsts n i at less)
              ∙ get_or_push (flags_at whole start out forms firsts n) _ false i (many_flags whole start out forms firsts n i at less) ∙ right

      -- the steps before, with those that are decided, and those that are left
      abbrev earlier : List Step
      earlier = up_to_last (is_come request) w.steps

      none_back : has_put_back request ≡ false
      none_back = can.back some

      installs_are : whole.plan.installs ≡ behind_last (is_come request) w.steps
      installs_are = w.installs ∙ ap (λ b. if b then [] else behind_last (is_come request) w.steps) none_back

      missing_are : whole.plan.missing ≡ outs (λ m. is_one_of (installs_of request.done) (slice_get request.target m)) earlier
      missing_are = w.missing ∙ ap (λ b. map (λ (step : Step). step.member) (filter (λ step. not (is_come request step)) (if b then w.steps else up_to_last (is_come request) w.steps))) none_back

      none_come : list_any (is_come request) whole.plan.installs ≡ false
      none_come = ap (list_any (is_come request)) installs_are ∙ none_behind (is_come request) w.steps

      step : (s : Step) × (slice_get whole.plan.installs i ≡ Some s)
      step = get_in whole.plan.installs i (omega (arith, is, within))

      installs_split : whole.plan.installs ≡ take i whole.plan.installs ++ step.0 ∷ drop (suc i) whole.plan.installs
      installs_split = sym (take-append-drop i whole.plan.installs) ∙ ap (λ ss. take i whole.plan.installs ++ ss) (drop_next whole.plan.installs i step.0 step.1)

      front_split : take (suc i) whole.plan.installs ≡ take i whole.plan.installs ++ step.0 ∷ []
      front_split = take_next whole.plan.installs i step.0 step.1

      -- a member is done now where it was before, or came since
      abbrev came_so : ℕ → Bool
      came_so m = is_one_of (member_pkgs (came_at whole start out forms firsts t)) (slice_get request.target m)

      abbrev was_so : ℕ → Bool
      was_so m = is_one_of (installs_of request.done) (slice_get request.target m)

      abbrev now_so : ℕ → Bool
      now_so m = is_one_of (installs_of late.now.done) (slice_get late.now.target m)

      now_or : (m : ℕ) → now_so m ≡ (was_so m || came_so m)
      now_or m = (λ j. is_one_of (late.installs j) (slice_get (late.target j) m)) ∙ by (slice_get request.target m)
        where
          by : (o : Option Member) → is_one_of (installs_of request.done ++ member_pkgs (came_at whole start out forms firsts t)) o ≡ (is_one_of (installs_of request.done) o || is_one_of (member_pkgs (came_at whole start out forms firsts t)) o)
          by None = refl
          by (Some q) = list_any-append (is_same_pkg (member_pkg q)) (installs_of request.done) (member_pkgs (came_at whole start out forms firsts t))

      -- where the member of a place among the installs stands
      at_target : (x : ℕ) (s : Step) → slice_get whole.plan.installs x ≡ Some s → (q : Member) × (slice_get request.target s.member ≡ Some q) × (slice_get (coming whole) x ≡ Some q)
      at_target x s stands =
          let it = comes_by whole start can x s stands in (it.member, ap (λ (ms : List Member). slice_get ms s.member) (sym w.members) ∙ it.there, it.named)

      -- none came but by its flag
      came_none : (m : ℕ) → ((x : ℕ) (s : Step) → slice_index_or flags x false ≡ true → slice_get whole.plan.installs x ≡ Some s → s.member ≡ m → ⊥) → came_so m ≡ false
      came_none m never = by (slice_get request.target m) refl
        where
          by : (o : Option Member) → slice_get request.target m ≡ o → is_one_of (member_pkgs (came_at whole start out forms firsts t)) o ≡ false
          by None there = refl
          by (Some q) there =
              any_mapped member_pkg (is_same_pkg (member_pkg q)) (came_at whole start out forms firsts t)
              ∙ chosen_clear (λ (c : Member). is_same_pkg (member_pkg q) (member_pkg c)) flags (coming whole)
              (λ x c set named.
              is_false (is_same_pkg (member_pkg q) (member_pkg c)) (λ same.
              let less = set_within flags x set in
              let s = get_in whole.plan.installs x (let a = flags_long in omega (arith, a, less, is, within)) in
              let at = at_target x s.0 s.1 in
              let e : at.0 ≡ c = some_same at.0 c (slice_get (coming whole) x) at.2 named in
              let names : name_of at.0 ≡ name_of q = ap name_of e ∙ sym (ap (λ (p : Pkg). p.name) (same_pkg (member_pkg q) (member_pkg c) same)) in
              never x s.0 set s.1 (one_place request.target s.0.member m at.0 q (names_rise request.target w.rises) at.1 there names)))

      -- one whose flag is set did
      came_set : (x : ℕ) (s : Step) → slice_index_or flags x false ≡ true → slice_get whole.plan.installs x ≡ Some s → came_so s.member ≡ true
      came_set x s set stands =
          let at = at_target x s stands in
          ap (is_one_of (member_pkgs (came_at whole start out forms firsts t))) at.1
          ∙ any_mapped member_pkg (is_same_pkg (member_pkg at.0)) (came_at whole start out forms firsts t)
          ∙ chosen_in (λ (c : Member). is_same_pkg (member_pkg at.0) (member_pkg c)) flags (coming whole) x at.0 set at.2 (pkg_self (member_pkg at.0))

      came_flag : (x : ℕ) (s : Step) → slice_get whole.plan.installs x ≡ Some s → came_so s.member ≡ slice_index_or flags x false
      came_flag x s stands = by (slice_index_or flags x false) refl
        where
          by : (b : Bool) → slice_index_or flags x false ≡ b → came_so s.member ≡ b
          by true set = came_set x s set stands
          by false unset =
              came_none s.member (λ y other set there same. false≢true (sym unset ∙ ap (λ n. slice_index_or flags n false) (same_place x y s other stands there (sym same)) ∙ set))

      -- those that are left are not done
      behind_clear : list_any (is_come late.now) (drop (suc i) whole.plan.installs) ≡ false
      behind_clear =
          any_each (is_come late.now) (drop (suc i) whole.plan.installs)
          (λ k s stands.
          let there = sym (get_drop (suc i) k whole.plan.installs) ∙ stands in
          now_or s.member
          ∙ neither (was_so s.member) (came_so s.member) (none_at (is_come request) whole.plan.installs (suc i + k) s none_come there)
          (came_flag (suc i + k) s there ∙ get_or_past flags (suc i + k) false (let a = flags_long in omega (arith, a))))

      step_come : is_come late.now step.0 ≡ true
      step_come = now_or step.0.member ∙ or_second (was_so step.0.member) (came_so step.0.member) (came_set i step.0 last_set step.1)

      now_back : has_put_back late.now ≡ false
      now_back = late.backs ∙ none_back

      steps_split : r_late.steps ≡ (earlier ++ take i whole.plan.installs) ++ step.0 ∷ drop (suc i) whole.plan.installs
      steps_split =
          steps_same (length whole.plan.removals) (member_pkgs (came_at whole start out forms firsts t)) late
          ∙ sym (parted (is_come request) w.steps) ∙ ap (λ ss. earlier ++ ss) (sym installs_are ∙ installs_split) ∙ sym (append_assoc earlier (take i whole.plan.installs) (step.0 ∷ drop (suc i) whole.plan.installs))

      rest_installs : rest.plan.installs ≡ drop (suc i) whole.plan.installs
      rest_installs =
          r_late.installs ∙ ap (λ b. if b then [] else behind_last (is_come late.now) r_late.steps) now_back
          ∙ ap (behind_last (is_come late.now)) steps_split
          ∙ behind_at (is_come late.now) (earlier ++ take i whole.plan.installs) step.0 (drop (suc i) whole.plan.installs) step_come behind_clear

      rest_missing : rest.plan.missing ≡ outs now_so (earlier ++ take (suc i) whole.plan.installs)
      rest_missing =
          r_late.missing
          ∙ ap (λ b. map (λ (step : Step). step.member) (filter (λ step. not (is_come late.now step)) (if b then r_late.steps else up_to_last (is_come late.now) r_late.steps))) now_back
          ∙ ap (λ ss. outs now_so (up_to_last (is_come late.now) ss)) steps_split
          ∙ ap (outs now_so) (up_to_at (is_come late.now) (earlier ++ take i whole.plan.installs) step.0 (drop (suc i) whole.plan.installs) step_come behind_clear
          ∙ append_assoc earlier (take i whole.plan.installs) (step.0 ∷ []) ∙ ap (λ ss. earlier ++ ss) (sym front_split))

      abbrev F : List Step
      F = take (suc i) whole.plan.installs

      abbrev L : List Step
      L = drop (suc i) whole.plan.installs

      parts : whole.plan.installs ≡ F ++ L
      parts = sym (take-append-drop (suc i) whole.plan.installs)

      F_long : length F ≡ suc i
      F_long = length-take-le (suc i) whole.plan.installs (omega (arith, is, within))

      whole_long : length whole.plan.installs ≡ suc i + length L
      whole_long = (let a = ap length parts in let b = length-append F L in let c = F_long in omega (arith, a, b, c))

      was_missing : (need : ℕ) → list_any (nat_eq need) whole.plan.missing ≡ (not (was_so need) && list_any (is_of need) earlier)
      was_missing need = ap (list_any (nat_eq need)) missing_are ∙ any_out was_so need earlier

      now_missing : (need : ℕ) → list_any (nat_eq need) rest.plan.missing ≡ (not (now_so need) && (list_any (is_of need) earlier || list_any (is_of need) F))
      now_missing need = ap (list_any (nat_eq need)) rest_missing ∙ any_out now_so need (earlier ++ F) ∙ ap (λ b. not (now_so need) && b) (list_any-append (is_of need) earlier F)

      none_gone : length rest.plan.removals ≡ 0
      none_gone = (let a = removals_many (length whole.plan.removals) (member_pkgs (came_at whole start out forms firsts t)) late in omega (arith, a))

      -- an install that is decided is none of those that are left
      both_parts : (need : ℕ) → list_any (is_of need) F ≡ true → list_any (is_of need) L ≡ false
      both_parts need in_front =
          let p : ℕ = install_place F need in
          let less = place_some need F in_front in
          let s = get_in F p less in
          let own = own_place F need s.0 s.1 in
          let stands : slice_get whole.plan.installs p ≡ Some s.0 = take_there whole.plan.installs (suc i) p s.0 s.1 in
          any_each (is_of need) L
          (λ k other there.
          is_false (nat_eq other.member need) (λ same.
          let e = same_place p (suc i + k) s.0 other stands (sym (get_drop (suc i) k whole.plan.installs) ∙ there) (own ∙ sym (nat_is other.member need same)) in
          let a = F_long in absurd (omega (arith, e, a, less))))

      -- a need by where it stands among the installs
      module _ (more : List Bool) (few : t + length more ≤ length whole.plan.removals + length whole.plan.installs) (need : ℕ) where
        abbrev wp : ℕ
        wp = install_place whole.plan.installs need

        abbrev rp : ℕ
        rp = install_place rest.plan.installs need

        -- what is said by places
        by_place : (one : Bool) → is_there whole.plan need ≡ one → (two : Bool) → slice_index_or (bools ++ more) (length whole.plan.removals + wp) false ≡ two
            → (three : Bool) → is_there rest.plan need ≡ three → (four : Bool) → slice_index_or more (length rest.plan.removals + rp) false ≡ four → (one || two) ≡ (three || four) → has_installed whole.plan (bools ++ more) need ≡ has_installed rest.plan more need
        by_place one a two b three c four d same = (λ j. a j || b j) ∙ same ∙ sym (λ j. c j || d j)

        has_by : (f l : Bool) → list_any (is_of need) F ≡ f → list_any (is_of need) L ≡ l → has_installed whole.plan (bools ++ more) need ≡ has_installed rest.plan more need
        has_by true l in_front in_back =
            let p : ℕ = install_place F need in
            let less = place_some need F in_front in
            let wp_is : wp ≡ p = ap (λ ss. install_place ss need) parts ∙ place_left need F L in_front in
            let s = get_in F p less in
            let own = own_place F need s.0 s.1 in
            let stands : slice_get whole.plan.installs p ≡ Some s.0 = take_there whole.plan.installs (suc i) p s.0 s.1 in
            let not_back = both_parts need in_front in
            let rp_is : rp ≡ length L = ap (λ ss. install_place ss need) rest_installs ∙ place_none need L not_back in
            let rl : length rest.plan.installs ≡ length L = ap length rest_installs in
            let flag : slice_index_or flags p false ≡ came_so need = sym (came_flag p s.0 stands) ∙ ap came_so own in
            let was : was_so need ≡ false = ap was_so (sym own) ∙ none_at (is_come request) whole.plan.installs p s.0 none_come stands in
            let now : now_so need ≡ came_so need = now_or need ∙ ap (λ b. b || came_so need) was in
            by_place false (ap (λ b. b && not (list_any (nat_eq need) whole.plan.missing)) (le_not (length whole.plan.installs) wp (let a = F_long in let b = whole_long in omega (arith, wp_is, less, a, b))))
            (came_so need)
            (get_or_append_left bools more false (length whole.plan.removals + wp) (let a = F_long in let b = long in omega (arith, wp_is, less, a, b, is))
            ∙ sym (get_or-drop (length whole.plan.removals) bools wp false) ∙ ap (λ n. slice_index_or flags n false) wp_is ∙ flag)
            (came_so need)
            ((λ j. nat_le (rl j) (rp_is j) && not (now_missing need j)) ∙ (λ j. le_self (length L) j && not (not (now j) && or_true (list_any (is_of need) earlier) (list_any (is_of need) F) in_front j)) ∙ twice (came_so need))
            false (get_or_past more (length rest.plan.removals + rp) false (let a = whole_long in let b = none_gone in omega (arith, rp_is, a, b, few, is)))
            (sym (or_nothing (came_so need)))
        has_by false true in_front in_back =
            let p : ℕ = install_place L need in
            let less = place_some need L in_back in
            let wp_is : wp ≡ suc i + p = ap (λ ss. install_place ss need) parts ∙ place_right need F L in_front ∙ (let a = F_long in omega (arith, a)) in
            let rp_is : rp ≡ p = ap (λ ss. install_place ss need) rest_installs in
            let rl : length rest.plan.installs ≡ length L = ap length rest_installs in
            by_place false (ap (λ b. b && not (list_any (nat_eq need) whole.plan.missing)) (le_not (length whole.plan.installs) wp (let b = whole_long in omega (arith, wp_is, less, b))))
            (slice_index_or more p false)
            (get_or-append_right bools more t (length whole.plan.removals + wp) false long (omega (arith, wp_is, is))
            ∙ (let e : length whole.plan.removals + wp - t ≡ p = omega (arith, wp_is, is) in ap (λ n. slice_index_or more n false) e))
            false (ap (λ b. b && not (list_any (nat_eq need) rest.plan.missing)) (le_not (length rest.plan.installs) rp (omega (arith, rp_is, rl, less))))
            (slice_index_or more p false)
            (let e : length rest.plan.removals + rp ≡ p = (let b = none_gone in omega (arith, rp_is, b)) in ap (λ n. slice_index_or more n false) e)
            refl
        has_by false false in_front in_back =
            let none : list_any (is_of need) whole.plan.installs ≡ false = ap (list_any (is_of need)) parts ∙ list_any-append (is_of need) F L ∙ neither (list_any (is_of need) F) (list_any (is_of need) L) in_front in_back in
            let wp_is : wp ≡ length whole.plan.installs = place_none need whole.plan.installs none in
            let rp_is : rp ≡ length L = ap (λ ss. install_place ss need) rest_installs ∙ place_none need L in_back in
            let rl : length rest.plan.installs ≡ length L = ap length rest_installs in
            let now : now_so need ≡ (was_so need || false) =
            now_or need ∙ ap (λ b. was_so need || b) (came_none need (λ x s set stands same.
            false≢true (sym (none_at (is_of need) whole.plan.installs x s none stands) ∙ ap (λ n. nat_eq n need) same ∙ nat_self need))) in
            by_place (not (not (was_so need) && list_any (is_of need) earlier)) ((λ j. nat_le (length whole.plan.installs) (wp_is j) && not (was_missing need j)) ∙ ap (λ b. b && not (not (was_so need) && list_any (is_of need) earlier)) (le_self (length whole.plan.installs)))
            false (get_or_past (bools ++ more) (length whole.plan.removals + wp) false (let a = length-append bools more in let b = long in omega (arith, wp_is, a, b, few)))
            (not (not (was_so need) && list_any (is_of need) earlier))
            ((λ j. nat_le (rl j) (rp_is j) && not (now_missing need j))
            ∙ (λ j. le_self (length L) j && not (not ((now ∙ or_none (was_so need)) j) && (ap (λ b. list_any (is_of need) earlier || b) in_front ∙ or_none (list_any (is_of need) earlier)) j)))
            false (get_or_past more (length rest.plan.removals + rp) false (let a = whole_long in let b = none_gone in omega (arith, rp_is, a, b, few, is)))
            refl

      pub left_late : IsLeft whole rest start t
      left_late = record {
        within = within;
        members = members_same (length whole.plan.removals) (member_pkgs (came_at whole start out forms firsts t)) late;
        removals = (let a = none_gone in omega (arith, a, is));
        leave = λ k at other one two. absurd (let a = get_past whole.plan.removals (t + k) (omega (arith, is)) in let b : None ≡ Some at = sym a ∙ one in cc);
        gone = F;
        installs = parts ∙ ap (λ ss. F ++ ss) (sym rest_installs);
        passed = (let a = F_long in omega (arith, a, is));
        has = λ more few need. has_by more few need (list_any (is_of need) F) (list_any (is_of need) L) refl refl;
        told = told_so F (parts ∙ ap (λ ss. F ++ ss) (sym rest_installs));
      }
