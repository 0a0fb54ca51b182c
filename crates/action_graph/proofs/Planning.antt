-- The plan of a change from what is affected.
use Rattle.std.proofs.Common.{◌≡◌, ℕ, zero, suc, ◌+◌, ◌-◌, ◌<◌, ◌⊎◌, ◌||◌, not, inl, inr, Bool, true, false, List, [], ◌∷◌, length, get_or, map, reverse, take, sym, ap, refl, ◌∙◌, arith, subst}
use Rattle.std.specs.Prelude.{◌↔◌, slice_get, bytes_eq, IfErr, Result, Ok, Err, ◌^◌}
use Rattle.std.specs.List.{IsDistinct, list_any}
use Rattle.std.specs.Result.{IsErrAnd}
use Rattle.std.specs.declared.option.Option.{Option}
use Rattle.std.specs.declared.option.Option.TheVariants.{None, Some}
use Rattle.std.proofs.lemmas.Bool.{true≢false}
use Rattle.std.proofs.lemmas.List.{get_or-reverse, get_or-take, length-reverse, length-take-le}
use Rattle.std.proofs.lemmas.List.Sorted.{list_any-IsPermutation}
use Rattle.opam_names.specs.ByteOrderLaws.{NeverFallsBy-from_rises}
use Rattle.opam_names.specs.ByteOrders.{NeverFallsBy, RisesBy, has_key, in_order_by}
use Rattle.opam_names.proofs.ByteOrders.{order_permutes, order_up}
use Rattle.opam_package.specs.declared.package.Member.{Member}
use Rattle.opam_package.specs.declared.package.Target.{Target}
use Rattle.action_graph.specs.declared.lookup.Spot.{Spot}
use Rattle.action_graph.specs.declared.plan.Plan.{Plan}
use Rattle.action_graph.specs.declared.plan.PlanFault.{PlanFault}
use Rattle.action_graph.specs.declared.plan.Step.{Step}
use Rattle.action_graph.specs.Leaving.{Comes, IsAffected, Leaves, OfName, has_name, is_dependent, is_touched, member_called, name_of, same_version}
use Rattle.action_graph.specs.Listing.{IsMarked}
use Rattle.action_graph.specs.Found.{marked}
use Rattle.action_graph.specs.Nodes.{Affected, Affects, OfEntries, Suits, first_place, spots_in}
use Rattle.action_graph.specs.Places.{ArePlaces, ArePlacesBack, IsIn}
use Rattle.action_graph.specs.Plans.{AreInstalls, AreSteps, IsCycleOf, IsStopOf}
use Rattle.action_graph.specs.Reach.{Reached, started, stepped}
use Rattle.action_graph.proofs.Finding.{marked_within}
use Rattle.action_graph.proofs.Leading.{called_at}
use Rattle.action_graph.proofs.Lookups.{first_passes, found_at, get_at, has_at, rises_differ}
use Rattle.action_graph.proofs.Stopping.{steps_same, stop_same}

-- ---- places from the greatest on

back_place : (xs : List ℕ) (k : ℕ) → k < length xs → get_or (reverse xs) (length xs - 1 - k) 0 ≡ get_or xs k 0
back_place xs k below =
    get_or-reverse xs (length xs - 1 - k) 0 (omega (arith, below)) ∙ ap (λ n. get_or xs n 0) (let e : length xs - 1 - (length xs - 1 - k) ≡ k = omega (arith, below) in e)

back_in : (xs : List ℕ) (x : ℕ) → IsIn xs x → IsIn (reverse xs) x
back_in xs x is = (length xs - 1 - is.0, omega (arith, is.1, length-reverse xs), back_place xs is.0 is.1 ∙ is.2)

in_back : (xs : List ℕ) (x : ℕ) → IsIn (reverse xs) x → IsIn xs x
in_back xs x is =
    let below : is.0 < length xs = omega (arith, is.1, length-reverse xs) in
    (length xs - 1 - is.0, omega (arith, below), sym (get_or-reverse xs is.0 0 below) ∙ is.2)

reversed_back : (holds : ℕ → Type 0) (places : List ℕ) → ArePlaces holds places → ArePlacesBack holds (reverse places)
reversed_back holds places are = record {
  falling = λ i j before below.
      (let all = length-reverse places in
      let high : j < length places = omega (arith, below, all) in
      let low : i < length places = omega (arith, before, high) in
      let h = are.rising (length places - 1 - j) (length places - 1 - i) (omega (arith, before, high)) (omega (arith, low)) in
      omega (arith, h, get_or-reverse places i 0 low, get_or-reverse places j 0 high));
  those = λ place. ((λ is. (are.those place).0 (in_back places place is)), (λ held. back_in places place ((are.those place).1 held)));
}

pub places_back : (holds : ℕ → Type 0) (places given turned out : List ℕ) → ArePlaces holds places → given ≡ places → turned ≡ reverse given → out ≡ turned → ArePlacesBack holds out
places_back holds places given turned out are same back is =
    let P : List ℕ → Type 0 = ArePlacesBack holds in subst P (sym (is ∙ back ∙ ap reverse same)) (reversed_back holds places are)

back_same : (P Q : ℕ → Type 0) → ((p : ℕ) → P p ↔ Q p) → (places : List ℕ) → ArePlacesBack P places → ArePlacesBack Q places
back_same P Q same places are = record {
  falling = are.falling;
  those = λ place. ((λ is. (same place).0 ((are.those place).0 is)), (λ held. (are.those place).1 ((same place).1 held)));
}

-- ---- what a change is asked of

pub suits_made : (installed members seen : List Member) (spots : List Spot) → length members + length installed < 2 ^ 32 → IsDistinct bytes_eq (map name_of installed)
    → RisesBy name_of members → spots ≡ spots_in installed → seen ≡ members → Suits installed seen spots
suits_made installed members seen spots small differ rises index same =
    let P : List Member → Type 0 = λ ms. Suits installed ms spots in
    subst P (sym same) (record { small = small; rises = rises; order = NeverFallsBy-from_rises name_of members rises; apart = rises_differ name_of members rises; differ = differ; index = index })

abbrev pub own : List ℕ → List ℕ
own name = name

pub redo_up : (redo given sorted seen : List (List ℕ)) → given ≡ redo → sorted ≡ in_order_by own given → seen ≡ sorted → NeverFallsBy own seen
redo_up redo given sorted seen same are is = let P : List (List ℕ) → Type 0 = NeverFallsBy own in subst P (sym (is ∙ are)) (order_up own given)

same_redo : (redo given sorted seen : List (List ℕ)) (name : List ℕ) → given ≡ redo → sorted ≡ in_order_by own given → seen ≡ sorted
    → list_any (has_key own name) seen ≡ list_any (has_key own name) redo
same_redo redo given sorted seen name same are is =
    ap (list_any (has_key own name)) (is ∙ are) ∙ sym (list_any-IsPermutation (has_key own name) given (in_order_by own given) (order_permutes own given))
    ∙ ap (list_any (has_key own name)) same

-- ---- what is affected

reached_map : {X : Type 0} (start : X → Type 0) (step : X → X → Type 0) (other : X → Type 0) (next : X → X → Type 0) → ((x : X) → start x → other x) → ((x y : X) → step x y → next x y)
    → (x : X) → Reached start step x → Reached other next x
reached_map start step other next starts steps x (started to is) = started to (starts to is)
reached_map start step other next starts steps x (stepped from to before is) = stepped from to (reached_map start step other next starts steps from before) (steps from to is)

abbrev pub SameRedo : List (List ℕ) → List (List ℕ) → Type 0
SameRedo sorted redo = (name : List ℕ) → list_any (has_key own name) sorted ≡ list_any (has_key own name) redo

touched_same : (installed members : List Member) (sorted redo : List (List ℕ)) → SameRedo sorted redo → (name : List ℕ) → is_touched installed members sorted name ≡ is_touched installed members redo name
touched_same installed members sorted redo same name = ap (λ b. not (same_version (member_called installed name) (member_called members name)) || b) (same name)

module _ (installed : List Member) (target : Target) (sorted : List (List ℕ)) (same : SameRedo sorted target.redo) where
  affected_is : (name : List ℕ) → Affected installed target.members sorted name → IsAffected installed target name
  affected_is name is =
      reached_map (λ n. is_touched installed target.members sorted n ≡ true) (λ other n. is_dependent installed target.members n other ≡ true)
      (λ n. is_touched installed target.members target.redo n ≡ true) (λ other n. is_dependent installed target.members n other ≡ true)
      (λ n on. sym (touched_same installed target.members sorted target.redo same n) ∙ on) (λ other n on. on) name is

  is_affected : (name : List ℕ) → IsAffected installed target name → Affected installed target.members sorted name
  is_affected name is =
      reached_map (λ n. is_touched installed target.members target.redo n ≡ true) (λ other n. is_dependent installed target.members n other ≡ true)
      (λ n. is_touched installed target.members sorted n ≡ true) (λ other n. is_dependent installed target.members n other ≡ true)
      (λ n on. touched_same installed target.members sorted target.redo same n ∙ on) (λ other n on. on) name is

  name_map : (P Q : List ℕ → Type 0) → ((name : List ℕ) → P name → Q name) → (o : Option Member) → OfName P o → OfName Q o
  name_map P Q by None held = absurd held
  name_map P Q by (Some d) held = by (name_of d) held

  name_within : (P : List ℕ → Type 0) (members : List Member) (at : ℕ) → OfName P (slice_get members at) → at < length members
  name_within P [] at held = absurd held
  name_within P (m ∷ ms) zero held = omega arith
  name_within P (m ∷ ms) (suc at) held = let h = name_within P ms at held in omega (arith, h)

  -- ---- what leaves

  leaves_same : (marks leaving : List Bool) → Affects installed target.members sorted marks → OfEntries installed target.members marks (length installed) leaving
      → (at : ℕ) → IsMarked leaving at ↔ Leaves installed target at
  leaves_same marks leaving affects entries at = (
    (λ on.
        let inside = marked_within leaving at on in
        let below : at < length installed = omega (arith, inside, entries.counted) in
        name_map (Affected installed target.members sorted) (IsAffected installed target) affected_is (slice_get installed at)
        ((affects.entries at below).0 (sym (entries.those at below) ∙ on))),
    (λ leaves.
        let below = name_within (IsAffected installed target) installed at leaves in
        entries.those at below
        ∙ (affects.entries at below).1 (name_map (IsAffected installed target) (Affected installed target.members sorted) is_affected (slice_get installed at) leaves)),
  )

  pub removals_are : (marks seen leaving given : List Bool) (removals : List ℕ) → Affects installed target.members sorted marks → seen ≡ marks
      → OfEntries installed target.members seen (length installed) leaving → given ≡ leaving → ArePlacesBack (IsMarked given) removals → ArePlacesBack (Leaves installed target) removals
  removals_are marks seen leaving given removals affects same_marks entries same_leaving are =
      let P : List Bool → Type 0 = λ ms. OfEntries installed target.members ms (length installed) leaving in
      let Q : List Bool → Type 0 = λ l. ArePlacesBack (IsMarked l) removals in
      back_same (IsMarked leaving) (Leaves installed target) (leaves_same marks leaving affects (subst P same_marks entries)) removals (subst Q same_leaving are)

  -- ---- what comes

  none_called : (name : List ℕ) → has_name installed name ≡ false → member_called installed name ≡ None
  none_called name off = found_at (has_key name_of name) installed ∙ by (first_place (has_key name_of name) installed) refl
    where
      by : (place : Option ℕ) → first_place (has_key name_of name) installed ≡ place → get_at installed place ≡ None
      by None is = refl
      by (Some i) is =
          let found = first_passes (has_key name_of name) installed i is in
          absurd (true≢false (sym (has_at (has_key name_of name) installed i found.0 found.1 found.2) ∙ off))

  new_touched : (at : ℕ) (d : Member) → RisesBy name_of target.members → slice_get target.members at ≡ Some d → has_name installed (name_of d) ≡ false
      → is_touched installed target.members sorted (name_of d) ≡ true
  new_touched at d rises is off =
      ap (λ o. not (same_version o (member_called target.members (name_of d))) || list_any (has_key own (name_of d)) sorted) (none_called (name_of d) off)
      ∙ ap (λ o. not (same_version None o) || list_any (has_key own (name_of d)) sorted) (called_at target.members at d (rises_differ name_of target.members rises) is)

  comes_back : (at : ℕ) → RisesBy name_of target.members → (o : Option Member) → slice_get target.members at ≡ o
      → OfName (λ name. IsAffected installed target name ⊎ (has_name installed name ≡ false)) o → OfName (Affected installed target.members sorted) o
  comes_back at rises None is held = absurd held
  comes_back at rises (Some d) is held = elim held [
    | inl leaves ↦ is_affected (name_of d) leaves
    | inr off ↦ started (name_of d) (new_touched at d rises is off)
  ]

  wanted_at : (marks wanted : List Bool) (at : ℕ) → length marks ≡ length target.members + length installed → wanted ≡ take (length target.members) marks → at < length target.members
      → marked wanted at ≡ marked marks at
  wanted_at marks wanted at counted is below = ap (λ l. marked l at) is ∙ get_or-take (length target.members) marks at false below

  comes_same : (marks wanted : List Bool) → RisesBy name_of target.members → Affects installed target.members sorted marks → wanted ≡ take (length target.members) marks
      → (at : ℕ) → IsMarked wanted at ↔ Comes installed target at
  comes_same marks wanted rises affects is at = (
    (λ on.
        let inside = marked_within wanted at on in
        let below : at < length target.members =
        omega (arith, inside, ap length is, length-take-le (length target.members) marks (omega (arith, affects.counted))) in
        name_map (Affected installed target.members sorted) (λ name. IsAffected installed target name ⊎ (has_name installed name ≡ false)) (λ name held. inl (affected_is name held))
        (slice_get target.members at) ((affects.comers at below).0 (sym (wanted_at marks wanted at affects.counted is below) ∙ on))),
    (λ comes.
        let below = name_within (λ name. IsAffected installed target name ⊎ (has_name installed name ≡ false)) target.members at comes in
        wanted_at marks wanted at affects.counted is below ∙ (affects.comers at below).1 (comes_back at rises (slice_get target.members at) refl comes)),
  )

  pub installs_are : (seen : List Member) (marks given wanted : List Bool) (steps : List Step) → RisesBy name_of target.members → Affects installed target.members sorted marks
      → seen ≡ target.members → given ≡ marks → wanted ≡ take (length seen) given → AreSteps seen (IsMarked wanted) steps → AreInstalls installed target steps
  installs_are seen marks given wanted steps rises affects same same_marks is are =
      let P : List Member → Type 0 = λ ms. AreSteps ms (IsMarked wanted) steps in
      steps_same target.members (IsMarked wanted) (Comes installed target)
      (comes_same marks wanted rises affects (is ∙ ap (λ ms. take (length ms) given) same ∙ ap (take (length target.members)) same_marks)) steps (subst P same are)

  pub cycle_is : (seen : List Member) (marks given wanted : List Bool) (fault : PlanFault) (result : Result Plan PlanFault) → RisesBy name_of target.members → Affects installed target.members sorted marks
      → seen ≡ target.members → given ≡ marks → wanted ≡ take (length seen) given → IsStopOf seen (IsMarked wanted) fault → IsErrAnd result (λ f. f ≡ fault) → IfErr result (IsCycleOf installed target)
  cycle_is seen marks given wanted fault (Ok plan) rises affects same same_marks is stops err = tt
  cycle_is seen marks given wanted fault (Err f) rises affects same same_marks is stops err =
      let P : List Member → Type 0 = λ ms. IsStopOf ms (IsMarked wanted) fault in
      let Q : PlanFault → Type 0 = IsCycleOf installed target in
      subst Q (sym err) (stop_same target.members (IsMarked wanted) (Comes installed target)
      (comes_same marks wanted rises affects (is ∙ ap (λ ms. take (length ms) given) same ∙ ap (take (length target.members)) same_marks)) fault (subst P same stops))

-- of affects over members that were seen
pub affects_seen : (installed members seen : List Member) (sorted : List (List ℕ)) (marks : List Bool) → seen ≡ members → Affects installed seen sorted marks → Affects installed members sorted marks
affects_seen installed members seen sorted marks same is = let P : List Member → Type 0 = λ ms. Affects installed ms sorted marks in subst P same is

pub entries_seen : (installed members seen : List Member) (marks leaving : List Bool) → seen ≡ members → OfEntries installed seen marks (length installed) leaving
    → OfEntries installed members marks (length installed) leaving
entries_seen installed members seen marks leaving same is = let P : List Member → Type 0 = λ ms. OfEntries installed ms marks (length installed) leaving in subst P same is

pub redo_same : (redo given sorted seen : List (List ℕ)) → given ≡ redo → sorted ≡ in_order_by own given → seen ≡ sorted → SameRedo seen redo
redo_same redo given sorted seen same are is = λ name. same_redo redo given sorted seen name same are is
