-- A package that can come back can be committed when its turn has come.
use Rattle.std.proofs.Common.{◌≡◌, ℕ, zero, suc, ◌+◌, ◌≤◌, List, [], ◌∷◌, ◌++◌, map, filter, length, reverse, Bool, true, false, not, cond, Option, Some, None, refl, sym, ap, ◌∙◌, subst, arith}
use Rattle.std.specs.Prelude.{◌||◌, bytes_eq, filter_map, find, is_some, slice_get, take_while, if◌then◌else◌}
use Rattle.std.specs.List.{AllByRecursion, IsDistinct, cons_option, list_all, list_any}
use Rattle.std.specs.Option.{option_map}
use Rattle.std.proofs.lemmas.Bool.{false≢true}
use Rattle.std.proofs.lemmas.List.{append-nil, reverse-append, length-append, map-append}
use Rattle.std.proofs.lemmas.List.Sums.{take_while-cons}
use Rattle.std.proofs.lemmas.Slice.Eq.{bytes_eq-Decides}
use Rattle.opam_names.specs.declared.packages.Pkg.{Pkg}
use Rattle.opam_package.specs.declared.package.Member.{Member}
use Rattle.action_graph.specs.declared.plan.Step.{Step}
use Rattle.change_floor.specs.Floors.{turn_of}
use Rattle.owner_map.specs.Owning.{is_same_pkg}
use Rattle.switch_journal.specs.Applying.{is_removal}
use Rattle.switch_journal.specs.declared.request.Done.{Done}
use Rattle.switch_journal.specs.declared.request.Done.TheVariants as done
use Rattle.switch_state.specs.Actions.{Action, Installs, PutsBack, Removes, and_noted}
use Rattle.switch_state.specs.Ends.{is_called}
use Rattle.switch_state.specs.Keeps.{is_member_of, wants}
use Rattle.switch_state.specs.OpamTexts.{removal_number}
use Rattle.switch_state.specs.Sound.{is_removal_done, member_pkg, name_of}
use Rattle.switch_state.specs.State.{Request}
use Rattle.switch_state.specs.Underway.{ActionsRemoveFirst, RemovesFirst, removed_of}
use Rattle.change_outcome.specs.Changes.{Change, Point, Removal, kept_entry, point_after, removals_after, things_done}
use Rattle.change_outcome.specs.PossibleLaws.{CanRestore}
use Rattle.change_outcome.specs.PossibleRuns.{MayRun, begins, goes_on}
use Rattle.change_outcome.specs.Running.{CanRun, coming, leaving, staying, stays_by}
use Rattle.change_outcome.specs.Steps.{Decided, point_then, which_done}
use Rattle.change_outcome.proofs.Clearing.{Cleared, removals_counted}
use Rattle.change_outcome.proofs.Filling.{length_left}
use Rattle.change_outcome.proofs.Following.{as_many_come, as_many_leave, step_point, then_next}
use Rattle.change_outcome.proofs.Lists.{and_left, and_right, both, neither, or_left, or_right}
use Rattle.change_outcome.proofs.Possible.{Along, IfCan, along, before_last, clearing, counted_so, filling, leads, may_at}

-- ---- lists

module _ {X : Type 0} where
  -- what meets neither test meets no third one
  pub any_other : (f g h : X → Bool) (xs : List X) → ((x : X) → f x ≡ false → g x ≡ false → h x ≡ false) → list_any f xs ≡ false → list_any g xs ≡ false → list_any h xs ≡ false
  any_other f g h [] other one two = refl
  any_other f g h (x ∷ xs) other one two =
      neither (h x) (list_any h xs) (other x (or_left (f x) (list_any f xs) one) (or_left (g x) (list_any g xs) two))
      (any_other f g h xs other (or_right (f x) (list_any f xs) one) (or_right (g x) (list_any g xs) two))

  pub any_back : (f : X → Bool) (xs ys : List X) → list_any f (xs ++ ys) ≡ false → list_any f ys ≡ false
  any_back f [] ys none = none
  any_back f (x ∷ xs) ys none = any_back f xs ys (or_right (f x) (list_any f (xs ++ ys)) none)

  pub any_sum : (f : X → Bool) (xs ys : List X) → list_any f xs ≡ false → list_any f ys ≡ false → list_any f (xs ++ ys) ≡ false
  any_sum f [] ys one two = two
  any_sum f (x ∷ xs) ys one two = neither (f x) (list_any f (xs ++ ys)) (or_left (f x) (list_any f xs) one) (any_sum f xs ys (or_right (f x) (list_any f xs) one) two)

  pub any_here : (f : X → Bool) (xs : List X) (x : X) (ys : List X) → list_any f (xs ++ x ∷ ys) ≡ false → f x ≡ false
  any_here f xs x ys none = or_left (f x) (list_any f ys) (any_back f xs (x ∷ ys) none)

  pub none_of : (f : X → Bool) (xs : List X) → list_all f xs ≡ true → list_any (λ x. not (f x)) xs ≡ false
  none_of f [] all = refl
  none_of f (x ∷ xs) all = neither (not (f x)) (list_any (λ x. not (f x)) xs) (ap not (and_left (f x) (list_all f xs) all)) (none_of f xs (and_right (f x) (list_all f xs) all))

  -- what is taken off the front passes the test, and the rest follows
  pub rest_while : (t : X → Bool) (xs : List X) → (rest : List X) × (xs ≡ take_while t xs ++ rest)
  rest_while t [] = ([], refl)
  rest_while t (x ∷ xs) = by (t x) refl (rest_while t xs)
    where
      by : (b : Bool) → t x ≡ b → (rest : List X) × (xs ≡ take_while t xs ++ rest) → (rest : List X) × (x ∷ xs ≡ take_while t (x ∷ xs) ++ rest)
      by true is later = (later.0, ap (λ zs. x ∷ zs) later.1 ∙ ap (λ zs. zs ++ later.0) (sym (take_while-cons t x xs ∙ ap (λ b. cond b (x ∷ take_while t xs) []) is)))
      by false is later = (x ∷ xs, ap (λ zs. zs ++ x ∷ xs) (sym (take_while-cons t x xs ∙ ap (λ b. cond b (x ∷ take_while t xs) []) is)))

  pub all_while : (t : X → Bool) (xs : List X) → list_any (λ x. not (t x)) (take_while t xs) ≡ false
  all_while t [] = refl
  all_while t (x ∷ xs) = ap (list_any (λ x. not (t x))) (take_while-cons t x xs) ∙ by (t x) refl (all_while t xs)
    where
      by : (b : Bool) → t x ≡ b → list_any (λ x. not (t x)) (take_while t xs) ≡ false → list_any (λ x. not (t x)) (cond b (x ∷ take_while t xs) []) ≡ false
      by true is later = neither (not (t x)) (list_any (λ x. not (t x)) (take_while t xs)) (ap not is) later
      by false is later = refl

  -- of a front the ones that pass a test, the last first
  pub data TakesBack (t : X → Bool) : List X → List X → Type 0 where
    none_left : (front : List X) → TakesBack t front []
    takes : (front : List X) (x : X) (after more : List X) → t x ≡ true → TakesBack t front more → TakesBack t (front ++ x ∷ after) (x ∷ more)

  takes_more : (t : X → Bool) (y : X) (front left : List X) → TakesBack t front left → TakesBack t (y ∷ front) left
  takes_more t y front left (none_left whole) = none_left (y ∷ whole)
  takes_more t y front left (takes before x after more here later) = takes (y ∷ before) x after more here (takes_more t y before more later)

  takes_last : (t : X → Bool) (y : X) (front left : List X) → t y ≡ true → TakesBack t front left → TakesBack t (y ∷ front) (left ++ y ∷ [])
  takes_last t y front left here (none_left whole) = takes [] y whole [] here (none_left [])
  takes_last t y front left here (takes before x after more there later) = takes (y ∷ before) x after (more ++ y ∷ []) there (takes_last t y before more here later)

  pub takes_all : (t : X → Bool) (xs : List X) → TakesBack t xs (reverse (filter t xs))
  takes_all t [] = none_left []
  takes_all t (x ∷ xs) = by (t x) refl (takes_all t xs)
    where
      by : (b : Bool) → t x ≡ b → TakesBack t xs (reverse (filter t xs)) → TakesBack t (x ∷ xs) (reverse (cond b (x ∷ filter t xs) (filter t xs)))
      by true is later = subst (TakesBack t (x ∷ xs)) (sym (reverse-append (x ∷ []) (filter t xs))) (takes_last t x xs (reverse (filter t xs)) is later)
      by false is later = takes_more t x xs (reverse (filter t xs)) later

-- ---- names

bytes_self : (a : List ℕ) → bytes_eq a a ≡ true
bytes_self a = (bytes_eq-Decides a a).1 refl

pub bytes_back : (a b : List ℕ) → bytes_eq a b ≡ false → bytes_eq b a ≡ false
bytes_back a b other = is_false (bytes_eq b a) (λ same. false≢true (sym other ∙ (bytes_eq-Decides a b).1 (sym ((bytes_eq-Decides b a).0 same))))
  where
    is_false : (c : Bool) → (c ≡ true → ⊥) → c ≡ false
    is_false true never = absurd (never refl)
    is_false false never = refl

pub bytes_same : (a b : List ℕ) → bytes_eq a b ≡ true → a ≡ b
bytes_same a b same = (bytes_eq-Decides a b).0 same

abbrev without : List ℕ → List (List ℕ) → List (List ℕ)
without name names = filter (λ other. not (bytes_eq name other)) names

fewer_without : (name : List ℕ) (names : List (List ℕ)) → length (without name names) ≤ length names
fewer_without name [] = omega arith
fewer_without name (other ∷ names) = by (not (bytes_eq name other)) (fewer_without name names)
  where
    by : (b : Bool) → length (without name names) ≤ length names → length (cond b (other ∷ without name names) (without name names)) ≤ suc (length names)
    by true later = omega (arith, later)
    by false later = omega (arith, later)

one_less : (name : List ℕ) (names : List (List ℕ)) → list_any (bytes_eq name) names ≡ true → suc (length (without name names)) ≤ length names
one_less name [] there = absurd (false≢true there)
one_less name (other ∷ names) there = by (bytes_eq name other) (one_less name names) there
  where
    by : (b : Bool) → (list_any (bytes_eq name) names ≡ true → suc (length (without name names)) ≤ length names) → (b || list_any (bytes_eq name) names) ≡ true → suc (length (cond (not b) (other ∷ without name names) (without name names))) ≤ suc (length names)
    by true later there = (let e = fewer_without name names in omega (arith, e))
    by false later there = (let e = later there in omega (arith, e))

pub or_second : (a b : Bool) → b ≡ true → (a || b) ≡ true
or_second true b is = refl
or_second false b is = is

stands_without : (name other : List ℕ) (names : List (List ℕ)) → bytes_eq name other ≡ false → list_any (bytes_eq other) names ≡ true → list_any (bytes_eq other) (without name names) ≡ true
stands_without name other [] differ there = there
stands_without name other (x ∷ names) differ there = by (bytes_eq name x) refl (bytes_eq other x) refl (stands_without name other names differ) there
  where
    by : (b : Bool) → bytes_eq name x ≡ b → (c : Bool) → bytes_eq other x ≡ c → (list_any (bytes_eq other) names ≡ true → list_any (bytes_eq other) (without name names) ≡ true) → (c || list_any (bytes_eq other) names) ≡ true
        → list_any (bytes_eq other) (cond (not b) (x ∷ without name names) (without name names)) ≡ true
    by true is true same later there = absurd (false≢true (sym differ ∙ ap (bytes_eq name) (bytes_same other x same) ∙ is))
    by true is false same later there = later there
    by false is true same later there = rw same refl
    by false is false same later there = or_second (bytes_eq other x) (list_any (bytes_eq other) (without name names)) (later there)

-- names that differ and all stand in a list are no more than it has
pub no_more_names : (names others : List (List ℕ)) → IsDistinct bytes_eq names → list_all (λ name. list_any (bytes_eq name) others) names ≡ true → length names ≤ length others
unfolding IsDistinct
no_more_names [] others apart all = omega arith
no_more_names (name ∷ names) others apart all =
    let here = one_less name others (and_left (list_any (bytes_eq name) others) (list_all (λ n. list_any (bytes_eq n) others) names) all) in
    let later = no_more_names names (without name others) apart.1 (left names apart.0 (and_right (list_any (bytes_eq name) others) (list_all (λ n. list_any (bytes_eq n) others) names) all)) in
    omega (arith, here, later)
  where
    left : (names : List (List ℕ)) → AllByRecursion (λ y. bytes_eq name y ≡ false) names → list_all (λ n. list_any (bytes_eq n) others) names ≡ true → list_all (λ n. list_any (bytes_eq n) (without name others)) names ≡ true
    left [] differ all = refl
    left (x ∷ names) differ all =
        both (list_any (bytes_eq x) (without name others)) (list_all (λ n. list_any (bytes_eq n) (without name others)) names)
        (stands_without name x others differ.0 (and_left (list_any (bytes_eq x) others) (list_all (λ n. list_any (bytes_eq n) others) names) all))
        (left names differ.1 (and_right (list_any (bytes_eq x) others) (list_all (λ n. list_any (bytes_eq n) others) names) all))

-- ---- what a request has removed

pub removed_more : (things : List Done) (what : Done) → removed_of (things ++ what ∷ []) ≡ removed_of things ++ removed_of (what ∷ [])
removed_more [] what = refl
removed_more (done.Removed pkg number kept ∷ things) what = ap (λ ps. pkg ∷ ps) (removed_more things what)
removed_more (done.Installed pkg ∷ things) what = removed_more things what
removed_more (done.PutBack pkg ∷ things) what = removed_more things what

pub has_number : (pkg : Pkg) (things : List Done) → list_any (λ gone. is_same_pkg gone pkg) (removed_of things) ≡ true → is_some (removal_number pkg things) ≡ true
has_number pkg [] there = absurd (false≢true there)
has_number pkg (done.Removed gone number kept ∷ things) there = by (is_same_pkg gone pkg) (has_number pkg things) there
  where
    by : (b : Bool) → (list_any (λ gone. is_same_pkg gone pkg) (removed_of things) ≡ true → is_some (removal_number pkg things) ≡ true) → (b || list_any (λ gone. is_same_pkg gone pkg) (removed_of things)) ≡ true
        → is_some (if b then Some number else removal_number pkg things) ≡ true
    by true later there = refl
    by false later there = later there
has_number pkg (done.Installed other ∷ things) there = has_number pkg things there
has_number pkg (done.PutBack other ∷ things) there = has_number pkg things there

abbrev pub gone_pkgs : List Removal → List Pkg
gone_pkgs removals = map (λ (removal : Removal). removal.pkg) removals

-- the open request, with what it has removed
pub record Noted (request : Request) (point : Point) : Type 0 where
  pub now : Request
  pub is_open : point.state.request ≡ Some now
  pub target : now.target ≡ request.target
  pub removals : now.removals ≡ request.removals
  pub removed : gone_pkgs point.removals ≡ removed_of now.done

pub noted_next : (request : Request) (point : Point) (action : Action) → Noted request point → Noted request (point_after point action)
noted_next request point (Installs member files) noted = record {
  now = and_noted (done.Installed (member_pkg member)) noted.now;
  is_open = ap (option_map (and_noted (done.Installed (member_pkg member)))) noted.is_open;
  target = noted.target;
  removals = noted.removals;
  removed = noted.removed ∙ sym (removed_more noted.now.done (done.Installed (member_pkg member)) ∙ append-nil (removed_of noted.now.done));
}
noted_next request point (PutsBack member files) noted = record {
  now = and_noted (done.PutBack (member_pkg member)) noted.now;
  is_open = ap (option_map (and_noted (done.PutBack (member_pkg member)))) noted.is_open;
  target = noted.target;
  removals = noted.removals;
  removed = noted.removed ∙ sym (removed_more noted.now.done (done.PutBack (member_pkg member)) ∙ append-nil (removed_of noted.now.done));
}
noted_next request point (Removes pkg kept) noted = record {
  now = and_noted (done.Removed pkg point.number (is_some kept)) noted.now;
  is_open = ap (option_map (and_noted (done.Removed pkg point.number (is_some kept)))) noted.is_open;
  target = noted.target;
  removals = noted.removals;
  removed =
      pushed point.removals (removals_after (Removes pkg kept) point) refl ∙ ap (λ ps. ps ++ pkg ∷ []) noted.removed ∙ sym (removed_more noted.now.done (done.Removed pkg point.number (is_some kept)));
}
  where
    pushed : (removals after : List Removal) → removals_after (Removes pkg kept) point ≡ after → gone_pkgs after ≡ gone_pkgs point.removals ++ pkg ∷ []
    pushed removals after is = ap gone_pkgs (sym is) ∙ map-append (λ (removal : Removal). removal.pkg) point.removals (last ∷ [])
      where
        last : Removal
        last = record { pkg = pkg; kept = kept_entry (find (is_member_of pkg) point.state.members) kept }

pub noted_step : (request : Request) (point : Point) (does : Option Action) → Noted request point → Noted request (step_point point does)
noted_step request point None noted = noted
noted_step request point (Some action) noted = noted_next request point action noted

-- where a request removes first, it goes on so
pub first_step : ActionsRemoveFirst → (point : Point) (does : Option Action) → IfCan point does → RemovesFirst point.state → RemovesFirst (step_point point does).state
first_step law point None can first = first
first_step law point (Some action) can first = law point.number action point.state can.0 first

-- ---- where the put backs begin

-- what the request wants, by its name
abbrev pub is_wanted : Change → List ℕ → Bool
is_wanted change name = list_any (is_called name) change.members

-- all removals and installs are decided
pub record Turned (change : Change) (request : Request) (point : Point) : Type 0 where
  pub noted : Noted request point
  pub counted : length (filter is_removal noted.now.done) ≡ length noted.now.removals
  pub wanted : list_any (λ (m : Member). not (is_wanted change (name_of m))) point.state.members ≡ false

module _ (change : Change) (start : Point) (restores : CanRestore change start) where
  abbrev can : CanRun change start
  can = restores.runs

  abbrev request : Request
  request = restores.runs.request

  noted_first : Noted request start
  noted_first = record { now = request; is_open = restores.runs.is_open; target = refl; removals = refl; removed = restores.removed ∙ ap (λ (r : Option Request). removed_of (things_done r)) restores.runs.is_open }

  -- the steps of a run, with what may be committed in each
  pub record Ran (before : List Decided) : Type 0 where
    pub noted : Noted request (point_then start before)
    pub first : RemovesFirst (point_then start before).state

  pub ran : ActionsRemoveFirst → (before : List Decided) → MayRun change start before → Ran before
  ran law all begins = record { noted = noted_first; first = restores.first }
  ran law all (goes_on before fates next runs may) =
      let point : Point = point_then start before in
      let earlier = ran law before runs in
      let long = counted_so change start can before in
      let within = before_last change start can (which_done before) fates point next may in
      let lead = leads change start can (length before) (which_done before) fates point long (omega (arith, long, within)) (along change start can before runs) in
      let commits = lead.commits next (may_at change point (turn_of change.plan (which_done before) fates) next may) in
      let there = sym (then_next start before next) in
      record { noted = subst (Noted request) there (noted_step request point next.does earlier.noted); first = subst (λ (p : Point). RemovesFirst p.state) there (first_step law point next.does commits earlier.first) }

  -- names that are wanted
  staying_wanted : list_any (λ (m : Member). not (is_wanted change (name_of m))) (staying change) ≡ false
  staying_wanted =
      none_of (λ (m : Member). is_wanted change (name_of m)) (staying change)
      (ap (λ (ms : List Member). list_all (λ (m : Member). list_any (is_called (name_of m)) ms) (staying change)) (sym restores.runs.target)
      ∙ ap (λ (r : Option Request). list_all (λ (m : Member). wants (name_of m) r) (staying change)) (sym restores.runs.is_open) ∙ restores.wanted)

  is_member : (members : List Member) (at : ℕ) (m : Member) → slice_get members at ≡ Some m → list_any (is_called (name_of m)) members ≡ true
  is_member [] at m there = absurd cc
  is_member (x ∷ members) zero m there = (let e : x ≡ m = cc in let here : is_called (name_of m) x ≡ true = ap (is_called (name_of m)) e ∙ bytes_self (name_of m) in rw here refl)
  is_member (x ∷ members) (suc at) m there = or_second (is_called (name_of m) x) (list_any (is_called (name_of m)) members) (is_member members at m there)

  coming_wanted : (steps : List Step) → list_any (λ (m : Member). not (is_wanted change (name_of m))) (filter_map (λ (step : Step). slice_get change.members step.member) steps) ≡ false
  coming_wanted [] = refl
  coming_wanted (step ∷ steps) = by (slice_get change.members step.member) refl (coming_wanted steps)
    where
      by : (o : Option Member) → slice_get change.members step.member ≡ o → list_any (λ (m : Member). not (is_wanted change (name_of m))) (filter_map (λ (step : Step). slice_get change.members step.member) steps) ≡ false
          → list_any (λ (m : Member). not (is_wanted change (name_of m))) (cons_option o (filter_map (λ (step : Step). slice_get change.members step.member) steps)) ≡ false
      by None is later = later
      by (Some m) is later = neither (not (is_wanted change (name_of m))) (list_any (λ (m : Member). not (is_wanted change (name_of m))) (filter_map (λ (step : Step). slice_get change.members step.member) steps)) (ap not (is_member change.members step.member m is)) later

  all_wanted : list_any (λ (m : Member). not (is_wanted change (name_of m))) (staying change ++ coming change) ≡ false
  all_wanted = any_sum (λ (m : Member). not (is_wanted change (name_of m))) (staying change) (coming change) staying_wanted (coming_wanted change.plan.installs)

  same_now : (point : Point) (one other : Request) → point.state.request ≡ Some one → point.state.request ≡ Some other → one ≡ other
  same_now point one other first second = (let e : Some one ≡ Some other = sym first ∙ second in cc)

  pub turned : (point : Point) → Noted request point → Along change request (length change.plan.removals + length change.plan.installs) point → Turned change request point
  turned point noted (clearing gone left split long cleared) = by left split cleared
    where
      by : (left : List Pkg) → leaving change ≡ gone ++ left → Cleared change request gone left point → Turned change request point
      by (pkg ∷ more) split cleared = absurd (let e = ap length split in let f = length-append gone (pkg ∷ more) in let g = as_many_leave change start can in omega (arith, e, f, g, long))
      by [] split cleared =
          let all : leaving change ≡ gone = split ∙ append-nil gone in
          let now = same_now point cleared.now noted.now cleared.is_open noted.is_open in
          record {
            noted = noted;
            counted =
                (let counted = ap length (removals_counted request.done) in
                let left = length_left (length (filter is_removal_done request.done)) request.removals restores.runs.done_first in
                let lies = ap length (restores.runs.left ∙ all) in
                let e = cleared.removed in
                let f = ap length cleared.removals in
                let as_many : length (filter is_removal cleared.now.done) ≡ length cleared.now.removals = omega (arith, counted, left, lies, e, f) in
                subst (λ (r : Request). length (filter is_removal r.done) ≡ length r.removals) now as_many);
            wanted = ap (list_any (λ (m : Member). not (is_wanted change (name_of m)))) (cleared.members ∙ ap (λ ps. filter (stays_by ps) change.entries) (sym all)) ∙ staying_wanted;
          }
  turned point noted (filling front left split long filled) = by left split
    where
      by : (left : List Member) → coming change ≡ front ++ left → Turned change request point
      by (member ∷ more) split = absurd (let e = ap length split in let f = length-append front (member ∷ more) in let g = as_many_come change start can in omega (arith, e, f, g, long))
      by [] split = record {
        noted = noted;
        counted = subst (λ (r : Request). length (filter is_removal r.done) ≡ length r.removals) (same_now point filled.now noted.now filled.is_open noted.is_open) filled.removed;
        wanted = filled.none (λ (m : Member). not (is_wanted change (name_of m))) (ap (λ ms. list_any (λ (m : Member). not (is_wanted change (name_of m))) (staying change ++ ms)) (sym (split ∙ append-nil front)) ∙ all_wanted);
      }
