-- A change that is stopped goes on decision by decision as the whole does.
use Rattle.std.proofs.Common.{◌≡◌, ◌∙◌, ℕ, zero, suc, ◌+◌, ◌-◌, ◌<◌, ◌≤◌, List, [], ◌∷◌, ◌++◌, length, Bool, true, false, not, Option, Some, None, refl, sym, ap, arith, append_assoc, inl, inr}
use Rattle.std.specs.Prelude.{◌⊎◌, is_some, nat_lt, slice_get}
use Rattle.std.proofs.lemmas.Bool.Decides.{nat_tests}
use Rattle.std.proofs.lemmas.List.{append-nil, length-append, map-append}
use Rattle.opam_package.specs.declared.package.Member.{Member}
use Rattle.action_graph.specs.declared.plan.Step.{Step}
use Rattle.change_floor.specs.Floors.{has_installed, install_place, install_turn, lacking, least_of}
use Rattle.change_floor.specs.declared.turn.Turn.{Turn}
use Rattle.outside_io.specs.declared.workshop.Fate.{Fate}
use Rattle.std.specs.List.{cons_option}
use Rattle.switch_state.specs.Actions.{Action}
use Rattle.change_outcome.specs.Changes.{Change, Point, Removal, point_after, point_after_all}
use Rattle.change_outcome.specs.Outcomes.{actions_decided, all_decided, first_decided, turn_after}
use Rattle.change_outcome.specs.PutBacks.{backs_left, with_backs}
use Rattle.change_outcome.specs.Steps.{Decided, abort_of, back_of, decided_on, done_in, install_of, point_then, removal_of, which_done}
use Rattle.change_outcome.proofs.Following.{counted, install_turn_at, removal_turn}
use Rattle.change_outcome.proofs.Lists.{filter_same, get_in}
use Rattle.change_outcome.proofs.Schedules.{fold_append}

-- ---- decisions in two parts

pub done_parts : (xs ys : List Decided) → done_in (xs ++ ys) ≡ done_in xs ++ done_in ys
done_parts [] ys = refl
done_parts (x ∷ xs) ys = by x.does (done_parts xs ys)
  where
    by : (o : Option Action) → done_in (xs ++ ys) ≡ done_in xs ++ done_in ys → cons_option o (done_in (xs ++ ys)) ≡ cons_option o (done_in xs) ++ done_in ys
    by None later = later
    by (Some action) later = ap (λ zs. action ∷ zs) later

pub point_parts : (start : Point) (xs ys : List Decided) → point_then start (xs ++ ys) ≡ point_then (point_then start xs) ys
point_parts start xs ys = ap (point_after_all start) (done_parts xs ys) ∙ fold_append point_after start (done_in xs) (done_in ys)

pub backs_parts : (start : Point) (xs ys : List Decided) (removals : List Removal) → with_backs start (xs ++ ys) removals ≡ xs ++ with_backs (point_then start xs) ys removals
backs_parts start xs ys [] = refl
backs_parts start xs ys (removal ∷ removals) =
    let next : Decided = back_of (point_then (point_then start xs) ys) removal in
    ap (λ (p : Point). with_backs start ((xs ++ ys) ++ back_of p removal ∷ []) removals) (point_parts start xs ys)
    ∙ ap (λ ds. with_backs start ds removals) (append_assoc xs ys (next ∷ []))
    ∙ backs_parts start xs (ys ++ next ∷ []) removals

-- ---- the simulation

module _ (whole rest : Change) (start : Point) (t : ℕ) where
  abbrev front : List Decided
  front = first_decided whole start t

  abbrev pub middle : Point
  middle = point_then start (first_decided whole start t)

  abbrev last : ℕ
  last = length whole.plan.removals + length whole.plan.installs

  -- the rest is what is left of the whole after so many decisions
  pub record IsLeft : Type 0 where
    pub within : t ≤ length whole.plan.removals + length whole.plan.installs
    pub members : rest.members ≡ whole.members
    pub removals : length rest.plan.removals ≡ length whole.plan.removals - t
    pub leave : (k at other : ℕ) → slice_get whole.plan.removals (t + k) ≡ Some at → slice_get rest.plan.removals k ≡ Some other → slice_get rest.entries other ≡ slice_get whole.entries at
    pub gone : List Step
    pub installs : whole.plan.installs ≡ gone ++ rest.plan.installs
    pub passed : length gone ≡ t - length whole.plan.removals
    pub has : (bools : List Bool) → t + length bools ≤ length whole.plan.removals + length whole.plan.installs → (need : ℕ) → has_installed whole.plan (which_done (first_decided whole start t) ++ bools) need ≡ has_installed rest.plan bools need
    pub told : (place : ℕ) (step : Step) → slice_get rest.plan.installs place ≡ Some step → rest.built (install_place rest.plan.installs step.member) ≡ whole.built (install_place whole.plan.installs step.member)

  module _ (left : IsLeft) where
    get_behind : (xs ys : List Step) (i k : ℕ) → i ≡ length xs + k → slice_get (xs ++ ys) i ≡ slice_get ys k
    get_behind [] ys i k is = (let e : i ≡ k = omega (arith, is) in ap (slice_get ys) e)
    get_behind (x ∷ xs) ys zero k is = absurd (omega (arith, is))
    get_behind (x ∷ xs) ys (suc i) k is = get_behind xs ys i k (omega (arith, is))

    lacks_same : (bools : List Bool) → t + length bools ≤ length whole.plan.removals + length whole.plan.installs → (needs : List ℕ) → lacking whole.plan (which_done (first_decided whole start t) ++ bools) needs ≡ lacking rest.plan bools needs
    lacks_same bools within needs =
        ap least_of
        (filter_same (λ need. not (has_installed whole.plan (which_done (first_decided whole start t) ++ bools) need)) (λ need. not (has_installed rest.plan bools need)) needs (λ need. ap not (left.has bools within need)))

    -- what is decided of the turn of an install
    turns_alike : (point : Point) (place : ℕ) (step : Step) (lacks : Option ℕ) (one other : Fate) → slice_get rest.plan.installs place ≡ Some step
        → decided_on whole point (install_turn step.member lacks (Some one)) ≡ decided_on rest point (install_turn step.member lacks (Some other))
    turns_alike point place step (Some need) one other stands = ap (λ (ms : List Member). abort_of (slice_get ms step.member) (slice_get ms need)) (sym left.members)
    turns_alike point place step None one other stands =
        ap (λ (ms : List Member). install_of point (slice_get ms step.member) (whole.built (install_place whole.plan.installs step.member))) (sym left.members)
        ∙ ap (install_of point (slice_get rest.members step.member)) (sym (left.told place step stands))

    -- of two turns of one install that lack the same
    by_turns : (point : Point) (place : ℕ) (step : Step) (turn its : Turn) (lacks other : Option ℕ) (one two : Fate) → slice_get rest.plan.installs place ≡ Some step → turn ≡ install_turn step.member lacks (Some one)
        → lacks ≡ other → its ≡ install_turn step.member other (Some two) → decided_on whole point turn ≡ decided_on rest point its
    by_turns point place step turn its lacks other one two stands is same are =
        ap (decided_on whole point) is ∙ ap (λ o. decided_on whole point (install_turn step.member o (Some one))) same ∙ turns_alike point place step other one two stands ∙ sym (ap (decided_on rest point) are)

    module _ (k : ℕ) (within : t + suc k ≤ length whole.plan.removals + length whole.plan.installs) (so_far : first_decided whole start (t + k) ≡ first_decided whole start t ++ first_decided rest middle k) where
      abbrev before : List Decided
      before = first_decided rest middle k

      abbrev point : Point
      point = point_then middle before

      bools_same : which_done (first_decided whole start (t + k)) ≡ which_done (first_decided whole start t) ++ which_done before
      bools_same = ap which_done so_far ∙ map-append (λ (one : Decided). is_some one.does) (first_decided whole start t) before

      point_same : point_then start (first_decided whole start (t + k)) ≡ point
      point_same = ap (point_then start) so_far ∙ point_parts start (first_decided whole start t) before

      long : length (which_done (first_decided whole start (t + k))) ≡ t + k
      long = counted whole start (t + k)

      rest_long : length (which_done before) ≡ k
      rest_long = counted rest middle k

      removal_alike : t + k < length whole.plan.removals → decided_on whole point (turn_after whole (first_decided whole start (t + k))) ≡ decided_on rest point (turn_after rest before)
      removal_alike less =
          let at = get_in whole.plan.removals (t + k) less in
          let other = get_in rest.plan.removals k (let e = left.removals in omega (arith, e, less)) in
          ap (decided_on whole point) (removal_turn whole (first_decided whole start (t + k)) (t + k) at.0 long at.1)
          ∙ ap (removal_of point) (sym (left.leave k at.0 other.0 at.1 other.1))
          ∙ sym (ap (decided_on rest point) (removal_turn rest before k other.0 rest_long other.1))

      install_alike : length whole.plan.removals ≤ t + k → decided_on whole point (turn_after whole (first_decided whole start (t + k))) ≡ decided_on rest point (turn_after rest before)
      install_alike past =
          let i : ℕ = t + k - length whole.plan.removals in
          let j : ℕ = k - length rest.plan.removals in
          let step = get_in whole.plan.installs i (omega (arith, past, within)) in
          let shift : i ≡ length left.gone + j = (let e = left.removals in let f = left.passed in omega (arith, e, f, past)) in
          let stands : slice_get rest.plan.installs j ≡ Some step.0 = sym (get_behind left.gone rest.plan.installs i j shift) ∙ ap (λ ss. slice_get ss i) (sym left.installs) ∙ step.1 in
          let turn = install_turn_at whole (first_decided whole start (t + k)) (t + k) i step.0 long (omega (arith, past)) step.1 in
          let other = install_turn_at rest before k j step.0 rest_long (let e = left.removals in omega (arith, e, past)) stands in
          by_turns point j step.0 (turn_after whole (first_decided whole start (t + k))) (turn_after rest before) (lacking whole.plan (which_done (first_decided whole start (t + k))) step.0.needs) (lacking rest.plan (which_done before) step.0.needs) turn.0 other.0 stands turn.1
          (ap (λ bs. lacking whole.plan bs step.0.needs) bools_same ∙ lacks_same (which_done before) (let e = rest_long in omega (arith, e, within)) step.0.needs) other.1

      less_or : (n m : ℕ) → (n < m) ⊎ (m ≤ n)
      less_or n m = by (nat_lt n m) refl
        where
          by : (b : Bool) → nat_lt n m ≡ b → (n < m) ⊎ (m ≤ n)
          by true is = inl (grind (arith, nat_tests))
          by false is = inr (grind (arith, nat_tests))

      alike : decided_on whole (point_then start (first_decided whole start (t + k))) (turn_after whole (first_decided whole start (t + k))) ≡ decided_on rest point (turn_after rest before)
      alike = ap (λ (p : Point). decided_on whole p (turn_after whole (first_decided whole start (t + k)))) point_same ∙ by (less_or (t + k) (length whole.plan.removals))
        where
          by : (t + k < length whole.plan.removals) ⊎ (length whole.plan.removals ≤ t + k) → decided_on whole point (turn_after whole (first_decided whole start (t + k))) ≡ decided_on rest point (turn_after rest before)
          by (inl less) = removal_alike less
          by (inr past) = install_alike past

      goes_next : first_decided whole start (suc (t + k)) ≡ first_decided whole start t ++ first_decided rest middle (suc k)
      goes_next =
          (λ i. so_far i ++ alike i ∷ []) ∙ append_assoc (first_decided whole start t) before (decided_on rest point (turn_after rest before) ∷ [])

    pub goes_alike : (k : ℕ) → t + k ≤ length whole.plan.removals + length whole.plan.installs → first_decided whole start (t + k) ≡ first_decided whole start t ++ first_decided rest middle k
    goes_alike zero within = (let e : t + 0 ≡ t = omega arith in ap (first_decided whole start) e ∙ sym (append-nil (first_decided whole start t)))
    goes_alike (suc k) within =
        (let e : t + suc k ≡ suc (t + k) = omega arith in
        ap (first_decided whole start) e ∙ goes_next k within (goes_alike k (omega (arith, within))))

    actions_alike : actions_decided whole start ≡ first_decided whole start t ++ actions_decided rest middle
    actions_alike =
        let k : ℕ = length rest.plan.removals + length rest.plan.installs in
        let sum : t + k ≡ length whole.plan.removals + length whole.plan.installs =
        (let a = left.removals in let b = left.passed in let c = ap length left.installs in let d = length-append left.gone rest.plan.installs in let e = left.within in omega (arith, a, b, c, d, e)) in
        ap (first_decided whole start) (sym sum) ∙ goes_alike k (omega (arith, sum))

    -- and so with all that is decided
    pub all_alike : all_decided whole start ≡ first_decided whole start t ++ all_decided rest middle
    all_alike =
        let before : List Decided = first_decided whole start t in
        let after : List Decided = actions_decided rest middle in
        let same : point_then start (actions_decided whole start) ≡ point_then middle after = ap (point_then start) actions_alike ∙ point_parts start before after in
        ap (λ (p : Point). with_backs start (actions_decided whole start) (backs_left p)) same
        ∙ ap (λ ds. with_backs start ds (backs_left (point_then middle after))) actions_alike
        ∙ backs_parts start before after (backs_left (point_then middle after))
