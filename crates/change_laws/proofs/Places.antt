-- The removals and the installs of a change by their places; each removal is done.
use Rattle.std.proofs.Common.{◌≡◌, ◌∙◌, ℕ, zero, suc, ◌<◌, ◌≤◌, List, [], ◌∷◌, ◌++◌, drop, length, take, Option, Some, sym, ap, subst, arith}
use Rattle.std.specs.Prelude.{nat_lt, slice_get}
use Rattle.std.specs.Option.{option_map}
use Rattle.std.proofs.lemmas.List.{take-append-drop}
use Rattle.opam_names.specs.declared.packages.Pkg.{Pkg}
use Rattle.opam_package.specs.declared.package.Member.{Member}
use Rattle.action_graph.specs.PlanLaws.{IsStepAt}
use Rattle.action_graph.specs.declared.plan.Step.{Step}
use Rattle.journal_text.specs.declared.record.KeptFiles.{KeptFiles}
use Rattle.switch_state.specs.Actions.{Removes}
use Rattle.switch_state.specs.Keeps.{kept_of}
use Rattle.switch_state.specs.Sound.{member_pkg}
use Rattle.change_outcome.specs.Changes.{Change, Point, point_after}
use Rattle.change_outcome.specs.Decisions as decision
use Rattle.change_outcome.specs.Outcomes.{first_decided, turn_after}
use Rattle.change_outcome.specs.Running.{CanRun, coming, leaving}
use Rattle.change_outcome.specs.Steps.{Decided, decided_on, point_then, removal_of, told_and_done}
use Rattle.change_outcome.proofs.Clearing.{Cleared, cleared_first, cleared_next}
use Rattle.change_outcome.proofs.Following.{all_entries, all_members, counted, removal_turn, some_entry, some_member, step_point, then_next}
use Rattle.change_outcome.proofs.Lists.{all_at, get_given, get_in}

module _ {X : Type 0} where
  pub drop_at : (xs : List X) (n : ℕ) (x : X) → slice_get xs n ≡ Some x → drop n xs ≡ x ∷ drop (suc n) xs
  drop_at [] n x is = absurd cc
  drop_at (y ∷ xs) zero x is = (let e : y ≡ x = cc in ap (λ z. z ∷ xs) e)
  drop_at (y ∷ xs) (suc n) x is = drop_at xs n x is

  pub take_at : (xs : List X) (n : ℕ) (x : X) → slice_get xs n ≡ Some x → take (suc n) xs ≡ take n xs ++ x ∷ []
  take_at [] n x is = absurd cc
  take_at (y ∷ xs) zero x is = (let e : y ≡ x = cc in ap (λ z. z ∷ []) e)
  take_at (y ∷ xs) (suc n) x is = ap (λ zs. y ∷ zs) (take_at xs n x is)

  pub within_at : (xs : List X) (n : ℕ) (x : X) → slice_get xs n ≡ Some x → n < length xs
  within_at [] n x is = absurd cc
  within_at (y ∷ xs) zero x is = omega arith
  within_at (y ∷ xs) (suc n) x is = (let e = within_at xs n x is in omega (arith, e))

module _ (change : Change) (start : Point) (can : CanRun change start) where
  -- the removal at a place
  pub record Leaves (n : ℕ) : Type 0 where
    pub at : ℕ
    pub entry : Member
    pub place : slice_get change.plan.removals n ≡ Some at
    pub there : slice_get change.entries at ≡ Some entry
    pub named : slice_get (leaving change) n ≡ Some (member_pkg entry)

  pub leaves : (n : ℕ) → n < length change.plan.removals → Leaves n
  leaves n within =
      let place = get_in change.plan.removals n within in
      let entry = some_entry change start can place.0 (all_at (λ at. nat_lt at (length change.entries)) change.plan.removals n place.0 can.removals place.1) in
      record {
        at = place.0;
        entry = entry.0;
        place = place.1;
        there = entry.1;
        named = get_given (λ at. option_map member_pkg (slice_get change.entries at)) change.plan.removals n place.0 (member_pkg entry.0) (all_entries change start can) place.1 (ap (option_map member_pkg) entry.1);
      }

  -- the install at a place, with its member
  pub record Comes (i : ℕ) : Type 0 where
    pub step : Step
    pub member : Member
    pub stands : IsStepAt change.plan i step
    pub there : slice_get change.members step.member ≡ Some member
    pub named : slice_get (coming change) i ≡ Some member

  -- the member of a step that stands at a place
  pub record IsMade (i : ℕ) (step : Step) : Type 0 where
    pub member : Member
    pub there : slice_get change.members step.member ≡ Some member
    pub named : slice_get (coming change) i ≡ Some member

  pub comes_by : (i : ℕ) (step : Step) → IsStepAt change.plan i step → IsMade i step
  comes_by i step stands =
      let found = some_member change start can step (all_at (λ (s : Step). nat_lt s.member (length change.members)) change.plan.installs i step can.installs stands) in
      record {
        member = found.0;
        there = found.1;
        named = get_given (λ (s : Step). slice_get change.members s.member) change.plan.installs i step found.0 (all_members change start can) stands found.1;
      }

  pub comes : (i : ℕ) → i < length change.plan.installs → Comes i
  comes i within =
      let step = get_in change.plan.installs i within in
      let it = comes_by i step.0 step.1 in
      record { step = step.0; member = it.member; stands = step.1; there = it.there; named = it.named }

  -- what it keeps
  abbrev pub keeps : Point → Member → Option KeptFiles
  keeps point entry = kept_of point.state (member_pkg entry) point.files

  abbrev pub at_first : ℕ → Point
  at_first n = point_then start (first_decided change start n)

  pub removal_decided : (n : ℕ) (it : Leaves n)
      → decided_on change (at_first n) (turn_after change (first_decided change start n)) ≡ told_and_done (decision.Removed (member_pkg it.entry)) (Removes (member_pkg it.entry) (keeps (at_first n) it.entry))
  removal_decided n it =
      ap (decided_on change (at_first n)) (removal_turn change (first_decided change start n) n it.at (counted change start n) it.place) ∙ ap (removal_of (at_first n)) it.there

  pub removal_next : (n : ℕ) (it : Leaves n) → at_first (suc n) ≡ point_after (at_first n) (Removes (member_pkg it.entry) (keeps (at_first n) it.entry))
  removal_next n it =
      let next : Decided = decided_on change (at_first n) (turn_after change (first_decided change start n)) in
      then_next start (first_decided change start n) next ∙ ap (λ (d : Decided). step_point (at_first n) d.does) (removal_decided n it)

  pub cleared : (n : ℕ) → n ≤ length change.plan.removals → Cleared change can.request (take n (leaving change)) (drop n (leaving change)) (at_first n)
  cleared zero within = cleared_first change start can
  cleared (suc n) within =
      let it = leaves n (omega (arith, within)) in
      let pkg : Pkg = member_pkg it.entry in
      let next = drop_at (leaving change) n pkg it.named in
      let split = sym (take-append-drop n (leaving change)) ∙ ap (λ ps. take n (leaving change) ++ ps) next in
      let now = subst (λ ps. Cleared change can.request (take n (leaving change)) ps (at_first n)) next (cleared n (omega (arith, within))) in
      let after = cleared_next change start can (take n (leaving change)) (drop (suc n) (leaving change)) pkg split (at_first n) now (keeps (at_first n) it.entry) in
      subst (λ (p : Point). Cleared change can.request (take (suc n) (leaving change)) (drop (suc n) (leaving change)) p) (sym (removal_next n it))
      (subst (λ ps. Cleared change can.request ps (drop (suc n) (leaving change)) (point_after (at_first n) (Removes pkg (keeps (at_first n) it.entry)))) (sym (take_at (leaving change) n pkg it.named)) after)
