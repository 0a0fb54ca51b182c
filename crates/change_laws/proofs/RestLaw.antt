-- The law of changes that were stopped.
use Rattle.std.proofs.Common.{◌≡◌, ◌∙◌, ℕ, ◌+◌, ◌-◌, ◌<◌, ◌≤◌, List, [], ◌∷◌, ◌++◌, drop, length, take, true, Option, refl, sym, ap, subst, arith, append_assoc, inl, inr}
use Rattle.std.specs.Prelude.{◌⊎◌, IfSome, bytes_eq, if◌then◌else◌}
use Rattle.std.specs.List.{IsDistinct, list_any}
use Rattle.std.proofs.lemmas.List.{append-nil, drop_all, drop_at, length-take-le, take-append-le, take_all}
use Rattle.journal_text.specs.Parts.{names_of}
use Rattle.switch_journal.specs.Applying.{puts_back}
use Rattle.switch_state.specs.FormedLaws.{ActionsKeepForm}
use Rattle.switch_state.specs.Sound.{member_pkgs, removals_left}
use Rattle.switch_state.specs.State.{Request}
use Rattle.switch_state.specs.Underway.{ActionsRemoveFirst, IsUnderway, removed_of}
use Rattle.change_outcome.specs.Changes.{Change, Point, Removal, point_after_all, things_done}
use Rattle.change_outcome.specs.Outcomes.{actions_decided, all_decided, cut, first_decided, outcome_of}
use Rattle.change_outcome.specs.PutBacks.{backs_left, with_backs}
use Rattle.change_outcome.specs.Running.{leaving}
use Rattle.change_outcome.specs.Steps.{Decided, done_in, point_then}
use Rattle.change_outcome.proofs.Following.{as_many_leave}
use Rattle.change_outcome.proofs.Returning.{gone_pkgs, ran}
use Rattle.change_outcome.proofs.Telling.{decided_come}
use Rattle.change_laws.specs.Fits.{CanBeCarriedOut}
use Rattle.change_laws.specs.RestLaws.{AreToldAlike, GoesOnAsWhole, RestsGoOn}
use Rattle.change_laws.specs.Rests.{IsRest, behind_last, is_come}
use Rattle.change_laws.proofs.Continues.{IsLeft, all_alike, done_parts, point_parts}
use Rattle.change_laws.proofs.Filling.{is_back}
use Rattle.change_laws.proofs.Needs.{some_same}
use Rattle.change_laws.proofs.Resuming.{as_many, left_early, left_late}
use Rattle.change_laws.proofs.Returned.{AreOfThemselves, IsOpenAt, itself_after, itself_first, left_then, so, was_back}
use Rattle.change_laws.proofs.Standing.{Known, came_at, known_late, left_at}
use Rattle.change_laws.proofs.Stopping.{IsRight, back_at, backs_more, less_or, stop_at}

none_of : {X : Type 0} (xs : List X) → length xs ≡ 0 → xs ≡ []
none_of [] is = refl
none_of (x ∷ xs) is = absurd (omega (arith, is))

module _ (whole rest : Change) (start : Point) (out : CanBeCarriedOut whole start) (forms : ActionsKeepForm) (firsts : ActionsRemoveFirst) (is_whole : IsRest start.state whole) (told : AreToldAlike whole rest) where
  abbrev last : ℕ
  last = length whole.plan.removals + length whole.plan.installs

  -- where what is decided goes on from a place as the rest does
  joined : (count : ℕ) (before : List Decided) → done_in before ≡ take count (outcome_of whole start).committed → length (done_in before) ≡ count → all_decided whole start ≡ before ++ all_decided rest (point_then start before) → GoesOnAsWhole whole rest start count
  joined count before done many all =
      let there : cut whole start count ≡ point_then start before = ap (point_after_all start) (sym done) in
      record {
        committed =
            ap (λ (p : Point). done_in (all_decided rest p)) there
            ∙ sym (ap (λ ds. drop count (done_in ds)) all ∙ ap (drop count) (done_parts before (all_decided rest (point_then start before))) ∙ drop_at (done_in before) (done_in (all_decided rest (point_then start before))) count many);
        last =
            ap (λ (p : Point). point_then p (all_decided rest p)) there ∙ sym (ap (point_then start) all ∙ point_parts start before (all_decided rest (point_then start before)));
      }

  -- the put backs come after the actions
  all_parts : all_decided whole start ≡ actions_decided whole start ++ with_backs (point_then start (actions_decided whole start)) [] (backs_left (point_then start (actions_decided whole start)))
  all_parts = backs_more start (actions_decided whole start) [] (backs_left (point_then start (actions_decided whole start)))

  committed_parts : (outcome_of whole start).committed ≡ done_in (actions_decided whole start) ++ done_in (with_backs (point_then start (actions_decided whole start)) [] (backs_left (point_then start (actions_decided whole start))))
  committed_parts = ap done_in all_parts ∙ done_parts (actions_decided whole start) (with_backs (point_then start (actions_decided whole start)) [] (backs_left (point_then start (actions_decided whole start))))

  -- ---- among the removals and installs

  among_actions : (count : ℕ) → count ≤ length (done_in (actions_decided whole start)) → IsRest (cut whole start count).state rest → GoesOnAsWhole whole rest start count
  among_actions count within is_rest =
      let at = stop_at whole start last count within in
      let before : List Decided = first_decided whole start at.t in
      let done : done_in before ≡ take count (outcome_of whole start).committed =
      at.done
      ∙ sym (ap (take count) committed_parts ∙ take-append-le count (done_in (actions_decided whole start)) (done_in (with_backs (point_then start (actions_decided whole start)) [] (backs_left (point_then start (actions_decided whole start))))) within) in
      let many : length (done_in before) ≡ count = ap length at.done ∙ length-take-le count (done_in (actions_decided whole start)) within in
      let here = subst (λ (p : Point). IsRest p.state rest) (ap (point_after_all start) (sym done)) is_rest in
      joined count before done many (all_alike whole rest start at.t (left at.t at.within at.right here))
    where
      left : (t : ℕ) → t ≤ length whole.plan.removals + length whole.plan.installs → IsRight whole start t → IsRest (point_then start (first_decided whole start t)).state rest → IsLeft whole rest start t
      left t within right here = by (less_or (length whole.plan.removals) t)
        where
          by : (length whole.plan.removals < t) ⊎ (t ≤ length whole.plan.removals) → IsLeft whole rest start t
          by (inl past) =
              let i : ℕ = t - length whole.plan.removals - 1 in
              left_late whole rest start out forms firsts is_whole told t within here i (omega (arith, past)) right
          by (inr early) = left_early whole rest start out forms firsts is_whole told t within here early

  -- ---- among the put backs

  abbrev turned : Point
  turned = point_then start (actions_decided whole start)

  known : Known whole start out forms firsts (point_then start (actions_decided whole start)) (length whole.plan.removals) (member_pkgs (came_at whole start out forms firsts (length whole.plan.removals + length whole.plan.installs)))
  known = known_late whole start out forms firsts (length whole.plan.installs) (length whole.plan.removals + length whole.plan.installs) (omega arith) refl

  none_left : removals_left known.now ≡ []
  none_left =
      left_at whole start out forms firsts (point_then start (actions_decided whole start)) (length whole.plan.removals) (member_pkgs (came_at whole start out forms firsts (length whole.plan.removals + length whole.plan.installs))) known
      ∙ drop_all (length whole.plan.removals) (leaving whole) (let e = as_many_leave whole start out.restores.runs in omega (arith, e))

  names_apart : IsDistinct bytes_eq (names_of (gone_pkgs (point_then start (actions_decided whole start)).removals))
  names_apart =
      let runs = decided_come forms whole start (length whole.plan.removals + length whole.plan.installs) out.restores.runs out.restores.formed out.recorded (omega arith) in
      let so_far = ran whole start out.restores firsts (actions_decided whole start) runs in
      let now : so_far.noted.now ≡ known.now = some_same so_far.noted.now known.now (point_then start (actions_decided whole start)).state.request so_far.noted.is_open known.is_open in
      let under : IsUnderway (point_then start (actions_decided whole start)).state known.now =
      subst (λ (o : Option Request). IfSome o (IsUnderway (point_then start (actions_decided whole start)).state)) known.is_open known.first in
      let all : gone_pkgs (point_then start (actions_decided whole start)).removals ≡ out.restores.runs.request.removals =
      so_far.noted.removed ∙ ap (λ (r : Request). removed_of r.done) now ∙ sym (append-nil (removed_of known.now.done)) ∙ ap (λ ps. removed_of known.now.done ++ ps) (sym none_left) ∙ under.removed ∙ known.removals in
      subst (λ ps. IsDistinct bytes_eq (names_of ps)) (sym all) out.restores.runs.differ

  themselves : AreOfThemselves (point_then start (actions_decided whole start))
  themselves = itself_after start (done_in (actions_decided whole start)) (itself_first (things_done start.state.request) start.removals out.kept)

  none_here : IfSome (point_then start (actions_decided whole start)).state.request (λ now. removals_left now ≡ [])
  none_here = subst (λ (o : Option Request). IfSome o (λ now. removals_left now ≡ [])) (sym known.is_open) none_left

  opened : IsOpenAt (point_then start (actions_decided whole start))
  opened = (known.now, known.is_open)

  -- a rest with a package put back and no removal left does nothing but the put backs
  only_backs : (point : Point) (removal : Removal) (left : List Removal) → IsRest point.state rest → IfSome point.state.request (λ now. removals_left now ≡ []) → list_any (puts_back removal.pkg) (things_done point.state.request) ≡ true → backs_left point ≡ left
      → all_decided rest point ≡ with_backs point [] left
  only_backs point removal left is none back same =
      let none_now : removals_left is.request ≡ [] = subst (λ (o : Option Request). IfSome o (λ now. removals_left now ≡ [])) is.is_open none in
      let no_removals : length rest.plan.removals ≡ 0 = (let a = as_many rest is.within in let b = ap length (is.removals ∙ none_now) in omega (arith, a, b)) in
      let put_back = is_back removal.pkg is.request.done (sym (ap (λ (o : Option Request). list_any (puts_back removal.pkg) (things_done o)) is.is_open) ∙ back) in
      let no_installs : length rest.plan.installs ≡ 0 = ap length (is.installs ∙ ap (λ b. if b then [] else behind_last (is_come is.request) is.steps) put_back) in
      let nothing : actions_decided rest point ≡ [] = (let e : length rest.plan.removals + length rest.plan.installs ≡ 0 = omega (arith, no_removals, no_installs) in ap (first_decided rest point) e) in
      ap (λ ds. with_backs point ds (backs_left (point_then point ds))) nothing ∙ ap (with_backs point []) same

  among_backs : (count : ℕ) → length (done_in (actions_decided whole start)) < count → count ≤ length (outcome_of whole start).committed → IsRest (cut whole start count).state rest → GoesOnAsWhole whole rest start count
  among_backs count past within is_rest =
      let actions : List Decided = actions_decided whole start in
      let at = back_at start actions [] (backs_left (point_then start actions)) count past within in
      let before : List Decided = with_backs start actions (at.front ++ at.removal ∷ []) in
      let many : length (done_in before) ≡ count = ap length at.done ∙ length-take-le count (outcome_of whole start).committed within in
      let here = subst (λ (p : Point). IsRest p.state rest) (ap (point_after_all start) (sym at.done)) is_rest in
      let after = so start actions names_apart themselves none_here opened at.front at.left at.removal at.split in
      let back = was_back start actions names_apart themselves none_here opened at.front at.left at.removal at.split at.does in
      let same = left_then start actions names_apart themselves none_here opened at.front at.left at.removal at.split at.does in
      let all : all_decided whole start ≡ before ++ with_backs (point_then start before) [] at.left =
      ap (with_backs start actions) (at.split ∙ sym (append_assoc at.front (at.removal ∷ []) at.left)) ∙ backs_more start actions (at.front ++ at.removal ∷ []) at.left in
      joined count before at.done many (all ∙ ap (λ ds. before ++ ds) (sym (only_backs (point_then start before) at.removal at.left here after.none_left back same)))

  -- ---- anywhere

  below : (count : ℕ) → count ≤ length (outcome_of whole start).committed → IsRest (cut whole start count).state rest → GoesOnAsWhole whole rest start count
  below count within is_rest = by (less_or (length (done_in (actions_decided whole start))) count)
    where
      by : (length (done_in (actions_decided whole start)) < count) ⊎ (count ≤ length (done_in (actions_decided whole start))) → GoesOnAsWhole whole rest start count
      by (inl past) = among_backs count past within is_rest
      by (inr few) = among_actions count few is_rest

  goes_on : (count : ℕ) → IsRest (cut whole start count).state rest → GoesOnAsWhole whole rest start count
  goes_on count is_rest = by (less_or (length (outcome_of whole start).committed) count)
    where
      by : (length (outcome_of whole start).committed < count) ⊎ (count ≤ length (outcome_of whole start).committed) → GoesOnAsWhole whole rest start count
      by (inr within) = below count within is_rest
      by (inl past) =
          let full : ℕ = length (outcome_of whole start).committed in
          let same : take count (outcome_of whole start).committed ≡ take full (outcome_of whole start).committed =
          take_all count (outcome_of whole start).committed (omega (arith, past)) ∙ sym (take_all full (outcome_of whole start).committed (omega arith)) in
          let there : cut whole start count ≡ cut whole start full = ap (point_after_all start) same in
          let it = below full (omega arith) (subst (λ (p : Point). IsRest p.state rest) there is_rest) in
          record {
            committed =
                ap (λ (p : Point). (outcome_of rest p).committed) there ∙ it.committed
                ∙ drop_all full (outcome_of whole start).committed (omega arith) ∙ sym (drop_all count (outcome_of whole start).committed (omega (arith, past)));
            last = ap (λ (p : Point). (outcome_of rest p).last) there ∙ it.last;
          }

pub rests_go_on : ActionsKeepForm → ActionsRemoveFirst → RestsGoOn
rests_go_on forms firsts whole rest start count out is_whole is_rest told = goes_on whole rest start out forms firsts is_whole told count is_rest
