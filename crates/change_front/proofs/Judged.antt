-- The length of the texts, and what follows from a judgement.
use Rattle.std.proofs.Common.{◌≡◌, ◌∙◌, ℕ, ◌+◌, ◌<◌, ◌≤◌, List, [], length, drop, Bool, true, false, nat_lt, Result, Ok, Err, IfOk, refl, sym, ap, subst, arith}
use Rattle.std.specs.Prelude.{◌↔◌, IsTrue}
use Rattle.std.proofs.lemmas.Bool.Decides.{nat_tests}
use Rattle.opam_names.specs.ByteOrders.{RisesBy}
use Rattle.opam_names.specs.declared.fault.OutOfMemory.{OutOfMemory}
use Rattle.opam_filter.specs.Variables.{Values}
use Rattle.opam_package.specs.declared.package.Member.{Member}
use Rattle.opam_package.specs.declared.package.Target.{Target}
use Rattle.lock_check.specs.Removals.{AreAmong}
use Rattle.lock_check.specs.Targets.{member_name}
use Rattle.lock_check.specs.declared.violation.Violation.{Violation}
use Rattle.action_graph.specs.Plans.{AreInstalls, AreRemovals, IsCycleOf, IsPlan}
use Rattle.action_graph.specs.declared.plan.Plan.{Plan}
use Rattle.action_graph.specs.declared.plan.PlanFault.{PlanFault}
use Rattle.action_graph.specs.declared.plan.PlanFault.TheVariants as plan_fault
use Rattle.change_front.specs.Fronts.{AreInstalledOrRead}
use Rattle.change_front.specs.Judging.{IsJudged, texts_length, circular, planned, too_long, violated}
use Rattle.change_front.specs.Turns.{IsOwnFront, IsPartFront}
use Rattle.change_front.specs.declared.front.Front.{Front}
use Rattle.change_front.specs.declared.front.Front.TheVariants.{Plans, Refuses}
use Rattle.change_front.specs.declared.front.Planned.{Planned}
use Rattle.change_front.specs.declared.limits.TheConstants.{NAMES_LIMIT, TEXTS_LIMIT}
use Rattle.change_front.specs.declared.refusal.Refusal.TheVariants.{Cycle, TextsTooLong, Violations}

-- so much is left for the members from here on
abbrev pub IsLeft : List Member → ℕ → ℕ → Type 0
IsLeft members at left = texts_length members + left ≡ TEXTS_LIMIT + texts_length (drop at members)

-- what a plan of a judgement is
pub record IsSound (installed : List Member) (target : Target) (planned : Planned) : Type 0 where
  pub same : planned.target ≡ target
  pub short : texts_length target.members ≤ TEXTS_LIMIT
  pub plan : IsPlan installed target planned.plan

pub plan_of_judged : (installed : List Member) (target : Target) (violations : List Violation) (made : Planned) → IsJudged installed target violations (Plans made) → IsSound installed target made
plan_of_judged installed target violations made (planned short none is) = record { same = refl; short = short; plan = is }

long_test : (b : Bool) (len : ℕ) → b ≡ nat_lt TEXTS_LIMIT len → b ≡ true → TEXTS_LIMIT < len
long_test b len is on = let e : nat_lt TEXTS_LIMIT len ≡ true = sym is ∙ on in grind (arith, nat_tests)

short_test : (b : Bool) (len : ℕ) → b ≡ nat_lt TEXTS_LIMIT len → b ≡ false → len ≤ TEXTS_LIMIT
short_test b len is off = let e : nat_lt TEXTS_LIMIT len ≡ false = sym is ∙ off in grind (arith, nat_tests)

module _ (installed : List Member) (target : Target) (violations : List Violation) (members : List Member) (b : Bool) (same : members ≡ target.members) (is : b ≡ nat_lt TEXTS_LIMIT (texts_length members)) where
  tested : b ≡ nat_lt TEXTS_LIMIT (texts_length target.members)
  tested = is ∙ ap (λ (ms : List Member). nat_lt TEXTS_LIMIT (texts_length ms)) same

  pub long_judged : b ≡ true → IsJudged installed target violations (Refuses TextsTooLong)
  long_judged on = too_long (long_test b (texts_length target.members) tested on)

  module _ (off : b ≡ false) where
    pub not_long : texts_length target.members ≤ TEXTS_LIMIT
    not_long = short_test b (texts_length target.members) tested off

    pub judged_violated : (none : Bool) → (IsTrue none ↔ (violations ≡ [])) → none ≡ false → IsJudged installed target violations (Refuses (Violations violations))
    judged_violated none iff told = violated not_long (λ empty. some none iff told empty)
      where
        some : (n : Bool) → (IsTrue n ↔ (violations ≡ [])) → n ≡ false → violations ≡ [] → ⊥
        some true iff told empty = let e : true ≡ false = told in cc
        some false iff told empty = let e : IsTrue false = iff.1 empty in cc

    is_none : (none : Bool) → (IsTrue none ↔ (violations ≡ [])) → none ≡ true → violations ≡ []
    is_none true iff on = iff.0 refl
    is_none false iff on = absurd (let e : false ≡ true = on in cc)

    pub judged_circular : (none : Bool) (names : List (List ℕ)) (fault : PlanFault) → (IsTrue none ↔ (violations ≡ [])) → none ≡ true → fault ≡ plan_fault.Cycle names
        → IsCycleOf installed target fault → IsJudged installed target violations (Refuses (Cycle names))
    judged_circular none names fault iff on same_fault cycle = let P : PlanFault → Type 0 = λ f. IsCycleOf installed target f in circular not_long (is_none none iff on) (subst P same_fault cycle)

    pub judged_planned : (none : Bool) (plan : Plan) → (IsTrue none ↔ (violations ≡ [])) → none ≡ true → AreRemovals installed target plan.removals → AreInstalls installed target plan.installs
        → plan.missing ≡ [] → IsJudged installed target violations (Plans (record { target = target; plan = plan }))
    judged_planned none plan iff on removals installs missing = planned not_long (is_none none iff on) (record { removals = removals; installs = installs; missing = missing })

-- a judgement of the same
pub judged_same : (installed : List Member) (target same_target : Target) (violations same_violations : List Violation) (result : Result Front OutOfMemory) → target ≡ same_target → violations ≡ same_violations
    → IfOk result (IsJudged installed target violations) → IfOk result (IsJudged installed same_target same_violations)
judged_same installed target same_target violations same_violations result one two is =
    let P : Target → Type 0 = λ t. IfOk result (IsJudged installed t violations) in
    let Q : List Violation → Type 0 = λ vs. IfOk result (IsJudged installed same_target vs) in
    subst Q two (subst P one is)

-- over any host
pub own_of : (installed : List Member) (globals : Values) (target : Target) (violations : List Violation) (result : Result Front OutOfMemory) → RisesBy member_name target.members
    → AreInstalledOrRead installed globals target.members → length target.members ≤ NAMES_LIMIT → IfOk result (IsJudged installed target violations) → IfOk result (IsOwnFront installed globals)
own_of installed globals target violations (Err fault) rises read few is = tt
own_of installed globals target violations (Ok (Refuses refusal)) rises read few is = tt
own_of installed globals target violations (Ok (Plans made)) rises read few is =
    let sound = plan_of_judged installed target violations made is in
    record {
      plan = let P : Target → Type 0 = λ t. IsPlan installed t made.plan in subst P (sym sound.same) sound.plan;
      rises = let P : Target → Type 0 = λ t. RisesBy member_name t.members in subst P (sym sound.same) rises;
      read = let P : Target → Type 0 = λ t. AreInstalledOrRead installed globals t.members in subst P (sym sound.same) read;
      few = let P : Target → Type 0 = λ t. length t.members ≤ NAMES_LIMIT in subst P (sym sound.same) few;
      short = let P : Target → Type 0 = λ t. texts_length t.members ≤ TEXTS_LIMIT in subst P (sym sound.same) sound.short;
    }

-- where all members are installed
pub part_of : (installed : List Member) (target : Target) (violations : List Violation) (result : Result Front OutOfMemory) → RisesBy member_name target.members → AreAmong target.members installed
    → length target.members ≤ length installed → IfOk result (IsJudged installed target violations) → IfOk result (IsPartFront installed)
part_of installed target violations (Err fault) rises among few is = tt
part_of installed target violations (Ok (Refuses refusal)) rises among few is = tt
part_of installed target violations (Ok (Plans made)) rises among few is =
    let sound = plan_of_judged installed target violations made is in
    record {
      plan = let P : Target → Type 0 = λ t. IsPlan installed t made.plan in subst P (sym sound.same) sound.plan;
      rises = let P : Target → Type 0 = λ t. RisesBy member_name t.members in subst P (sym sound.same) rises;
      among = let P : Target → Type 0 = λ t. AreAmong t.members installed in subst P (sym sound.same) among;
      few = let P : Target → Type 0 = λ t. length t.members ≤ length installed in subst P (sym sound.same) few;
      short = let P : Target → Type 0 = λ t. texts_length t.members ≤ TEXTS_LIMIT in subst P (sym sound.same) sound.short;
    }
