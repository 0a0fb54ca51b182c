-- What a target comes to, with what stands against it. Which refusal comes first is this project's own.
use Rattle.std.specs.Prelude.{◌≡◌, ◌≢◌, ◌<◌, ◌≤◌, ◌⊎◌, ℕ, List, [], length, map, sum, Contains}
use Rattle.opam_filter.specs.Variables.{Values}
use Rattle.opam_package.specs.PackageTexts.{IsPackageText}
use Rattle.opam_package.specs.declared.package.Member.{Member}
use Rattle.opam_package.specs.declared.package.Target.{Target}
use Rattle.lock_check.specs.declared.violation.Violation.{Violation}
use Rattle.action_graph.specs.Plans.{IsCycleOf, IsPlan}
use Rattle.action_graph.specs.declared.plan.Plan.{Plan}
use Rattle.action_graph.specs.declared.plan.PlanFault.TheVariants as plan_fault
use Rattle.change_front.specs.declared.front.Front.{Front}
use Rattle.change_front.specs.declared.front.Front.TheVariants.{Plans, Refuses}
use Rattle.change_front.specs.declared.front.Planned.{Planned}
use Rattle.change_front.specs.declared.limits.TheConstants.{TEXTS_LIMIT}
use Rattle.change_front.specs.declared.refusal.Refusal.TheVariants.{TextsTooLong, Violations, Cycle}

-- the bytes of the opam texts of members together
abbrev pub texts_length : List Member → ℕ
texts_length members = sum (map (λ (member : Member). length member.opam) members)

-- the first that fits: the texts are too long, something stands against the target, its plan is a circle, or this is its plan
pub data IsJudged (installed : List Member) (target : Target) (violations : List Violation) : Front → Type 0 where
  too_long : TEXTS_LIMIT < texts_length target.members → IsJudged installed target violations (Refuses TextsTooLong)
  violated : texts_length target.members ≤ TEXTS_LIMIT → violations ≢ [] → IsJudged installed target violations (Refuses (Violations violations))
  circular : {names : List (List ℕ)} → texts_length target.members ≤ TEXTS_LIMIT → violations ≡ [] → IsCycleOf installed target (plan_fault.Cycle names)
      → IsJudged installed target violations (Refuses (Cycle names))
  planned : {plan : Plan} → texts_length target.members ≤ TEXTS_LIMIT → violations ≡ [] → IsPlan installed target plan
      → IsJudged installed target violations (Plans (record { target = target; plan = plan }))
