use Rattle.std.proofs.Common.{List, ℕ, subst, ap, arith, length, sym}
use Rattle.change_floor.specs.Keeping.{Turned}
use Rattle.change_floor.proofs.FloorKept.{new_holds}
use Rattle.change_floor.proofs.floor.Floor.new.Goals as goal

pub invariant_of-result : goal.invariant_of-result
invariant_of-result c =
    let removals = ap length c.as_slice.ensures in
    let installs = ap length c.as_slice-count.ensures in
    let T : List (List ℕ) → Type 0 = λ rows. Turned c.args.plan.now rows in
    new_holds c.args.plan.now c.in_ok-copy_plan.field-0 c.in_ok-decided.decided c.in_ok-all_waiting.field-0 (length c.as_slice-count.result.now) c.next_lacks-lacks.result c.in_ok-index.index _ c.in_ok-left.left c.in_ok-queue_of.field-0
    c.as_slice-3.result.now c.as_slice-2.result.now c.in_ok-copy_plan.ensures c.requires.once c.in_ok-index.ensures
    (omega (arith, removals, installs, c.as_slice.type_inv.1, c.as_slice-count.type_inv.1)) (omega (arith, removals, installs, c.in_ok-decided.ensures.exact)) c.in_ok-decided.ensures.items installs c.in_ok-all_waiting.ensures
    c.as_slice-3.ensures.value c.next_lacks-lacks.ensures (subst T (sym c.dependents.view_is) c.in_ok-dependents.ensures) c.as_slice-2.ensures.value c.in_ok-left.ensures c.in_ok-queue_of.ensures.left c.in_ok-queue_of.ensures.fits c.in_ok-queue_of.ensures.ready
