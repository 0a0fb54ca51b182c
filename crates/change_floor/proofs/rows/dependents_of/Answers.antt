use Rattle.std.proofs.Common.{arith, ap, length, replicate, [], ◌∙◌}
use Rattle.change_floor.proofs.Turning.{needs_are, turned_all, turned_next, turned_none}
use Rattle.change_floor.proofs.rows.dependents_of.Goals as goal

pub loop-place-init : goal.loop-place-init
loop-place-init c = turned_none c.args.plan.now c.in_ok-rows.rows (c.in_ok-rows.ensures ∙ ap (λ xs. replicate (length xs) []) c.as_slice-installs.ensures)

pub loop-place-preserved : goal.loop-place-preserved
loop-place-preserved c =
    turned_next c.args.plan.now c.loop-place.rows c.note.new.self c.loop-place.place c.as_slice.result.now
    (needs_are c.args.plan.now c.as_slice-installs.result.now c.loop-place.place c.index-installs-place.result c.as_slice.result.now c.as_slice-installs.ensures (omega arith) c.as_slice.ensures)
    c.loop-place.invariant c.in_ok-note.ensures

pub returns : goal.returns
returns c = turned_all c.args.plan.now c.loop-place.rows c.loop-place.place (omega (arith, c.loop-place-test.false, ap length c.as_slice-installs.ensures)) c.loop-place.invariant
