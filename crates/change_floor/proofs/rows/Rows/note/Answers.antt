use Rattle.std.proofs.Common.{arith, get_or, sym, ◌∙◌}
use Rattle.change_floor.proofs.Turning.{notes_add, notes_all, notes_none, notes_skip, stands_at, stands_nowhere}
use Rattle.change_floor.proofs.rows.Rows.note.Goals as goal
use Rattle.change_floor.proofs.rows.Rows.note.Goals.{in-Some+in_ok-add-in-Some, in-None}

pub add-requires : goal.add-requires
add-requires c =
    let need = get_or c.args.needs.now c.loop-need.need-index 0 in
    let at = stands_at c.args.plan.now.installs need c.in-Some.place (sym (c.requires.known.places need) ∙ sym c.in-Some.ensures) in
    omega (arith, at.1, c.loop-need.invariant.counted, c.requires.counted)

pub loop-need-init : goal.loop-need-init
loop-need-init c = notes_none c.args.plan.now c.args.self.now c.args.dependent

pub loop-need-preserved : goal.loop-need-preserved
loop-need-preserved c =
    let need = get_or c.args.needs.now c.loop-need.need-index 0 in
    elim c.match-place.branch [
      | in-Some+in_ok-add-in-Some w ↦
          (let at = stands_at c.args.plan.now.installs need w.in-Some.place (sym (c.requires.known.places need) ∙ sym w.in-Some.ensures) in
          notes_add c.args.plan.now c.args.self.now c.loop-need.self c.args.needs.now c.loop-need.need-index c.args.dependent w.in-Some.place c.match-place.self (w.self-is ∙ w.in_ok-add-in-Some.ensures) c.loop-need-test.true
          at.0 (omega (arith, at.1, c.loop-need.invariant.counted, c.requires.counted)) c.loop-need.invariant)
      | in-None w ↦
          notes_skip c.args.plan.now c.args.self.now c.loop-need.self c.args.needs.now c.loop-need.need-index c.args.dependent c.match-place.self w.self-is c.loop-need-test.true
          (stands_nowhere c.args.plan.now.installs need (sym (c.requires.known.places need) ∙ sym w.in-None.ensures)) c.loop-need.invariant
    ]

pub returns : goal.returns
returns c = notes_all c.args.plan.now c.args.self.now c.loop-need.self c.args.needs.now c.loop-need.need-index c.args.dependent c.loop-need-test.false c.loop-need.invariant
