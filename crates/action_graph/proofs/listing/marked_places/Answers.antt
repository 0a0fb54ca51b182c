use Rattle.std.proofs.Common.{rules, ◌∙◌}
use Rattle.action_graph.proofs.Membership.{are_all, are_from, are_pushed, are_skipped}
use Rattle.action_graph.proofs.listing.marked_places.Goals as goal
use Rattle.action_graph.proofs.listing.marked_places.Goals.{then-marks-at+in_ok-push, else-marks-at}

pub loop-at-init : goal.loop-at-init
loop-at-init c = are_from c.args.marks.now c.new-places.result c.new-places.ensures

pub loop-at-preserved : goal.loop-at-preserved
loop-at-preserved c = elim c.if-marks-at.branch [
  | then-marks-at+in_ok-push w ↦ are_pushed c.args.marks.now c.loop-at.places c.if-marks-at.places c.loop-at.at c.loop-at.invariant w.if-marks-at.true (w.places-is ∙ w.in_ok-push.ensures.ok)
  | else-marks-at w ↦ are_skipped c.args.marks.now c.loop-at.places c.if-marks-at.places c.loop-at.at c.loop-at.invariant w.if-marks-at.false w.places-is
]

pub returns : goal.returns
returns c = are_all c.args.marks.now c.loop-at.places c.loop-at.at c.loop-at.invariant (search rules)
