use Rattle.action_graph.proofs.Turning.{adds_to_next}
use Rattle.action_graph.proofs.rows.Rows.add_to.Goals as goal

pub loop-at-preserved : goal.loop-at-preserved
loop-at-preserved c =
    adds_to_next c.args.self.now c.loop-at.self _ c.args.rows_of.now c.loop-at.at-index c.args.place c.loop-at.invariant c.loop-at-test.true
    (c.requires c.loop-at.at-index c.loop-at-test.true) c.in_ok-add.ensures
