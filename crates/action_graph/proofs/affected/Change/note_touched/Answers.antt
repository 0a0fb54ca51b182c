use Rattle.std.proofs.Common.{◌∙◌}
use Rattle.action_graph.specs.Leaving.{is_touched}
use Rattle.action_graph.proofs.Affecting.{touched_not, touched_put}
use Rattle.action_graph.proofs.affected.Change.note_touched.Goals as goal
use Rattle.action_graph.proofs.affected.Change.note_touched.Goals.{then-is_touched+in_ok-push, else-is_touched}

pub loop-at-preserved : goal.loop-at-preserved
loop-at-preserved c = elim c.if-is_touched.branch [
  | then-is_touched+in_ok-push w ↦
      touched_put (is_touched c.args.self.now.installed.now c.args.self.now.members.now c.args.self.now.redo.now) c.args.some.now c.args.from c.loop-at.at c.index-some-at.result c.args.touched.now c.loop-at.touched
      c.if-is_touched.touched c.is_touched.result c.loop-at.invariant c.loop-at-test.true c.index-some-at.is c.is_touched.ensures w.if-is_touched.true (w.touched-is ∙ w.in_ok-push.ensures.ok)
  | else-is_touched w ↦
      touched_not (is_touched c.args.self.now.installed.now c.args.self.now.members.now c.args.self.now.redo.now) c.args.some.now c.args.from c.loop-at.at c.index-some-at.result c.args.touched.now c.loop-at.touched
      c.if-is_touched.touched c.is_touched.result c.loop-at.invariant c.loop-at-test.true c.index-some-at.is c.is_touched.ensures w.if-is_touched.false w.touched-is
]
