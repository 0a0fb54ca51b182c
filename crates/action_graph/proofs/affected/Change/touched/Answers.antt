use Rattle.action_graph.specs.Leaving.{is_touched}
use Rattle.action_graph.proofs.Affecting.{touched_both}
use Rattle.action_graph.proofs.affected.Change.touched.Goals as goal

pub returns : goal.returns
returns c =
    touched_both (is_touched c.args.self.now.installed.now c.args.self.now.members.now c.args.self.now.redo.now) c.args.self.now.installed.now c.args.self.now.members.now c.new-touched.result c.note_touched.new.touched
    c.note_touched-2.new.touched c.new-touched.ensures c.in_ok-note_touched.ensures c.in_ok-note_touched-2.ensures
