use Rattle.std.proofs.Common.{◌∙◌, ◌++◌, ◌∷◌, [], ap, sym}
use Rattle.action_graph.proofs.Gathering.{marks_more}
use Rattle.action_graph.specs.Gathering.{marks_from}
use Rattle.action_graph.proofs.gathered.Gathered.marks.Goals as goal

pub loop-at-preserved : goal.loop-at-preserved
loop-at-preserved c =
    c.in_ok-push.ensures.ok ∙ ap (λ m. m ++ c.has.result ∷ []) c.loop-at.invariant ∙ ap (λ b. marks_from c.args.self.now.set 0 c.loop-at.at ++ b ∷ []) c.has.ensures
    ∙ sym (marks_more c.args.self.now.set c.loop-at.at)
