use Rattle.std.proofs.Common.{◌∙◌, arith}
use Rattle.action_graph.specs.Gathering.{gathered_marks}
use Rattle.action_graph.proofs.Finding.{adds_next, adds_none}
use Rattle.action_graph.proofs.Gathering.{count_of_marks}
use Rattle.action_graph.proofs.gathered.Gathered.add.Goals as goal

pub loop-place-preserved : goal.loop-place-preserved
loop-place-preserved c =
    let i = c.loop-place.place-index in (
      c.in_ok-put.ensures.count ∙ c.loop-place.invariant.0,
      adds_next (gathered_marks c.args.self.now) c.args.self.now.places c.args.places.now i (gathered_marks c.loop-place.self) c.loop-place.self.places _ _
          c.loop-place.invariant.1 c.loop-place-test.true
          (omega (arith, c.requires.within i c.loop-place-test.true, count_of_marks c.args.self.now.set 0 c.args.self.now.count)) c.in_ok-put.ensures.put,
    )
