use Rattle.std.proofs.Common.{rules}
use Rattle.action_graph.proofs.Lookups.{spots_more}
use Rattle.action_graph.proofs.lookup.spots_of.Goals as goal

pub loop-at-preserved : goal.loop-at-preserved
loop-at-preserved c =
    spots_more c.args.members.now c.loop-at.at c.index-members-at.result c.index-members-at.result c.loop-at.spots _ c.loop-at.invariant (search rules) c.index-members-at.is (search rules)
