use Rattle.change_floor.proofs.Indexing.{missing_next}
use Rattle.change_floor.proofs.index.set_of.Goals as goal

pub loop-member-preserved : goal.loop-member-preserved
loop-member-preserved c =
    missing_next c.args.members.now c.loop-member.set c.insert.new.self c.loop-member.member-index c.loop-member-test.true c.loop-member.invariant c.in-Ok.ensures.updates.0
