use Rattle.std.proofs.Common.{arith}
use Rattle.change_floor.proofs.Indexing.{knows_at}
use Rattle.change_floor.proofs.index.places_of.Goals as goal

pub loop-place-preserved : goal.loop-place-preserved
loop-place-preserved c =
    knows_at c.args.installs.now c.loop-place.places c.insert.new.self c.loop-place.place c.index-installs-place.result c.requires (omega arith) c.loop-place.invariant c.in-Ok.ensures.updates.0
