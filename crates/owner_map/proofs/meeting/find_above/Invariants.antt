use Rattle.std.specs.List.{AllByRecursion}
use Rattle.owner_map.proofs.Finds.{AboveFrom}
use Rattle.owner_map.proofs.meeting.find_above.Given as goal

abbrev pub invariant-loop-at : goal.invariant-loop-at
invariant-loop-at g l = AllByRecursion (AboveFrom g.T.ByteKey.key l.text l.at) l.list.items
