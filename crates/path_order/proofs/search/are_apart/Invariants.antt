use Rattle.std.proofs.Common.{map, take}
use Rattle.path_order.specs.Apart.{AreApart}
use Rattle.path_order.proofs.search.are_apart.Given as goal

abbrev pub invariant-loop-i : goal.invariant-loop-i
invariant-loop-i g l = AreApart (take l.i (map g.T.Pathed.path l.list))
