use Rattle.std.proofs.Common.{arith}
use Rattle.syntax_places.proofs.Endings.{longest}
use Rattle.syntax_places.proofs.beginnings.between.Goals as goal

pub returns : goal.returns
returns c = let near = c.loop-high-test.false in longest c.args.bytes.now c.loop-high.low c.loop-high.high c.loop-high.invariant (omega arith)
