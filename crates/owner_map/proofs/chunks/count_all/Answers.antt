use Rattle.std.proofs.Common.{◌+◌, length, refl, ◌∙◌, ap, arith}
use Rattle.std.proofs.lemmas.List.{take_all}
use Rattle.owner_map.specs.Chunks.{joined}
use Rattle.owner_map.proofs.Splitting.{joined_front, joined_more}
use Rattle.owner_map.proofs.chunks.count_all.Goals as goal

pub loop-i-init : goal.loop-i-init
loop-i-init g c = refl

pub overflow_add-count : goal.overflow_add-count
overflow_add-count g c =
    omega (arith, c.loop-i.invariant, c.len-count.ensures, joined_more c.args.chunks.now c.loop-i.i c.index-chunks-i.result c.loop-i-test.true c.index-chunks-i.is, joined_front c.args.chunks.now (c.loop-i.i + 1), c.requires)

pub loop-i-preserved : goal.loop-i-preserved
loop-i-preserved g c =
    omega (arith, c.loop-i.invariant, c.len-count.ensures, joined_more c.args.chunks.now c.loop-i.i c.index-chunks-i.result c.loop-i-test.true c.index-chunks-i.is)

pub returns : goal.returns
returns g c =
    c.loop-i.invariant ∙ ap (λ l. length (joined l)) (take_all c.loop-i.i c.args.chunks.now (omega (arith, c.loop-i-test.false)))
