use Rattle.std.proofs.Common.{length, ap, arith}
use Rattle.std.proofs.lemmas.List.{take_all}
use Rattle.owner_map.specs.Chunks.{debt}
use Rattle.owner_map.proofs.Chunking.{shaped_short}
use Rattle.owner_map.proofs.Splitting.{chunk_is, debt_more}
use Rattle.owner_map.proofs.chunks.count_heavy.Goals.{then-len-gt-CHUNK_HALF, else-len-gt-CHUNK_HALF}
use Rattle.owner_map.proofs.chunks.count_heavy.Goals as goal

pub loop-i-init : goal.loop-i-init
loop-i-init g c = record { debts = omega arith; within = omega arith }

pub overflow_add-heavy : goal.overflow_add-heavy
overflow_add-heavy g c = omega (arith, c.loop-i.invariant.within, c.loop-i-test.true)

pub loop-i-preserved : goal.loop-i-preserved
loop-i-preserved g c =
    let more = debt_more c.args.chunks.now c.loop-i.i c.index-chunks-i.result c.loop-i-test.true c.index-chunks-i.is in
    let short = shaped_short c.args.used c.args.chunks.now c.loop-i.i c.requires in
    let one = ap length (chunk_is c.args.chunks.now c.loop-i.i c.index-chunks-i.result c.loop-i-test.true c.index-chunks-i.is) in
    elim c.if-len-gt-CHUNK_HALF.branch [
      | then-len-gt-CHUNK_HALF w ↦ record {
        debts = omega (arith, more, short, one, w.heavy-is, c.loop-i.invariant.debts);
        within = omega (arith, w.heavy-is, c.loop-i.invariant.within);
      }
      | else-len-gt-CHUNK_HALF w ↦ record {
        debts = omega (arith, more, c.len.ensures, w.if-len-gt-CHUNK_HALF.false, w.heavy-is, c.loop-i.invariant.debts);
        within = omega (arith, w.heavy-is, c.loop-i.invariant.within);
      }
    ]

pub returns-clause-debt : goal.returns-clause-debt
returns-clause-debt g c =
    omega (arith, c.loop-i.invariant.debts, ap debt (take_all c.loop-i.i c.args.chunks.now (omega (arith, c.loop-i-test.false))))
