use Rattle.std.proofs.Common.{◌∙◌, arith, length-drop}
use Rattle.outside_io.proofs.Tellings.{got_piece}
use Rattle.outside_io.proofs.teller.write_all.Goals as goal

pub loop-done-preserved : goal.loop-done-preserved
loop-done-preserved g c =
    let S = g.S.Sink in record {
      within = omega (arith, c.in-Ok.ensures.bound, length-drop c.loop-done.done c.args.bytes.now);
      got = got_piece (S.written c.args.sink.now) (S.written c.loop-done.sink) (S.written c.write.new.self) c.args.bytes.now c.loop-done.done c.in-Ok.count c.loop-done.invariant.got c.in-Ok.ensures.told;
      quiet = c.in-Ok.ensures.cause.some (omega (arith, c.in-Ok.count-test)) ∙ c.loop-done.invariant.quiet;
    }
