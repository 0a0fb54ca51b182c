use Rattle.std.proofs.Common.{◌≡◌, ◌≤◌, ◌-◌, length, take}
use Rattle.outside_io.specs.Sinks.{Got}
use Rattle.outside_io.proofs.teller.write_all.Given as goal

-- the sink has got the first bytes, and has not failed
abbrev pub invariant-loop-done : goal.invariant-loop-done
invariant-loop-done g l =
    let S = g.S.Sink in
    record {
      within : l.done ≤ length l.bytes;
      got : Got (S.written l.fn.sink) (S.written l.sink) (take l.done l.bytes);
      quiet : S.faults l.sink ≡ S.faults l.fn.sink;
    }

abbrev pub decreases-loop-done : goal.decreases-loop-done
decreases-loop-done g l = length l.bytes - l.done
