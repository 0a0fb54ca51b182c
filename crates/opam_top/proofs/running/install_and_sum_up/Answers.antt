use Rattle.std.proofs.Common.{List, OnOk, subst}
use Rattle.opam_top.specs.Reports.{summary}
use Rattle.opam_top.specs.declared.decision.Decision.{Decision}
use Rattle.opam_top.specs.Changes.{Says}
use Rattle.opam_top.proofs.Ends.{sum_says}
use Rattle.opam_top.proofs.Progressed.{always}
use Rattle.opam_top.proofs.running.install_and_sum_up.Goals as goal

pub returns-in-Ok-clause-said : goal.returns-in-Ok-clause-said
returns-in-Ok-clause-said g c =
    let O = g.O.Sink in let mid = c.install_members.new.out in let new = c.sum_up.new.out in
    sum_says c.args.out.now.stopped mid.stopped new.stopped (O.faults c.args.out.now.sink.now) (O.faults mid.sink.now) (O.faults new.sink.now) (O.written c.args.out.now.sink.now) (O.written mid.sink.now) (O.written new.sink.now)
    c.sum_up.result c.install_members.new.progress.decisions.items c.install_members.ensures.said
    (subst (λ (l : List Decision). OnOk c.sum_up.result (Says mid.stopped new.stopped (O.faults mid.sink.now) (O.faults new.sink.now) (O.written mid.sink.now) (O.written new.sink.now) (summary l))) c.as_slice.ensures.value c.sum_up.ensures.said)
    c.sum_up.ensures.unsaid

pub returns-in-Ok-clause-left : goal.returns-in-Ok-clause-left
returns-in-Ok-clause-left g c = λ told s shop disk fresh. always c.sum_up.result (c.in-Ok.ensures.left told s shop disk fresh)

pub returns-clause-halted : goal.returns-clause-halted
returns-clause-halted g c = λ told s shop disk fresh is. c.in-Err.ensures.halted told s shop disk fresh
