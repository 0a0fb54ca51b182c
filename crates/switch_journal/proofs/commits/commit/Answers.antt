use Rattle.std.proofs.Common.{◌∙◌, ap}
use Rattle.crash_disk.proofs.Effects.{touches_both, touches_front}
use Rattle.crash_disk.proofs.Stops.{began, if_ok, wrote}
use Rattle.crash_disk.specs.Writes.{paths_of}
use Rattle.switch_journal.proofs.CommitStops.{rests_after, stops_first, stops_second, stops_third}
use Rattle.switch_journal.specs.declared.commits.Ready.{Ready}
use Rattle.switch_journal.proofs.commits.commit.Goals as goal

pub returns-in_err-write_all-clause-crash : goal.returns-in_err-write_all-clause-crash
returns-in_err-write_all-clause-crash g c = λ j text begins.
    stops_first g.D.Disk g.met.D.Disk.now_is j text c.args.ready.now.writes begins.apart begins.few begins.rest
    (began (c.as_slice.ensures ∙ ap (λ (r : Ready). r.entry) begins.is) c.write_all.ensures.touches)

pub returns-in_err-write_all-2-clause-crash : goal.returns-in_err-write_all-2-clause-crash
returns-in_err-write_all-2-clause-crash g c = λ j text begins.
    stops_second g.D.Disk g.met.D.Disk.now_is j text c.args.ready.now.writes begins.apart begins.few begins.rest
    (wrote g.D.Disk (c.as_slice.ensures ∙ ap (λ (r : Ready). r.entry) begins.is) c.write_all.ensures.touches c.in_ok-write_all.ensures.done)
    (began (c.as_slice-2.ensures ∙ ap (λ (r : Ready). r.gate) begins.is) c.write_all-2.ensures.touches)

pub returns-clause-crash : goal.returns-clause-crash
returns-clause-crash g c = λ j text begins.
    stops_third g.D.Disk g.met.D.Disk.now_is j text c.args.ready.now.writes begins.apart begins.few begins.rest
    (wrote g.D.Disk (c.as_slice.ensures ∙ ap (λ (r : Ready). r.entry) begins.is) c.write_all.ensures.touches c.in_ok-write_all.ensures.done)
    (wrote g.D.Disk (c.as_slice-2.ensures ∙ ap (λ (r : Ready). r.gate) begins.is) c.write_all-2.ensures.touches c.in_ok-write_all-2.ensures.done)
    (began c.as_slice-3.ensures c.write_all-3.ensures.touches)

pub returns-clause-done : goal.returns-clause-done
returns-clause-done g c = if_ok c.write_all-3.result c.write_all-3.ensures.done (λ leaves j text begins.
    rests_after g.D.Disk g.met.D.Disk.now_is j text c.args.ready.now.writes begins.apart begins.few begins.rest
    (wrote g.D.Disk (c.as_slice.ensures ∙ ap (λ (r : Ready). r.entry) begins.is) c.write_all.ensures.touches c.in_ok-write_all.ensures.done)
    (wrote g.D.Disk (c.as_slice-2.ensures ∙ ap (λ (r : Ready). r.gate) begins.is) c.write_all-2.ensures.touches c.in_ok-write_all-2.ensures.done)
    (wrote g.D.Disk c.as_slice-3.ensures c.write_all-3.ensures.touches leaves))

pub returns-in_err-write_all-clause-touches : goal.returns-in_err-write_all-clause-touches
returns-in_err-write_all-clause-touches g c = touches_front (paths_of c.args.ready.now.writes) (touches_front (paths_of c.args.ready.now.gate) (began c.as_slice.ensures c.write_all.ensures.touches))

pub returns-in_err-write_all-2-clause-touches : goal.returns-in_err-write_all-2-clause-touches
returns-in_err-write_all-2-clause-touches g c = touches_front (paths_of c.args.ready.now.writes) (touches_both (began c.as_slice.ensures c.write_all.ensures.touches) (began c.as_slice-2.ensures c.write_all-2.ensures.touches))

pub returns-clause-touches : goal.returns-clause-touches
returns-clause-touches g c = touches_both (touches_both (began c.as_slice.ensures c.write_all.ensures.touches) (began c.as_slice-2.ensures c.write_all-2.ensures.touches)) (began c.as_slice-3.ensures c.write_all-3.ensures.touches)
