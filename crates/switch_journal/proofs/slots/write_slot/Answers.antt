use Rattle.std.proofs.Common.{◌∙◌, ap}
use Rattle.crash_disk.proofs.Effects.{touches_both, touches_front}
use Rattle.crash_disk.proofs.Stops.{began, if_ok, wrote}
use Rattle.crash_disk.specs.Writes.{paths_of}
use Rattle.switch_journal.proofs.SlotStops.{rests_old, stops_gate, stops_old, stops_put, stops_shut}
use Rattle.switch_journal.specs.declared.slots.ReadySlot.{ReadySlot}
use Rattle.switch_journal.proofs.slots.write_slot.Goals as goal

pub returns-in_err-write_all-clause-crash : goal.returns-in_err-write_all-clause-crash
returns-in_err-write_all-clause-crash g c = λ j slot text begins.
    stops_shut g.D.Disk g.met.D.Disk.now_is j slot text begins.few begins.rest (began (c.as_slice.ensures ∙ ap (λ (r : ReadySlot). r.shut) begins.is) c.write_all.ensures.touches)

pub returns-in_err-write_all-2-clause-crash : goal.returns-in_err-write_all-2-clause-crash
returns-in_err-write_all-2-clause-crash g c = λ j slot text begins.
    stops_put g.D.Disk g.met.D.Disk.now_is j slot text begins.few begins.rest
    (wrote g.D.Disk (c.as_slice.ensures ∙ ap (λ (r : ReadySlot). r.shut) begins.is) c.write_all.ensures.touches c.in_ok-write_all.ensures.done)
    (began (c.as_slice-2.ensures ∙ ap (λ (r : ReadySlot). r.slot) begins.is) c.write_all-2.ensures.touches)

pub returns-in_err-write_all-3-clause-crash : goal.returns-in_err-write_all-3-clause-crash
returns-in_err-write_all-3-clause-crash g c = λ j slot text begins.
    stops_gate g.D.Disk g.met.D.Disk.now_is j slot text begins.few begins.rest
    (wrote g.D.Disk (c.as_slice.ensures ∙ ap (λ (r : ReadySlot). r.shut) begins.is) c.write_all.ensures.touches c.in_ok-write_all.ensures.done)
    (wrote g.D.Disk (c.as_slice-2.ensures ∙ ap (λ (r : ReadySlot). r.slot) begins.is) c.write_all-2.ensures.touches c.in_ok-write_all-2.ensures.done)
    (began (c.as_slice-3.ensures ∙ ap (λ (r : ReadySlot). r.gate) begins.is) c.write_all-3.ensures.touches)

pub returns-clause-crash : goal.returns-clause-crash
returns-clause-crash g c = λ j slot text begins.
    stops_old g.D.Disk g.met.D.Disk.now_is j slot text begins.few begins.rest
    (wrote g.D.Disk (c.as_slice.ensures ∙ ap (λ (r : ReadySlot). r.shut) begins.is) c.write_all.ensures.touches c.in_ok-write_all.ensures.done)
    (wrote g.D.Disk (c.as_slice-2.ensures ∙ ap (λ (r : ReadySlot). r.slot) begins.is) c.write_all-2.ensures.touches c.in_ok-write_all-2.ensures.done)
    (wrote g.D.Disk (c.as_slice-3.ensures ∙ ap (λ (r : ReadySlot). r.gate) begins.is) c.write_all-3.ensures.touches c.in_ok-write_all-3.ensures.done)
    (began (c.as_slice-4.ensures ∙ ap (λ (r : ReadySlot). r.old) begins.is) c.write_all-4.ensures.touches)

pub returns-clause-done : goal.returns-clause-done
returns-clause-done g c = if_ok c.write_all-4.result c.write_all-4.ensures.done (λ leaves j slot text begins.
    rests_old g.D.Disk g.met.D.Disk.now_is j slot text begins.few begins.rest
    (wrote g.D.Disk (c.as_slice.ensures ∙ ap (λ (r : ReadySlot). r.shut) begins.is) c.write_all.ensures.touches c.in_ok-write_all.ensures.done)
    (wrote g.D.Disk (c.as_slice-2.ensures ∙ ap (λ (r : ReadySlot). r.slot) begins.is) c.write_all-2.ensures.touches c.in_ok-write_all-2.ensures.done)
    (wrote g.D.Disk (c.as_slice-3.ensures ∙ ap (λ (r : ReadySlot). r.gate) begins.is) c.write_all-3.ensures.touches c.in_ok-write_all-3.ensures.done)
    (wrote g.D.Disk (c.as_slice-4.ensures ∙ ap (λ (r : ReadySlot). r.old) begins.is) c.write_all-4.ensures.touches leaves))

pub returns-in_err-write_all-clause-touches : goal.returns-in_err-write_all-clause-touches
returns-in_err-write_all-clause-touches g c = touches_front (paths_of c.args.ready.now.old) (touches_front (paths_of c.args.ready.now.gate) (touches_front (paths_of c.args.ready.now.slot) (began c.as_slice.ensures c.write_all.ensures.touches)))

pub returns-in_err-write_all-2-clause-touches : goal.returns-in_err-write_all-2-clause-touches
returns-in_err-write_all-2-clause-touches g c = touches_front (paths_of c.args.ready.now.old) (touches_front (paths_of c.args.ready.now.gate) (touches_both (began c.as_slice.ensures c.write_all.ensures.touches) (began c.as_slice-2.ensures c.write_all-2.ensures.touches)))

pub returns-in_err-write_all-3-clause-touches : goal.returns-in_err-write_all-3-clause-touches
returns-in_err-write_all-3-clause-touches g c = touches_front (paths_of c.args.ready.now.old) (touches_both (touches_both (began c.as_slice.ensures c.write_all.ensures.touches) (began c.as_slice-2.ensures c.write_all-2.ensures.touches)) (began c.as_slice-3.ensures c.write_all-3.ensures.touches))

pub returns-clause-touches : goal.returns-clause-touches
returns-clause-touches g c = touches_both (touches_both (touches_both (began c.as_slice.ensures c.write_all.ensures.touches) (began c.as_slice-2.ensures c.write_all-2.ensures.touches)) (began c.as_slice-3.ensures c.write_all-3.ensures.touches)) (began c.as_slice-4.ensures c.write_all-4.ensures.touches)
