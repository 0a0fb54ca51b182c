use Rattle.std.proofs.Common.{◌≡◌, ℕ, ◌+◌, ap, ◌∙◌, get_or, List, arith, ◌<◌, length}
use Rattle.std.proofs.lemmas.List.{get_or_default}
use Rattle.change_floor.specs.Queues.{left_of}
use Rattle.change_floor.proofs.Queuing.{filled, fills_free, fills_waits}
use Rattle.change_floor.proofs.queue.queue_of.Goals as goal
use Rattle.change_floor.proofs.queue.queue_of.Goals.{then-as_slice-place-eq0, else-as_slice-place-eq0}

here : (left seen : List ℕ) (place : ℕ) → seen ≡ left → place < length left → get_or seen place 0 ≡ left_of left place
here left seen place same below = ap (λ ls. get_or ls place 0) same ∙ get_or_default left place 0 1 below

pub loop-place-preserved : goal.loop-place-preserved
loop-place-preserved c =
    let below = c.loop-place-test.true in
    let inside : c.loop-place.place < length c.args.left = omega (arith, below, c.len-place-end.ensures) in
    let at = here c.args.left c.as_slice.result.now c.loop-place.place c.as_slice.ensures inside in
    elim c.if-as_slice-place-eq0.branch [
      | then-as_slice-place-eq0 w ↦
          filled c.args.left (c.loop-place.place + 1) c.if-as_slice-place-eq0.ready w.put_ready.new.ready w.ready-is
          (fills_free c.args.left c.loop-place.place (get_or c.as_slice.result.now c.loop-place.place 0) c.loop-place.ready w.put_ready.new.ready inside at w.if-as_slice-place-eq0.true c.loop-place.invariant
          w.put_ready.ensures.ordered w.put_ready.ensures.len w.put_ready.ensures.capacity w.put_ready.ensures.times)
      | else-as_slice-place-eq0 w ↦
          filled c.args.left (c.loop-place.place + 1) c.if-as_slice-place-eq0.ready c.loop-place.ready w.ready-is
          (fills_waits c.args.left c.loop-place.place (get_or c.as_slice.result.now c.loop-place.place 0) c.loop-place.ready inside at w.if-as_slice-place-eq0.false c.loop-place.invariant)
    ]
