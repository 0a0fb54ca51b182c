use Rattle.std.proofs.Common.{ℕ, arith, length, List, refl, subst, get_or}
use Rattle.action_graph.specs.Places.{IsIn}
use Rattle.action_graph.proofs.Turning.{row_within}
use Rattle.action_graph.proofs.Finding.{marked_within}
use Rattle.action_graph.proofs.Orders.{lists_begin, lists_on, lists_shorter}
use Rattle.action_graph.proofs.listing.list_in_order.Goals as goal

pub turned-requires-clause-within : goal.turned-requires-clause-within
turned-requires-clause-within c = λ place at is. let h = c.requires.within place at is in omega (arith, h, c.requires.rows)

pub look_at_all-requires-clause-places : goal.look_at_all-requires-clause-places
look_at_all-requires-clause-places c = λ i below.
    let xs = c.in_ok-all.all in
    let same = c.as_slice-2.ensures in
    marked_within c.args.wanted.now (get_or c.as_slice-2.result.now i 0)
    ((c.in_ok-all.ensures.those (get_or c.as_slice-2.result.now i 0)).0 (let P : List ℕ → Type 0 = λ l. IsIn l (get_or c.as_slice-2.result.now i 0) in subst P same (i, below, refl)))

pub loop-place-init : goal.loop-place-init
loop-place-init c =
    lists_begin c.args.needs.now c.args.wanted.now c.in_ok-listed.listed.marks c.as_slice.result.now c.in_ok-listed.listed.places c.in_ok-waiting.waiting.ready _ c.in_ok-all.all c.as_slice-2.result.now _
    c.in_ok-listed.ensures.marks c.in_ok-listed.ensures.places c.in_ok-waiting.ensures.ready c.in_ok-all.ensures c.as_slice.ensures c.as_slice-2.ensures c.in_ok-look_at_all.ensures

pub look_at_all-requires-in-Some-clause-places : goal.look_at_all-requires-in-Some-clause-places
look_at_all-requires-in-Some-clause-places c = λ i below.
    let h = row_within c.in_ok-dependents.dependents c.in-Some.place (length c.args.needs.now) c.row-row.result.now c.row-row.ensures c.in_ok-dependents.ensures.within i below in
    omega (arith, h, c.requires.rows)

pub loop-place-smaller : goal.loop-place-smaller
loop-place-smaller c =
    let h = lists_shorter c.args.needs.now c.args.wanted.now c.loop-place.listed.marks c.loop-place.listed.places c.loop-place.waiting.ready c.take_ready.new.ready c.loop-place.waiting.cursors c.in-Some.place _ _
    c.loop-place.invariant c.in-Some.ensures c.in_ok-put.ensures in
    omega (arith, h.0, h.1)

pub loop-place-preserved : goal.loop-place-preserved
loop-place-preserved c =
    lists_on c.args.needs.now c.in_ok-dependents.dependents c.args.wanted.now c.loop-place.listed.marks c.as_slice-in-Some.result.now c.loop-place.listed.places c.loop-place.waiting.ready c.take_ready.new.ready _
    c.loop-place.waiting.cursors _ c.row-row.result.now c.in-Some.place _ _
    c.loop-place.invariant c.in-Some.ensures c.requires.rows c.in_ok-dependents.ensures c.row-row.ensures c.in_ok-put.ensures c.as_slice-in-Some.ensures c.in_ok-look_at_all-2.ensures
