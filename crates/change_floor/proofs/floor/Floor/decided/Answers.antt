use Rattle.std.proofs.Common.{subst, sym}
use Rattle.change_floor.specs.Floors.{FloorState, IsDecidable, fate_at, next_turn}
use Rattle.change_floor.proofs.Folding.{decidable_within}
use Rattle.change_floor.proofs.FloorKept.{decided_holds}
use Rattle.change_floor.proofs.floor.Floor.decided.Goals as goal

pub invariant_of-self : goal.invariant_of-self
invariant_of-self c =
    let f = c.self.inside in
    let P : FloorState → Type 0 = λ s. IsDecidable (next_turn s) in
    let below = decidable_within f.plan f.decided.items (fate_at f.jobs) (subst P (sym c.self.view_is) c.requires) in
    decided_holds f.plan f.decided c.push_reserved.new.self c.as_slice.result.now c.as_slice-2.result.now c.args.good f.jobs f.busy f.lacks c.next_lacks-self-inside.result f.index f.dependents f.queue c.settle.new.queue
    c.self.invariant c.as_slice.ensures.value c.push_reserved.ensures.items c.push_reserved.ensures.capacity below c.settle.ensures c.as_slice-2.ensures.value c.next_lacks-self-inside.ensures
