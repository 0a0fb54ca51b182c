use Rattle.std.proofs.Common.{refl}
use Rattle.switch_state.specs.State.{Request}
use Rattle.switch_state.proofs.Recovered.{target_read}
use Rattle.switch_state.proofs.recovery.read_open.Goals as goal

pub returns-in-Some : goal.returns-in-Some
returns-in-Some c =
    let request : Request = record { from = c.args.request.from; target = c.in-Some.target; removals = c.args.request.removals; done = c.from_items.result.items } in
    target_read c.args.globals.now c.args.request request refl refl c.from_items.ensures (rw c.in-Some.is at c.in_ok-read_target.ensures)
