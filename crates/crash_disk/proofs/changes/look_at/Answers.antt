use Rattle.std.proofs.Common.{IsSome, refl, sym}
use Rattle.crash_disk.specs.Log.{stored_at}
use Rattle.crash_disk.proofs.Below.{some_stored, none_kept, is_below, none_below}
use Rattle.crash_disk.proofs.changes.look_at.Goals as goal

pub returns-in-Some : goal.returns-in-Some
returns-in-Some c =
    let some : IsSome (stored_at c.args.first.now c.args.log.now c.args.path.now) = rw (sym c.in-Some.ensures) refl in
    some_stored c.args.first.now c.args.log.now c.args.path.now some

pub returns-then-first_below : goal.returns-then-first_below
returns-then-first_below c =
    let below = is_below c.args.first.now c.args.log.now c.args.path.now c.if-first_below.ensures.found in
    (none_kept c.args.first.now c.args.log.now c.args.path.now (sym c.in-None.ensures), below.0, below.1, below.2)

pub returns-then-put_below : goal.returns-then-put_below
returns-then-put_below c =
    let below = is_below c.args.first.now c.args.log.now c.args.path.now c.if-put_below.ensures.found in
    (none_kept c.args.first.now c.args.log.now c.args.path.now (sym c.in-None.ensures), below.0, below.1, below.2)

pub returns-else-put_below : goal.returns-else-put_below
returns-else-put_below c = (none_kept c.args.first.now c.args.log.now c.args.path.now (sym c.in-None.ensures), λ q below. none_below c.args.first.now c.args.log.now c.args.path.now q below c.if-first_below.ensures.none c.if-put_below.ensures.none)
