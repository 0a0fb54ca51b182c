use Rattle.std.proofs.Common.{◌≡◌, ◌<◌, ◌+◌, ◌-◌, ℕ, inl, inr, arith, length}
use Rattle.change_floor.proofs.Decided.{row_waits, row_within, settles_done, settles_quiet}
use Rattle.change_floor.proofs.settling.settle.Goals as goal

pub returns-then-decided-len : goal.returns-then-decided-len
returns-then-decided-len c =
    settles_quiet c.args.plan.now c.args.decided.now c.args.done c.args.queue.now (inr (omega (arith, c.if-decided-len.true, c.len.ensures))) c.requires.fits c.requires.counts

pub returns-then-not-done : goal.returns-then-not-done
returns-then-not-done c = settles_quiet c.args.plan.now c.args.decided.now c.args.done c.args.queue.now (inl c.if-not-done.true) c.requires.fits c.requires.counts

pub row-requires : goal.row-requires
row-requires c = omega (arith, c.requires.within, c.requires.turned.counted, c.if-decided-len.false, c.len.ensures, c.len-2.ensures)

pub release-requires-clause-within : goal.release-requires-clause-within
release-requires-clause-within c = λ i inside.
    let at : ℕ = length c.args.decided.now - c.len-2.result in
    let below : at < length c.args.plan.now.installs = omega (arith, c.requires.within, c.if-decided-len.false, c.len.ensures, c.len-2.ensures) in
    let h = row_within c.args.plan.now c.args.dependents.now at c.row.result.now i c.requires.turned below c.row.ensures inside in
    omega (arith, h, c.requires.counted)

pub release-requires-clause-waits : goal.release-requires-clause-waits
release-requires-clause-waits c =
    let at : ℕ = length c.args.decided.now - c.len-2.result in
    let below : at < length c.args.plan.now.installs = omega (arith, c.requires.within, c.if-decided-len.false, c.len.ensures, c.len-2.ensures) in
    let here : length c.args.plan.now.removals + at ≡ length c.args.decided.now = omega (arith, c.if-decided-len.false, c.len.ensures, c.len-2.ensures) in
    row_waits c.args.plan.now c.args.decided.now c.args.dependents.now at c.row.result.now c.args.queue.now.left c.requires.turned here below c.row.ensures c.requires.counted c.requires.counts

pub returns : goal.returns
returns c =
    let at : ℕ = length c.args.decided.now - c.len-2.result in
    let below : at < length c.args.plan.now.installs = omega (arith, c.requires.within, c.if-decided-len.false, c.len.ensures, c.len-2.ensures) in
    let here : length c.args.plan.now.removals + at ≡ length c.args.decided.now = omega (arith, c.if-decided-len.false, c.len.ensures, c.len-2.ensures) in
    settles_done c.args.plan.now c.args.decided.now c.args.done c.args.dependents.now at c.row.result.now c.args.queue.now c.release.new.self c.if-not-done.false c.requires.turned here below c.row.ensures c.requires.counted
    c.requires.counts c.release.ensures
