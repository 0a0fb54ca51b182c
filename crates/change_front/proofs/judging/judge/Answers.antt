use Rattle.change_front.proofs.Judged.{judged_circular, judged_planned, judged_violated, long_judged}
use Rattle.change_front.proofs.judging.judge.Goals as goal

pub returns-then-are_too_long : goal.returns-then-are_too_long
returns-then-are_too_long c =
    long_judged c.args.installed.now c.args.target c.args.told c.as_slice.result.now c.are_too_long.result c.as_slice.ensures c.are_too_long.ensures c.if-are_too_long.true

pub returns-then-not-is_empty : goal.returns-then-not-is_empty
returns-then-not-is_empty c =
    judged_violated c.args.installed.now c.args.target c.args.told c.as_slice.result.now c.are_too_long.result c.as_slice.ensures c.are_too_long.ensures c.if-are_too_long.false
    c.is_empty.result c.is_empty.ensures c.if-not-is_empty.true

pub returns-in-Ok : goal.returns-in-Ok
returns-in-Ok c =
    judged_planned c.args.installed.now c.args.target c.args.told c.as_slice.result.now c.are_too_long.result c.as_slice.ensures c.are_too_long.ensures c.if-are_too_long.false
    c.is_empty.result c.in-Ok.plan c.is_empty.ensures c.if-not-is_empty.false c.in-Ok.ensures.removals c.in-Ok.ensures.installs c.in-Ok.ensures.missing

pub returns-in-Err-Cycle : goal.returns-in-Err-Cycle
returns-in-Err-Cycle c =
    judged_circular c.args.installed.now c.args.target c.args.told c.as_slice.result.now c.are_too_long.result c.as_slice.ensures c.are_too_long.ensures c.if-are_too_long.false
    c.is_empty.result c.in-Err-Cycle.names c.in-Err-Cycle.field-0 c.is_empty.ensures c.if-not-is_empty.false c.in-Err-Cycle.field-0-is c.in-Err-Cycle.ensures.cycle
