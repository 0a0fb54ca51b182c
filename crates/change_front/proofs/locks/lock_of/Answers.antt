use Rattle.change_front.proofs.Locked.{bad_bytes, bound_bytes, long_bytes}
use Rattle.change_front.proofs.locks.lock_of.Goals as goal

pub returns-then-len-gt-FILE_LIMIT-clause-told : goal.returns-then-len-gt-FILE_LIMIT-clause-told
returns-then-len-gt-FILE_LIMIT-clause-told c =
    long_bytes c.args.path.now c.args.bytes c.len.result c.in_ok-too_long.field-0 c.len.ensures c.if-len-gt-FILE_LIMIT.true c.in_ok-too_long.ensures

pub returns-in-Ok-clause-told : goal.returns-in-Ok-clause-told
returns-in-Ok-clause-told c =
    bound_bytes c.args.globals.now c.args.bytes c.as_slice.result.now c.len.result c.in-Ok.lock.bound c.len.ensures c.if-len-gt-FILE_LIMIT.false c.as_slice.ensures c.in-Ok.ensures.ok

pub returns-clause-told : goal.returns-clause-told
returns-clause-told c =
    bad_bytes c.args.path.now c.args.bytes c.as_slice.result.now c.len.result c.in-Err.fault c.in_ok-bad_lock-in-Err.field-0 c.len.ensures c.if-len-gt-FILE_LIMIT.false c.as_slice.ensures
    c.in_ok-bad_lock-in-Err.ensures.value c.in_ok-bad_lock-in-Err.ensures.known c.in-Err.ensures.err
