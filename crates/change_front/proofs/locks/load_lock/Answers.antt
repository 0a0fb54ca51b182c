use Rattle.std.specs.FinMap.{get}
use Rattle.change_front.proofs.Locked.{absent_at, long_at}
use Rattle.change_front.proofs.locks.load_lock.Goals as goal

pub returns-in_ok-not_found-in-Ok-Absent-clause-told : goal.returns-in_ok-not_found-in-Ok-Absent-clause-told
returns-in_ok-not_found-in-Ok-Absent-clause-told g c = λ files is.
    absent_at c.args.path.now (get files c.args.path.now) _ c.in-Ok-Absent.field-0 c.in_ok-not_found-in-Ok-Absent.field-0 (c.in-Ok-Absent.ensures.told files is) c.in-Ok-Absent.field-0-is
    c.in_ok-not_found-in-Ok-Absent.ensures

pub returns-in_ok-too_long-in-Ok-TooLong-clause-told : goal.returns-in_ok-too_long-in-Ok-TooLong-clause-told
returns-in_ok-too_long-in-Ok-TooLong-clause-told g c = λ files is.
    long_at c.args.path.now (get files c.args.path.now) c.in-Ok-TooLong.field-0 c.in_ok-too_long-in-Ok-TooLong.field-0 (c.in-Ok-TooLong.ensures.told files is) c.in-Ok-TooLong.field-0-is
    c.in_ok-too_long-in-Ok-TooLong.ensures
