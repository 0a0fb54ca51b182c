use Rattle.lock_check.proofs.LockRead.{read_err, read_ok, told_so}
use Rattle.lock_check.proofs.lock_texts.read_lock.Goals as goal

pub returns-in-Ok-clause-ok : goal.returns-in-Ok-clause-ok
returns-in-Ok-clause-ok c =
    read_ok c.args.bytes.now c.args.globals.now c.in-Ok.file c.lock_items.result.now c.lock_of.result c.in-Ok.ensures.ok c.lock_items.ensures c.lock_of.ensures.sound c.lock_of.ensures.ok

pub returns-in-Ok-clause-err : goal.returns-in-Ok-clause-err
returns-in-Ok-clause-err c = read_err c.args.bytes.now c.in-Ok.file c.lock_items.result.now c.lock_of.result c.in-Ok.ensures.ok c.lock_items.ensures c.lock_of.ensures.err

pub returns-in-Err-clause-err : goal.returns-in-Err-clause-err
returns-in-Err-clause-err c = told_so c.args.bytes.now c.in-Err.fault c.told_syntax.result c.told_syntax.ensures c.in-Err.ensures.err
