use Rattle.lock_check.proofs.Undoing.{same_again}
use Rattle.lock_check.proofs.growth.reach.Goals as goal

pub returns-in-Err-clause-waiting : goal.returns-in-Err-clause-waiting
returns-in-Err-clause-waiting c =
    same_again c.args.needed.now.keys c.grow.new.fresh c.grow.new.needed.keys c.args.waiting.now.keys c.grow.new.waiting.keys c.undo.new.waiting.keys
    c.in-Err.ensures.err c.in-Err.ensures.some c.requires.within c.undo.ensures.waiting
