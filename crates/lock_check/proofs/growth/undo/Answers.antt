use Rattle.std.proofs.Common.{rules}
use Rattle.lock_check.proofs.Undoing.{undoing_back, undoing_fewer, undoing_first, undoing_next}
use Rattle.lock_check.proofs.growth.undo.Goals as goal

pub loop-name-init : goal.loop-name-init
loop-name-init c = undoing_first c.args.names c.args.needed.now.keys c.args.waiting.now.keys

pub loop-name-preserved : goal.loop-name-preserved
loop-name-preserved c =
    undoing_next c.args.names c.args.needed.now.keys c.args.waiting.now.keys c.loop-name.left _ c.loop-name.needed.keys c.loop-name.waiting.keys _ _ c.in-Some.name
    c.loop-name.invariant c.in-Some.ensures c.remove.ensures.keys c.remove-in-Some.ensures.those

pub returns-clause-needed : goal.returns-clause-needed
returns-clause-needed c =
    undoing_back c.args.names c.args.needed.now.keys c.args.waiting.now.keys c.loop-name.left c.loop-name.needed.keys c.loop-name.waiting.keys c.loop-name.invariant (search rules)

pub returns-clause-waiting : goal.returns-clause-waiting
returns-clause-waiting c =
    undoing_fewer c.args.names c.args.needed.now.keys c.args.waiting.now.keys c.loop-name.left c.loop-name.needed.keys c.loop-name.waiting.keys c.loop-name.invariant (search rules)
