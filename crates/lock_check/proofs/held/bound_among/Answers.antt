use Rattle.lock_check.specs.Chased.{bound_among, has_pkg}
use Rattle.lock_check.proofs.Ordered.{filter_parts, parts_on}
use Rattle.lock_check.proofs.held.bound_among.Goals as goal

pub loop-name-preserved : goal.loop-name-preserved
loop-name-preserved c =
    parts_on (bound_among c.args.bound.now) (filter_parts (has_pkg c.args.bound.now)) c.loop-name.found c.note_bound.new.found _ c.args.names.now c.loop-name.name-index
    c.name-item.result c.loop-name-test.true c.name-item.is c.in_ok-note_bound.ensures c.loop-name.invariant
