use Rattle.std.proofs.Common.{filter}
use Rattle.lock_check.specs.Found.{is_name_in}
use Rattle.lock_check.proofs.Ordered.{filter_parts, parts_on}
use Rattle.lock_check.proofs.targets.names_in.Goals as goal

pub loop-name-preserved : goal.loop-name-preserved
loop-name-preserved c =
    parts_on (filter (is_name_in c.args.set.now)) (filter_parts (is_name_in c.args.set.now)) c.loop-name.found c.note_found.new.found _ c.args.names.now c.loop-name.name-index
    c.name-item.result c.loop-name-test.true c.name-item.is c.in_ok-note_found.ensures c.loop-name.invariant
