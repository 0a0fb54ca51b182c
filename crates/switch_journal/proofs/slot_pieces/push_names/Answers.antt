use Rattle.switch_journal.proofs.SlotPieced.{names_step, names_valid}
use Rattle.switch_journal.proofs.slot_pieces.push_names.Goals as goal

pub loop-name-preserved : goal.loop-name-preserved
loop-name-preserved c = record {
  spelled = names_step c.args.names.now c.loop-name.name-index c.name-item.result c.args.out.now.items c.loop-name.out.items c.push_slot_root.new.out.items c.loop-name-test.true c.name-item.is c.loop-name.invariant.spelled c.in_ok-push_slot_root.ensures.spelled;
  valid = names_valid c.args.names.now c.loop-name.name-index c.name-item.result c.loop-name-test.true c.name-item.is c.loop-name.invariant.valid c.in_ok-push_slot_root.ensures.valid;
}
