use Rattle.switch_journal.proofs.SlotOwners.{owner_there, paths_step}
use Rattle.switch_journal.proofs.slot_owners.push_paths.Goals as goal

pub place_of-place-requires : goal.place_of-place-requires
place_of-place-requires c = owner_there c.args.given.now c.args.owners.now.owned c.loop-i.i c.at.result.0.now c.at.result.1.now c.at.ensures c.requires.owners

pub loop-i-preserved : goal.loop-i-preserved
loop-i-preserved c =
    paths_step c.args.given.now c.args.owners.now.owned c.loop-i.i c.at.result.0.now c.at.result.1.now c.place_of-place.result c.args.out.now.items c.loop-i.out.items c.push_slot_path.new.out.items c.at.ensures c.loop-i.invariant c.place_of-place.ensures c.in_ok-push_slot_path.ensures.valid
    c.in_ok-push_slot_path.ensures.spelled
