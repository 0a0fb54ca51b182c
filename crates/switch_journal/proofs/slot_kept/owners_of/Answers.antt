use Rattle.std.proofs.Common.{◌∙◌, ap}
use Rattle.opam_names.specs.ByteOrders.{put_by}
use Rattle.opam_names.specs.declared.packages.Pkg.{Pkg}
use Rattle.owner_map.specs.Owning.{owned_by, path_of}
use Rattle.switch_journal.proofs.Slotting.{slotting_free, slotting_more}
use Rattle.switch_journal.proofs.slot_kept.owners_of.Goals as goal

pub add-requires-clause-free : goal.add-requires-clause-free
add-requires-clause-free c =
    slotting_free c.args.entries.now c.args.owned c.loop-one.one-iterator.rest.items c.next.new.self.rest.items c.in-Some.one c.loop-one.owners c.in-Some.ensures.steps.0 c.loop-one.invariant

pub loop-one-preserved : goal.loop-one-preserved
loop-one-preserved c =
    slotting_more c.args.entries.now c.args.owned c.loop-one.one-iterator.rest.items c.next.new.self.rest.items c.in-Some.one c.loop-one.owners c.in-Some.ensures.steps.0 c.loop-one.invariant
    c.index-entries-owner.result c.add.new.self c.index-entries-owner.is
    (c.add.ensures.owned ∙ ap (λ (pkg : Pkg). put_by path_of (owned_by c.in-Some.one.path pkg) c.loop-one.owners.owned) c.in_ok-copy.ensures)
    c.add.ensures.spare
