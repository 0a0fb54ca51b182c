use Rattle.std.proofs.Common.{◌∙◌}
use Rattle.switch_state.proofs.Adding.{adding_first, adding_free, adding_last, adding_more, adding_spare}
use Rattle.switch_state.proofs.taking.own_all.Goals as goal

pub loop-entry-init : goal.loop-entry-init
loop-entry-init c = adding_first c.args.owners.now c.args.owned c.into_iter-entry-iterator.result.rest.items (c.into_iter-entry-iterator.ensures.into_iter_gives.0 ∙ c.into_vec-entry-items.ensures) c.requires.can c.requires.room

pub add-requires-clause-spare : goal.add-requires-clause-spare
add-requires-clause-spare c = adding_spare c.args.owners.now.owned c.args.owned c.loop-entry.entry-iterator.rest.items c.next.new.self.rest.items c.in-Some.entry c.loop-entry.owners c.in-Some.ensures.steps.0 c.loop-entry.invariant

pub add-requires-clause-free : goal.add-requires-clause-free
add-requires-clause-free c = adding_free c.args.owners.now.owned c.args.owned c.loop-entry.entry-iterator.rest.items c.next.new.self.rest.items c.in-Some.entry c.loop-entry.owners c.in-Some.ensures.steps.0 c.loop-entry.invariant

pub loop-entry-preserved : goal.loop-entry-preserved
loop-entry-preserved c = adding_more c.args.owners.now.owned c.args.owned c.loop-entry.entry-iterator.rest.items c.next.new.self.rest.items c.in-Some.entry c.loop-entry.owners c.add.new.self c.in-Some.ensures.steps.0 c.loop-entry.invariant c.add.ensures.owned c.add.ensures.spare

pub returns : goal.returns
returns c =
    let left = c.loop-entry.entry-iterator.rest in
    adding_last c.args.owners.now.owned c.args.owned left.items c.loop-entry.owners left.len left.ok.0 c.in-None.ensures.steps.0 c.loop-entry.invariant
