use Rattle.std.proofs.Common.{◌<◌, ◌^◌, ◌∙◌, List, ℕ, ap, length, subst, sym}
use Rattle.switch_journal.specs.SlotPieces.{with_entry}
use Rattle.switch_state.proofs.Told.{entry_fits, entry_short, entry_step}
use Rattle.switch_state.proofs.slots.give_entries.Goals as goal

pub entry-requires-clause-more : goal.entry-requires-clause-more
entry-requires-clause-more c = entry_fits c.args.members.now c.loop-member.member-index c.args.slot.now c.loop-member.slot c.loop-member-test.true c.requires.more c.loop-member.invariant

pub entry-requires-clause-short : goal.entry-requires-clause-short
entry-requires-clause-short c = subst (λ (l : List ℕ). length l < 2 ^ 32) (sym c.as_slice.ensures) (entry_short c.args.members.now c.loop-member.member-index c.member-item.result c.loop-member-test.true c.member-item.is c.requires.short)

pub loop-member-preserved : goal.loop-member-preserved
loop-member-preserved c =
    entry_step c.args.members.now c.loop-member.member-index c.member-item.result c.args.slot.now c.loop-member.slot c.entry.new.self c.loop-member-test.true c.member-item.is c.loop-member.invariant (c.in_ok-entry.ensures.ok ∙ ap (λ (l : List ℕ). with_entry c.member-item.result.package.pkg l c.loop-member.slot) c.as_slice.ensures)
