use Rattle.std.proofs.Common.{◌<◌, ◌^◌, ◌∙◌, ℕ, List, ap, length, subst, sym}
use Rattle.switch_journal.specs.SlotPieces.{with_entry}
use Rattle.rows.proofs.GivenPieces.{entry_fits, entry_short, entry_step}
use Rattle.rows.proofs.pieces.give_entries.Goals as goal

pub entry-requires-clause-more : goal.entry-requires-clause-more
entry-requires-clause-more c = entry_fits c.args.entries.now c.loop-entry.entry-index c.args.slot.now c.loop-entry.slot c.loop-entry-test.true c.requires.more c.loop-entry.invariant

pub entry-requires-clause-short : goal.entry-requires-clause-short
entry-requires-clause-short c =
    subst (λ (opam : List ℕ). length opam < 2 ^ 32) (sym c.as_slice.ensures)
    (entry_short c.args.entries.now c.loop-entry.entry-index c.entry-item.result c.loop-entry-test.true c.entry-item.is c.requires.short)

pub loop-entry-preserved : goal.loop-entry-preserved
loop-entry-preserved c =
    entry_step c.args.entries.now c.loop-entry.entry-index c.entry-item.result c.args.slot.now c.loop-entry.slot c.entry.new.self c.loop-entry-test.true c.entry-item.is c.loop-entry.invariant
    (c.in_ok-entry.ensures.ok ∙ ap (λ (opam : List ℕ). with_entry c.entry-item.result.pkg opam c.loop-entry.slot) c.as_slice.ensures)
