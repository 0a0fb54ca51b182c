use Rattle.std.proofs.Common.{◌≡◌, ◌≤◌, drop, nat_le}
use Rattle.switch_journal.specs.Applying.{text_total}
use Rattle.switch_journal.specs.declared.request.TheConstants.{TEXT_LIMIT}
use Rattle.rows.proofs.pieces.are_texts_short.Given as goal

abbrev pub invariant-loop-entry : goal.invariant-loop-entry
invariant-loop-entry l = record {
  same : nat_le (text_total l.entries) TEXT_LIMIT ≡ nat_le (text_total (drop l.entry-index l.entries)) l.room;
  small : l.room ≤ TEXT_LIMIT;
}
