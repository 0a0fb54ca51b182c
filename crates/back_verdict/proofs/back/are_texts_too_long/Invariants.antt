use Rattle.std.proofs.Common.{◌≡◌, ◌≤◌, drop, map, nat_le}
use Rattle.switch_journal.specs.Applying.{text_total}
use Rattle.switch_journal.specs.declared.request.TheConstants.{TEXT_LIMIT}
use Rattle.switch_state.specs.State.{member_entry}
use Rattle.back_verdict.specs.Backs.{with_last}
use Rattle.back_verdict.proofs.back.are_texts_too_long.Given as goal

-- the texts of those that are left have this room
abbrev pub invariant-loop-entry : goal.invariant-loop-entry
invariant-loop-entry l = record {
  same : nat_le (text_total (map member_entry (with_last l.entries l.old))) TEXT_LIMIT ≡ nat_le (text_total (map member_entry (with_last (drop l.entry-index l.entries) l.old))) l.room;
  small : l.room ≤ TEXT_LIMIT;
}
