use Rattle.std.proofs.Common.{◌≡◌, ◌≤◌, drop, map, nat_le}
use Rattle.switch_journal.specs.Applying.{text_total}
use Rattle.switch_journal.specs.Contents.{entry_of}
use Rattle.switch_journal.specs.declared.request.TheConstants.{TEXT_LIMIT}
use Rattle.switch_journal.proofs.conditions.are_standing_short.Given as goal

abbrev pub invariant-loop-s : goal.invariant-loop-s
invariant-loop-s l = record {
  same : nat_le (text_total (map entry_of l.standing)) TEXT_LIMIT ≡ nat_le (text_total (map entry_of (drop l.s-index l.standing))) l.room;
  small : l.room ≤ TEXT_LIMIT;
}
