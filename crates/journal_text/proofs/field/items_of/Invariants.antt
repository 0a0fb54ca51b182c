use Rattle.std.proofs.Common.{◌≡◌, ◌-◌}
use Rattle.journal_text.specs.Reading.{items_at}
use Rattle.journal_text.proofs.Loop.{with_front}
use Rattle.journal_text.proofs.field.items_of.Given as goal

abbrev pub invariant-loop : goal.invariant-loop
invariant-loop g l = with_front l.items (items_at g.T.Field.at (l.count - l.counter) l.rest) ≡ items_at g.T.Field.at l.count l.text
