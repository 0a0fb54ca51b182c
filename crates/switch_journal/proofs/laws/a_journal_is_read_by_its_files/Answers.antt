use Rattle.switch_journal.proofs.Read.{holds_inside, slots_inside}
use Rattle.switch_journal.proofs.laws.a_journal_is_read_by_its_files.Goals as goal

pub returns : goal.returns
returns c = λ tree image same. (λ first texts holds. holds_inside first texts tree image same holds, slots_inside tree image same)
