use Rattle.switch_journal.proofs.Exits.{ok_both}
use Rattle.switch_journal.proofs.Walked.{entry_steps}
use Rattle.switch_journal.proofs.walk.apply_text.Goals as goal

pub returns-in-Some-clause-told : goal.returns-in-Some-clause-told
returns-in-Some-clause-told c =
    let spells = rw c.in-Some.is at c.in_ok-decode_as.ensures.some in
    ok_both c.apply_entry.result c.apply_entry.ensures.said c.apply_entry.ensures.work
    (λ found said work. entry_steps c.one_record_for_bytes.ensures c.args.old c.args.number c.args.kept c.args.bytes c.in-Some.entry found spells said work)
