use Rattle.std.proofs.Common.{◌∙◌, sym}
use Rattle.switch_journal.proofs.Formed.{record_formed}
use Rattle.switch_journal.proofs.walk.apply_entry.Goals as goal

pub returns-in_ok-work-in-Some-clause-formed : goal.returns-in_ok-work-in-Some-clause-formed
returns-in_ok-work-in-Some-clause-formed c =
    record_formed c.args.old c.args.number c.args.entry c.args.kept c.in-Some.kept c.requires.ordered (sym c.in_ok-after.ensures ∙ c.in-Some.is) c.requires.formed
