use Rattle.command_words.proofs.JobTexts.{many_digits}
use Rattle.command_words.proofs.values.jobs_of.Goals as goal

pub returns-in-empty-2-clause-none : goal.returns-in-empty-2-clause-none
returns-in-empty-2-clause-none c = many_digits c.args.text.now c.in-empty.len_at_least
