use Rattle.std.proofs.Common.{◌≡◌, IfOk, subst, lit<}
use Rattle.std.proofs.lemmas.Str.Pattern.{split_once_first}
use Rattle.command_words.proofs.Splits.{shown_name}
use Rattle.command_words.proofs.values.is_shown.Goals as goal

pub returns-in-None : goal.returns-in-None
returns-in-None c =
    let first = split_once_first 46 c.args.word.now c.split_once.result c.split_once.ensures.cases (lit< tt) in
    let whole = rw c.in-None.is at first in
    subst (λ b. IfOk c.is_name-in-None.result (λ fits. fits ≡ b)) (shown_name c.args.word.now whole) c.is_name-in-None.ensures
