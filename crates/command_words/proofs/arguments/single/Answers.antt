use Rattle.std.proofs.Common.{ap, sym, ◌∙◌, lit<}
use Rattle.std.proofs.lemmas.Str.Pattern.{split_once_first}
use Rattle.command_words.specs.Arguments.{is_option}
use Rattle.command_words.proofs.Splits.{whole_option}
use Rattle.command_words.proofs.arguments.single.Goals as goal

pub returns-in_ok-from_str-in-None : goal.returns-in_ok-from_str-in-None
returns-in_ok-from_str-in-None c =
    let first = split_once_first 61 c.args.word.now c.split_once.result c.split_once.ensures.cases (lit< tt) in
    let whole = rw c.in-None.is at first in
    let option = sym (ap is_option c.as_bytes.ensures.value) ∙ sym c.is_option.ensures ∙ c.if-not-is_option.false in
    whole_option c.in_ok-from_str-in-None.field-0 c.args.word.now c.in_ok-from_str-in-None.ensures option whole
