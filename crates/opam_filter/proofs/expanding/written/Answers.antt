use Rattle.std.proofs.Common.{ap, lit<, ◌∙◌}
use Rattle.std.proofs.lemmas.Str.Pattern.{split_once_first}
use Rattle.opam_filter.specs.Texts.{chosen}
use Rattle.opam_filter.specs.Truths.{is_yes}
use Rattle.opam_filter.proofs.Choices.{written_choice, written_value}
use Rattle.opam_filter.proofs.expanding.written.Goals as goal

pub returns-in-Some : goal.returns-in-Some
returns-in-Some c =
    let first = split_once_first 63 c.args.inside.now c.split_once.result c.split_once.ensures.cases (lit< tt) in
    let parts = rw c.in-Some.is at first in
    c.chosen.ensures ∙ ap (λ yes. chosen yes c.in-Some.choice.now) (c.is_yes.ensures ∙ ap is_yes c.truth_of.ensures)
    ∙ written_choice c.args.value.now c.args.inside.now c.in-Some.choice.now parts.0 parts.2

pub returns-in-None : goal.returns-in-None
returns-in-None c =
    let first = split_once_first 63 c.args.inside.now c.split_once.result c.split_once.ensures.cases (lit< tt) in
    let whole = rw c.in-None.is at first in
    c.shown.ensures ∙ written_value c.args.value.now c.args.inside.now whole
