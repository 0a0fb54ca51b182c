use Rattle.std.proofs.Common.{◌∙◌, sym}
use Rattle.opam_top.proofs.Spelled.{read_are_items, read_are_few}
use Rattle.opam_top.proofs.deciding.items_of_text.Goals as goal

pub returns-in-Some-clause-good : goal.returns-in-Some-clause-good
returns-in-Some-clause-good c = read_are_items c.args.text.now c.in-Some.items (sym c.in_ok-items.ensures ∙ c.in-Some.is)

pub returns-in-Some-clause-few : goal.returns-in-Some-clause-few
returns-in-Some-clause-few c = read_are_few c.args.text.now c.in-Some.items (sym c.in_ok-items.ensures ∙ c.in-Some.is)
