use Rattle.std.proofs.Common.{IfOk, ◌≡◌, lit<, subst}
use Rattle.std.proofs.lemmas.Str.Pattern.{split_once_first}
use Rattle.syntax_trees.specs.declared.tree.Var.{Var}
use Rattle.opam_filter.proofs.Cuts.{without_colon}
use Rattle.opam_filter.proofs.texts.variable_of.Goals as goal

pub returns-in-None : goal.returns-in-None
returns-in-None c =
    let first = split_once_first 58 c.args.text.now c.split_once.result c.split_once.ensures.cases (lit< tt) in
    let whole = rw c.in-None.is at first in
    subst (λ (one : Var). IfOk c.plain.result (λ variable. variable ≡ one)) (without_colon c.args.text.now whole) c.plain.ensures
