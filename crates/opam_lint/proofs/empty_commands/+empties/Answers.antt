use Rattle.std.proofs.Common.{rules}
use Rattle.opam_lint.proofs.EmptyLists.{empties_split}
use Rattle.opam_lint.proofs.empty_commands.+empties.Goals as goal

pub add_empties-returns : goal.add_empties-returns
add_empties-returns t c = search (rules, empties_split)
