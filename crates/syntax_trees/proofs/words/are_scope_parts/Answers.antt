use Rattle.std.proofs.Common.{ap, ◌∙◌}
use Rattle.std.specs.List.{list_all}
use Rattle.syntax_trees.specs.Words.{is_scope_part}
use Rattle.syntax_trees.proofs.WordsRead.{cut_at_plus}
use Rattle.syntax_trees.proofs.words.are_scope_parts.Goals as goal

pub returns : goal.returns
returns c = c.are_cut_parts.ensures ∙ ap (list_all is_scope_part) (cut_at_plus c.args.scope.now)
