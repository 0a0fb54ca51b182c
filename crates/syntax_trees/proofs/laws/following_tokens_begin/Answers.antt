use Rattle.syntax_trees.proofs.Ended.{begins_file}
use Rattle.syntax_trees.proofs.laws.following_tokens_begin.Goals as goal

pub returns : goal.returns
returns c = begins_file
