use Rattle.syntax_trees.proofs.Ended.{file_tokens_follow}
use Rattle.syntax_trees.proofs.laws.file_tokens_follow.Goals as goal

pub returns : goal.returns
returns c = file_tokens_follow
