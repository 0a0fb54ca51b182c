use Rattle.syntax_trees.proofs.LexerRead.{hash_first}
use Rattle.syntax_trees.proofs.TextsRead.{slice_rest}
use Rattle.syntax_trees.proofs.lexer.plain_step.Goals as goal

pub returns-then-bytes-eq35-clause-found : goal.returns-then-bytes-eq35-clause-found
returns-then-bytes-eq35-clause-found c =
    hash_first c.args.bytes.now _ c.line_len.result c.requires.some c.if-bytes-eq35.true (slice_rest c.args.bytes.now 1) c.line_len.ensures.after
