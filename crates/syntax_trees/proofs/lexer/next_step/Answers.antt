use Rattle.syntax_trees.proofs.LexerRead.{is_first, is_first_ok}
use Rattle.syntax_trees.proofs.lexer.next_step.Goals as goal

pub returns-then-is_word_byte-clause-found : goal.returns-then-is_word_byte-clause-found
returns-then-is_word_byte-clause-found c = is_first_ok c.args.bytes.now _ c.word_step.ensures.found

pub returns-clause-found : goal.returns-clause-found
returns-clause-found c = is_first c.args.bytes.now _ c.plain_step.ensures.found
