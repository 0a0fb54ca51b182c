use Rattle.syntax_trees.proofs.LexerRead.{word_is_text}
use Rattle.syntax_trees.proofs.lexer.word_step.Goals as goal

pub word_token-requires : goal.word_token-requires
word_token-requires c = word_is_text c.args.bytes.now c.word_len-len.result c.word_len-len.ensures.word
