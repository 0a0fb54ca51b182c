use Rattle.syntax_trees.proofs.LexerRead.{of_text, quoted_found, quoted_none}
use Rattle.syntax_trees.proofs.TextsRead.{slice_rest}
use Rattle.syntax_trees.proofs.lexer.quoted_step.Goals as goal

pub returns-in-Some-clause-found : goal.returns-in-Some-clause-found
returns-in-Some-clause-found c =
    let bytes = c.args.bytes.now in
    let found = of_text _ _ _ _ c.in-Some.is c.in_ok-read.ensures in
    quoted_found bytes _ _ c.args.long c.args.opening _ (slice_rest bytes c.args.opening) c.requires.quote found.1

pub returns-in-None-clause-found : goal.returns-in-None-clause-found
returns-in-None-clause-found c =
    let bytes = c.args.bytes.now in
    quoted_none bytes _ c.args.long c.args.opening (slice_rest bytes c.args.opening) c.requires.quote (of_text _ _ _ _ c.in-None.is c.in_ok-read.ensures)
