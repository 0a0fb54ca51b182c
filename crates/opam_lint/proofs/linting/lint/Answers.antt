use Rattle.opam_lint.proofs.LintedTexts.{file_linted, syntax_linted}
use Rattle.opam_lint.proofs.linting.lint.Goals as goal

pub returns-in-Ok : goal.returns-in-Ok
returns-in-Ok c = record {
  found = file_linted c.args.bytes.now c.in-Ok.file (λ all. all.items) c.lint_file.result c.in-Ok.ensures.ok c.lint_file.ensures;
}

pub returns-in-Err : goal.returns-in-Err
returns-in-Err c = record {
  found = syntax_linted c.args.bytes.now c.in-Err.fault (λ all. all.items) c.lint_syntax.result c.in-Err.ensures.err c.lint_syntax.ensures.known c.lint_syntax.ensures.value;
}
