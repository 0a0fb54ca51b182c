use Rattle.std.proofs.Common.{subst, sym}
use Rattle.opam_lint.specs.Linted.{IsLinted}
use Rattle.opam_queries.proofs.Asked.{lints_within}
use Rattle.opam_queries.proofs.linting.lint_within.Goals as goal

pub returns : goal.returns
returns c =
    let found = subst (IsLinted c.args.bytes.now) (sym c.as_slice.ensures.value) c.in_ok-findings.ensures.found in
    lints_within c.args.file.now c.args.bytes.now c.as_slice.result.now c.lint_answer.result c.requires found c.lint_answer.ensures
