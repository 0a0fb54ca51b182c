use Rattle.opam_queries.proofs.Asked.{asks_lint}
use Rattle.opam_queries.proofs.linting.lint_file.Goals as goal

pub returns : goal.returns
returns g c = asks_lint c.args.file.now c.read-found.result c.lint_found.result c.read-found.ensures.reads c.read-found.ensures.cause c.read-found.ensures.told c.lint_found.ensures
