use Rattle.std.proofs.Common.{subst}
use Rattle.opam_queries.specs.Asking.{OrMemory}
use Rattle.opam_queries.specs.Replies.{nothing_found}
use Rattle.opam_queries.proofs.Asked.{asks_exact, asks_name}
use Rattle.opam_queries.proofs.showing.show_absent.Goals as goal

pub returns-in-Name : goal.returns-in-Name
returns-in-Name g c = asks_name c.args.globals.now c.args.repo.now c.in-Name.name c.args.what.now c.not_found.result c.args.host.now c.in-Name.is
    (subst (λ word. OrMemory (nothing_found word) c.not_found.result) c.as_str.ensures.value c.not_found.ensures)

pub returns-in-Exact : goal.returns-in-Exact
returns-in-Exact g c = asks_exact c.args.globals.now c.args.repo.now c.in-Exact.pkg c.args.what.now c.show_available.result c.in-Exact.is c.show_available.ensures
