use Rattle.opam_queries.proofs.Asked.{asks_available}
use Rattle.opam_queries.proofs.showing.show_available.Goals as goal

pub returns : goal.returns
returns g c = asks_available c.args.globals.now c.args.repo.now c.args.pkg.now c.find-found.result c.available.result c.find-found.ensures.reads c.find-found.ensures.cause c.find-found.ensures.told c.available.ensures
