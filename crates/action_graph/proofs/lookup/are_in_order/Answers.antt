use Rattle.std.proofs.Common.{rules}
use Rattle.std.proofs.lemmas.Fn.{always_returns_same}
use Rattle.opam_names.specs.ByteOrders.{precedes}
use Rattle.opam_names.proofs.ByteSearch.{rises_is}
use Rattle.opam_package.specs.declared.package.Member.{Member}
use Rattle.action_graph.specs.Leaving.{name_of}
use Rattle.action_graph.proofs.lookup.are_in_order.Goals as goal

pub returns : goal.returns
returns c =
    rises_is name_of c.args.members.now c.is_sorted_by.result
    (c.is_sorted_by.ensures.cases (λ (x y : Member). precedes (name_of x) (name_of y)) (always_returns_same _ _ _ (λ a r q k. search rules)))
