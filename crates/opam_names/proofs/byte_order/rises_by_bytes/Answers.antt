use Rattle.std.proofs.Common.{rules}
use Rattle.std.proofs.lemmas.Fn.{always_returns_same}
use Rattle.opam_names.specs.ByteOrders.{precedes}
use Rattle.opam_names.proofs.ByteSearch.{rises_is}
use Rattle.opam_names.proofs.byte_order.rises_by_bytes.Goals as goal

pub returns : goal.returns
returns g c =
    rises_is g.T.ByteKey.key c.args.items.now c.is_sorted_by.result
    (c.is_sorted_by.ensures.cases (λ x y. precedes (g.T.ByteKey.key x) (g.T.ByteKey.key y)) (always_returns_same _ _ _ (λ a r q k. search rules)))
