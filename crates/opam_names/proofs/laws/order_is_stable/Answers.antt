use Rattle.opam_names.proofs.ByteOrders.{order_only, order_permutes, order_rises, order_stable, order_up}
use Rattle.opam_names.proofs.laws.order_is_stable.Goals as goal

pub returns : goal.returns
returns g c = record {
  elements = order_permutes g.T.ByteKey.key;
  stable = order_stable g.T.ByteKey.key;
  ordered = order_up g.T.ByteKey.key;
  rising = order_rises g.T.ByteKey.key;
  only = order_only g.T.ByteKey.key;
}
