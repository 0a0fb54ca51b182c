use Rattle.std.proofs.Common.{rules}
use Rattle.std.proofs.lemmas.List.Sorted.{IsPartitionPoint-from_clause}
use Rattle.opam_names.specs.ByteOrders.{precedes}
use Rattle.opam_names.proofs.ByteSearch.{front_is, parted}
use Rattle.opam_names.proofs.byte_order.count_before_bytes.Goals as goal

pub returns-clause-value : goal.returns-clause-value
returns-clause-value g c =
    let point = IsPartitionPoint-from_clause (λ x. precedes (g.T.ByteKey.key x) c.args.key.now) _ _ c.partition_point.ensures.partitioned (parted g.T.ByteKey.key c.args.key.now c.args.items.now c.requires) (λ a r q k. search rules) in
    front_is (λ x. precedes (g.T.ByteKey.key x) c.args.key.now) c.args.items.now c.partition_point.result c.partition_point.ensures.bound point.0 point.1
