use Rattle.std.proofs.Common.{rules}
use Rattle.std.proofs.lemmas.List.Sorted.{IsPartitionPoint-from_clause}
use Rattle.opam_names.specs.ByteOrders.{precedes}
use Rattle.opam_names.proofs.ByteSearch.{front_is, parted}
use Rattle.opam_package.specs.declared.package.Member.{Member}
use Rattle.action_graph.specs.Leaving.{name_of}
use Rattle.action_graph.proofs.lookup.count_before.Goals as goal

pub returns-clause-value : goal.returns-clause-value
returns-clause-value c =
    let point = IsPartitionPoint-from_clause (λ (x : Member). precedes (name_of x) c.args.name.now) _ _ c.partition_point.ensures.partitioned (parted name_of c.args.name.now c.args.members.now c.requires) (λ a r q k. search rules) in
    front_is (λ (x : Member). precedes (name_of x) c.args.name.now) c.args.members.now c.partition_point.result c.partition_point.ensures.bound point.0 point.1
