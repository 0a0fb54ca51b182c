use Rattle.std.proofs.Common.{rules}
use Rattle.std.proofs.lemmas.List.Sorted.{IsPartitionPoint-from_clause}
use Rattle.opam_names.proofs.ByteSearch.{front_is}
use Rattle.owner_map.specs.Chunks.{ends_before}
use Rattle.owner_map.proofs.Chunking.{parted}
use Rattle.owner_map.proofs.chunks.chunk_from.Goals as goal

pub returns-clause-value : goal.returns-clause-value
returns-clause-value g c =
    let key = g.T.ByteKey.key in
    let point = IsPartitionPoint-from_clause (ends_before key c.args.text.now) _ _ c.partition_point.ensures.partitioned (parted key c.args.text.now c.args.used c.args.chunks.now c.requires.shaped c.requires.rises) (λ a r q k. search rules) in
    front_is (ends_before key c.args.text.now) c.args.chunks.now c.partition_point.result c.partition_point.ensures.bound point.0 point.1
