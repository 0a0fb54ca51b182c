use Rattle.std.proofs.Common.{◌≡◌, List, [], get_or, sym, ◌∙◌, subst}
use Rattle.std.proofs.lemmas.Option.{get_or_from_slice_get}
use Rattle.opam_names.specs.ByteOrders.{RisesBy}
use Rattle.opam_names.specs.ByteOrderLaws.{NeverFallsBy-from_rises}
use Rattle.owner_map.proofs.sorted_list.count_first.Goals as goal

pub count_before_bytes-requires : goal.count_before_bytes-requires
count_before_bytes-requires g c =
    let key = g.T.ByteKey.key in
    let U : List g.row.T.Denot → Type 0 = λ xs. RisesBy key xs in
    let chunk : get_or c.args.chunks.now 0 [] ≡ c.as_slice.result.now = get_or_from_slice_get c.args.chunks.now 0 c.in-Some.chunk.now [] (sym c.in-Some.ensures.value) ∙ sym c.as_slice.ensures in
    NeverFallsBy-from_rises key c.as_slice.result.now (subst U chunk c.requires)
