use Rattle.std.proofs.Common.{◌≡◌, List, insert, sym, ◌∙◌, ap, subst}
use Rattle.opam_names.specs.ByteOrders.{RisesBy, count_before}
use Rattle.opam_names.specs.ByteOrderLaws.{NeverFallsBy-from_rises}
use Rattle.owner_map.proofs.Aparts.{put_at}
use Rattle.owner_map.proofs.chunk.Chunk.put.Goals as goal

pub count_before_bytes-place-requires : goal.count_before_bytes-place-requires
count_before_bytes-place-requires g c =
    let own : c.as_slice.result.now ≡ c.args.self.now = c.as_slice.ensures.value ∙ c.self.view_is in
    let P : List g.row.T.Denot → Type 0 = λ xs. RisesBy g.T.ByteKey.key xs in
    NeverFallsBy-from_rises g.T.ByteKey.key c.as_slice.result.now (subst P (sym own) c.requires.rises)

pub returns : goal.returns
returns g c =
    let key = g.T.ByteKey.key in
    let old = c.args.self.now in
    let own : c.as_slice.result.now ≡ old = c.as_slice.ensures.value ∙ c.self.view_is in
    c.insert.ensures
    ∙ ap (λ n. insert old n c.args.item) (c.count_before_bytes-place.ensures.value ∙ ap (λ k. count_before key k c.as_slice.result.now) c.key.ensures ∙ ap (λ xs. count_before key (key c.args.item) xs) own)
    ∙ put_at key c.args.item old
