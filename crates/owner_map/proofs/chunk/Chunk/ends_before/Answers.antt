use Rattle.std.proofs.Common.{◌≡◌, ◌-◌, length, sym, ◌∙◌, ap, is_lt}
use Rattle.std.specs.Prelude.{slice_get}
use Rattle.opam_names.specs.ByteOrders.{byte_order}
use Rattle.owner_map.proofs.Chunking.{last_is}
use Rattle.owner_map.proofs.chunk.Chunk.ends_before.Goals as goal

pub returns-in-Some : goal.returns-in-Some
returns-in-Some g c =
    let own : c.as_slice.result.now ≡ c.args.self.now = c.as_slice.ensures.value ∙ c.self.view_is in
    c.is_lt.ensures ∙ ap is_lt c.cmp.ensures ∙ ap (λ k. is_lt (byte_order k c.args.text.now)) c.key.ensures
    ∙ sym (last_is g.T.ByteKey.key c.args.text.now c.args.self.now c.in-Some.item.now (ap (λ xs. slice_get xs (length xs - 1)) (sym own) ∙ sym c.in-Some.ensures.value))
