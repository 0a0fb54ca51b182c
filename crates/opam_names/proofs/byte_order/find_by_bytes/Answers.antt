use Rattle.std.proofs.Common.{sym, ap, ◌∙◌, arith}
use Rattle.std.specs.Prelude.{bytes_eq}
use Rattle.opam_names.proofs.ByteSearch.{find_found, find_other, find_past}
use Rattle.opam_names.proofs.byte_order.find_by_bytes.Goals as goal

pub returns-then-place-items : goal.returns-then-place-items
returns-then-place-items g c =
    find_past g.T.ByteKey.key c.args.key.now c.args.items.now c.count_before_bytes-place.result c.requires c.count_before_bytes-place.ensures.value c.if-place-items.true

pub returns-then-eq : goal.returns-then-eq
returns-then-eq g c =
    find_found g.T.ByteKey.key c.args.key.now c.args.items.now c.count_before_bytes-place.result c.index-items-place.result c.requires c.count_before_bytes-place.ensures.value (omega arith)
    c.index-items-place.is (ap (λ a. bytes_eq a c.args.key.now) (sym c.key.ensures) ∙ (sym c.eq.ensures ∙ c.if-eq.true))

pub returns-else-eq : goal.returns-else-eq
returns-else-eq g c =
    find_other g.T.ByteKey.key c.args.key.now c.args.items.now c.count_before_bytes-place.result c.index-items-place.result c.requires c.count_before_bytes-place.ensures.value (omega arith)
    c.index-items-place.is (ap (λ a. bytes_eq a c.args.key.now) (sym c.key.ensures) ∙ (sym c.eq.ensures ∙ c.if-eq.false))
