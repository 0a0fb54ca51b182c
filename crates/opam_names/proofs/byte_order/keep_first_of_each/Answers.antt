use Rattle.std.proofs.Common.{rules}
use Rattle.std.specs.Prelude.{bytes_eq}
use Rattle.std.proofs.lemmas.Fn.{dedup_same}
use Rattle.opam_names.proofs.byte_order.keep_first_of_each.Goals as goal

pub returns : goal.returns
returns g c =
    dedup_same _ (λ x y. bytes_eq (g.T.ByteKey.key x) (g.T.ByteKey.key y)) _ (λ x y b q x' y' k. search rules) c.args.items.now.items c.dedup_by.new.self.items c.dedup_by.ensures.filtered
