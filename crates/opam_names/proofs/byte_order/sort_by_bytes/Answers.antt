use Rattle.std.proofs.Common.{rules}
use Rattle.opam_names.proofs.ByteSort.{sorted_is}
use Rattle.opam_names.proofs.byte_order.sort_by_bytes.Goals as goal

pub returns-clause-ok : goal.returns-clause-ok
returns-clause-ok g c =
    sorted_is g.T.ByteKey.key c.args.items.now.items c.sort_by.new.self.items c.in_ok-sort_by.ensures.sorted c.in_ok-sort_by.ensures.stable (λ a r q k. search rules)
