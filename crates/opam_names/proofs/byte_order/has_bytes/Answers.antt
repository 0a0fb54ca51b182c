use Rattle.std.proofs.Common.{ap, ◌∙◌}
use Rattle.std.specs.Option.{is_some}
use Rattle.opam_names.proofs.ByteSearch.{place_says}
use Rattle.opam_names.proofs.byte_order.has_bytes.Goals as goal

pub returns : goal.returns
returns g c = c.is_some.ensures ∙ (ap is_some c.find_by_bytes.ensures ∙ place_says g.T.ByteKey.key c.args.key.now c.args.items.now)
