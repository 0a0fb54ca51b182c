use Rattle.std.proofs.Common.{lit<, ◌∙◌}
use Rattle.std.proofs.lemmas.Iterator.Consumers.{map_from_collect}
use Rattle.std.proofs.lemmas.Iterator.Splits.{YieldsList-from_str_split}
use Rattle.opam_filter.proofs.PlusParts.{split_at_plus}
use Rattle.opam_filter.proofs.parts.scope_parts.Goals as goal

pub returns : goal.returns
returns c =
    let pieces = YieldsList-from_str_split 43 c.args.scope.now (lit< tt) c.split.ensures.text c.split.ensures.has_more c.split.ensures.pattern in
    let collected = map_from_collect c.collect.result c.collect.ensures.ran pieces in
    (rw c.in_ok-collect.was at collected) ∙ split_at_plus c.args.scope.now
