use Rattle.std.proofs.Common.{lit<, ◌∙◌}
use Rattle.std.proofs.lemmas.Iterator.Consumers.{map_from_collect}
use Rattle.std.proofs.lemmas.Iterator.Splits.{YieldsList-from_str_split}
use Rattle.opam_package.proofs.Slashes.{split_at_slash}
use Rattle.opam_package.proofs.relatives.parts_of.Goals as goal

pub returns : goal.returns
returns c =
    let pieces = YieldsList-from_str_split 47 c.args.text.now (lit< tt) c.split.ensures.text c.split.ensures.has_more c.split.ensures.pattern in
    let collected = map_from_collect c.collect.result c.collect.ensures.ran pieces in
    (rw c.in_ok-collect.was at collected) ∙ split_at_slash c.args.text.now
