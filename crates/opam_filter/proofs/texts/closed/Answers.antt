use Rattle.opam_filter.proofs.Cuts.{cut_at_match}
use Rattle.opam_filter.proofs.texts.closed.Goals as goal

pub returns : goal.returns
returns c = cut_at_match 125 37 c.args.text.now c.split_once.result c.split_once.ensures.cases
