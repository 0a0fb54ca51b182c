use Rattle.opam_filter.proofs.Cuts.{cut_at_match}
use Rattle.opam_filter.proofs.texts.opened.Goals as goal

pub returns : goal.returns
returns c = cut_at_match 37 123 c.args.text.now c.split_once.result c.split_once.ensures.cases
