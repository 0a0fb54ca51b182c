use Rattle.opam_top.proofs.Wholes.{each_decided}
use Rattle.opam_top.proofs.laws.each_is_decided.Goals as goal

pub returns : goal.returns
returns c = each_decided
