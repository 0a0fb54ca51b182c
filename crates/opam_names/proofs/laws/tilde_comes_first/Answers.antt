use Rattle.opam_names.proofs.OrderLaws.{tilde_comes_first}
use Rattle.opam_names.proofs.laws.tilde_comes_first.Goals as goal

pub returns : goal.returns
returns c = tilde_comes_first
