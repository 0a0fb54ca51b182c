use Rattle.opam_names.proofs.OrderLaws.{leading_zeros_do_not_count}
use Rattle.opam_names.proofs.laws.leading_zeros_do_not_count.Goals as goal

pub returns : goal.returns
returns c = leading_zeros_do_not_count
