use Rattle.opam_top.proofs.NameOrders.{names_in_order}
use Rattle.opam_top.proofs.readings.names_are_in_order.Goals as goal

pub returns : goal.returns
returns c = names_in_order
