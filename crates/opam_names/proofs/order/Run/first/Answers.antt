use Rattle.opam_names.specs.Names.{is_digit}
use Rattle.opam_names.proofs.Orders.{front_all}
use Rattle.opam_names.proofs.order.Run.first.Goals as goal

pub returns-clause-digits : goal.returns-clause-digits
returns-clause-digits c = front_all is_digit c.split_at-2.result.0.now c.split_at.result.1.now c.digits_len.result c.split_at-2.ensures.front c.digits_len.ensures.value
