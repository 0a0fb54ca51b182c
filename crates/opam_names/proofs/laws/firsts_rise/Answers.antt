use Rattle.opam_names.proofs.ByteOrders.{first_of_each_keys, first_of_each_rises}
use Rattle.opam_names.proofs.laws.firsts_rise.Goals as goal

pub returns : goal.returns
returns g c = record { rising = first_of_each_rises g.T.ByteKey.key; keys = first_of_each_keys g.T.ByteKey.key }
