use Rattle.opam_names.proofs.RisingLists.{chosen_rise, earlier_precedes, members_give, part_rises}
use Rattle.opam_names.proofs.laws.rising_is_kept.Goals as goal

pub returns : goal.returns
returns g c = record {
  part = part_rises g.T.ByteKey.key;
  chosen = chosen_rise g.T.ByteKey.key;
  earlier = earlier_precedes g.T.ByteKey.key;
  members = members_give g.T.ByteKey.key;
}
