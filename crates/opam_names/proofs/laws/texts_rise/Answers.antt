use Rattle.opam_names.proofs.RisingLists.{each_once_members, each_once_rises}
use Rattle.opam_names.proofs.laws.texts_rise.Goals as goal

pub returns : goal.returns
returns c = record { rising = each_once_rises; members = each_once_members }
