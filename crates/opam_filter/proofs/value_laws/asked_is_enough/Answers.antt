use Rattle.opam_filter.proofs.AskedLaws.{asked_is_enough}
use Rattle.opam_filter.proofs.value_laws.asked_is_enough.Goals as goal

pub returns : goal.returns
returns c = asked_is_enough c.texts_rise.ensures
