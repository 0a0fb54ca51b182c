use Rattle.opam_filter.proofs.AskedLaws.{names_rise}
use Rattle.opam_filter.proofs.value_laws.names_rise.Goals as goal

pub returns : goal.returns
returns c = names_rise c.texts_rise.ensures
