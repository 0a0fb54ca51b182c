use Rattle.opam_filter.proofs.TextLaws.{texts_are_cut}
use Rattle.opam_filter.proofs.value_laws.texts_are_cut.Goals as goal

pub returns : goal.returns
returns c = texts_are_cut
