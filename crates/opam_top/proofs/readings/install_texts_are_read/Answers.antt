use Rattle.opam_top.proofs.Spelled.{install_texts_read}
use Rattle.opam_top.proofs.readings.install_texts_are_read.Goals as goal

pub returns : goal.returns
returns c = install_texts_read
