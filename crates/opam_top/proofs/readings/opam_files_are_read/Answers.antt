use Rattle.opam_top.proofs.OpamFilesRead.{opam_files_read}
use Rattle.opam_top.proofs.readings.opam_files_are_read.Goals as goal

pub returns : goal.returns
returns c = opam_files_read
