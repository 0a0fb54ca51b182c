use Rattle.opam_top.proofs.LocksRead.{locks_read}
use Rattle.opam_top.proofs.readings.locks_are_read.Goals as goal

pub returns : goal.returns
returns c = locks_read
