use Rattle.opam_syntax.proofs.FileRead.{fault_refused}
use Rattle.opam_syntax.proofs.reading.read_file.Goals as goal

pub returns-in-Err-clause-refused : goal.returns-in-Err-clause-refused
returns-in-Err-clause-refused c = fault_refused c.args.bytes.now c.in-Err.fault c.in-Err.ensures.err
