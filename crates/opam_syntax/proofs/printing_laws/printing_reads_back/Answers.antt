use Rattle.opam_syntax.proofs.PrintLaw.{printed_is_spelled, printed_is_read_back}
use Rattle.opam_syntax.proofs.printing_laws.printing_reads_back.Goals as goal

pub returns : goal.returns
returns c = record { spelled = printed_is_spelled; read_back = printed_is_read_back }
