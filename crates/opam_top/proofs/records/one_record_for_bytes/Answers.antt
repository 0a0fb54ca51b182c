use Rattle.opam_top.proofs.OneRecord.{one_record}
use Rattle.opam_top.proofs.records.one_record_for_bytes.Goals as goal

pub returns : goal.returns
returns c = one_record
