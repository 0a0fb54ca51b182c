use Rattle.opam_filter.proofs.DroppedLaws.{dropped_holds}
use Rattle.opam_filter.proofs.formula_laws.dropped_holds.Goals as goal

pub returns : goal.returns
returns c = dropped_holds
