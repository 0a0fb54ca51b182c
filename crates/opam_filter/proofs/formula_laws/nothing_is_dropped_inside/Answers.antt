use Rattle.opam_filter.proofs.WholeLaws.{nothing_is_dropped_inside}
use Rattle.opam_filter.proofs.formula_laws.nothing_is_dropped_inside.Goals as goal

pub returns : goal.returns
returns c = nothing_is_dropped_inside
