use Rattle.opam_filter.proofs.MonotoneLaws.{holding_is_monotone}
use Rattle.opam_filter.proofs.formula_laws.holding_is_monotone.Goals as goal

pub returns : goal.returns
returns c = holding_is_monotone
