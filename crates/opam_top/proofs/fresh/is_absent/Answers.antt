use Rattle.std.proofs.Common.{◌∙◌}
use Rattle.opam_top.proofs.Keys.{looked}
use Rattle.opam_top.proofs.fresh.is_absent.Goals as goal

pub returns-in-Ok-clause-told : goal.returns-in-Ok-clause-told
returns-in-Ok-clause-told g c = λ s told. c.is_nothing.ensures ∙ looked s.files c.args.path.now c.in-Ok.look (c.in-Ok.ensures.look s told)
