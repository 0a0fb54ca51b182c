use Rattle.std.proofs.Common.{sym, ap, ◌∙◌}
use Rattle.std.specs.FinMap as map
use Rattle.opam_filter.proofs.Maps.{get_variable}
use Rattle.opam_filter.proofs.vars.Vars.value.Goals as goal

pub returns : goal.returns
returns c = c.get.ensures.value ∙ sym (get_variable c.self.inside.table.entries c.args.var.now) ∙ ap (λ m. map.get m c.args.var.now) c.self.view_is
