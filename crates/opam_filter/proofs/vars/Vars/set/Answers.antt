use Rattle.std.proofs.Common.{ap, ◌∙◌}
use Rattle.std.specs.FinMap as map
use Rattle.opam_filter.proofs.Maps.{one_set}
use Rattle.opam_filter.proofs.vars.Vars.set.Goals as goal

pub returns-clause-ok : goal.returns-clause-ok
returns-clause-ok c = one_set c.self.inside.table.entries c.insert.new.self.entries c.args.var c.args.value c.in_ok-insert.ensures.updates.0 ∙ ap (λ m. map.insert m c.args.var c.args.value) c.self.view_is
