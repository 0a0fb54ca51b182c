use Rattle.std.proofs.Common.{◌∙◌}
use Rattle.build_env.proofs.Steps.{one_export}
use Rattle.build_env.proofs.environments.set_exports.Goals as goal

pub loop-export-preserved : goal.loop-export-preserved
loop-export-preserved c =
    one_export c.args.facts.now c.args.named.now.entries c.loop-export.env.entries c.set_export.new.env.entries c.args.exports.now
    c.loop-export.export-index c.export-item.result c.loop-export-test.true c.export-item.is c.in_ok-set_export.ensures
    ∙ c.loop-export.invariant
