use Rattle.std.proofs.Common.{◌∙◌}
use Rattle.lock_check.proofs.Names.{same_test}
use Rattle.lock_check.proofs.growth.has.Goals as goal

pub returns : goal.returns
returns c = c.contains.ensures ∙ same_test c.args.name.now c.args.names.now.keys
