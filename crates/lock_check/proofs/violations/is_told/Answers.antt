use Rattle.std.proofs.Common.{◌∙◌}
use Rattle.lock_check.proofs.Names.{same_test}
use Rattle.lock_check.proofs.violations.is_told.Goals as goal

pub returns : goal.returns
returns c = c.contains.ensures ∙ same_test c.args.class.now c.args.told.now.keys
