use Rattle.std.proofs.Common.{sym, ◌∙◌}
use Rattle.lock_check.proofs.Among.{removed_those}
use Rattle.lock_check.proofs.Names.{same_test}
use Rattle.lock_check.proofs.growth.remove.Goals as goal

pub returns-clause-those : goal.returns-clause-those
returns-clause-those c = λ other.
    sym (same_test other c.remove.new.self.keys) ∙ c.remove.ensures.updates.0 other ∙ removed_those c.args.name.now other c.args.names.now.keys
