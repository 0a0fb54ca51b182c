use Rattle.std.proofs.Common.{◌∙◌}
use Rattle.lock_check.specs.Targets.{member_name}
use Rattle.lock_check.proofs.Among.{turned_any}
use Rattle.lock_check.proofs.violations.is_fresh.Goals as goal

pub returns : goal.returns
returns c = c.has_name.ensures ∙ turned_any (member_name c.args.member.now) c.args.fresh.now
