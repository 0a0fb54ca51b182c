use Rattle.std.proofs.Common.{◌∙◌}
use Rattle.lock_check.specs.Targets.{member_name}
use Rattle.lock_check.proofs.Names.{same_test}
use Rattle.lock_check.proofs.targets.is_named.Goals as goal

pub returns : goal.returns
returns c = c.contains.ensures ∙ same_test (member_name c.args.member.now) c.args.named.now.keys
