use Rattle.std.proofs.Common.{ap, ◌∙◌}
use Rattle.lock_check.specs.Targets.{by_name}
use Rattle.lock_check.proofs.Ordered.{copies_differ, ok_on}
use Rattle.lock_check.proofs.targets.sort_members.Goals as goal

pub sort_named-requires : goal.sort_named-requires
sort_named-requires c = copies_differ c.args.members.now c.in_ok-copies.copies c.in_ok-copies.ensures c.requires

pub returns-clause-sorted : goal.returns-clause-sorted
returns-clause-sorted c = ok_on c.sort_named.result (λ sorted is. is ∙ ap by_name c.in_ok-copies.ensures) c.sort_named.ensures.sorted
