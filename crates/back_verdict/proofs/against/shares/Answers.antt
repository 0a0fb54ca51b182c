use Rattle.std.proofs.Common.{◌∙◌, refl}
use Rattle.back_verdict.proofs.Sorting.{shared_sorted}
use Rattle.back_verdict.proofs.against.shares.Goals as goal

pub returns : goal.returns
returns c = shared_sorted c.order_is_stable.ensures c.args.old.now.package c.args.entry.now.package c.args.classes.now c.as_slice.result.now c.has_one_of.result c.requires c.as_slice.ensures c.has_one_of.ensures
