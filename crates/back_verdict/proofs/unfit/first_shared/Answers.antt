use Rattle.std.proofs.Common.{◌∙◌}
use Rattle.back_verdict.proofs.Sorting.{first_sorted}
use Rattle.back_verdict.proofs.unfit.first_shared.Goals as goal

pub returns : goal.returns
returns c =
    c.first_among.ensures
    ∙ first_sorted c.order_is_stable.ensures c.args.old.now c.args.entry.now c.as_slice-2.result.now c.as_slice.result.now (c.as_slice-2.ensures ∙ c.in_ok-sorted.ensures) c.as_slice.ensures
