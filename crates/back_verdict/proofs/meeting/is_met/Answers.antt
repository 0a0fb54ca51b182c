use Rattle.back_verdict.proofs.Sorting.{met_sorted, rises_sorted}
use Rattle.back_verdict.proofs.meeting.is_met.Goals as goal

pub runs_on-requires : goal.runs_on-requires
runs_on-requires c =
    rises_sorted c.order_is_stable.ensures c.args.entries.now c.args.old.now c.in_ok-set.set c.sort_by_bytes.new.self c.as_slice.result.now c.in_ok-set.ensures c.in_ok-sort_by_bytes.ensures.ok c.as_slice.ensures c.requires

pub returns : goal.returns
returns c =
    met_sorted c.holding_is_monotone.ensures c.order_is_stable.ensures c.args.entries.now c.args.old.now c.in_ok-set.set c.sort_by_bytes.new.self c.as_slice.result.now c.runs_on.result c.in_ok-set.ensures c.in_ok-sort_by_bytes.ensures.ok c.as_slice.ensures c.runs_on.ensures
