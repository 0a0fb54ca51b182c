use Rattle.std.proofs.Common.{rules, arith, length, [], replicate, ap, ◌∙◌}
use Rattle.action_graph.proofs.Turning.{row_within, turns_all, turns_next, turns_none}
use Rattle.action_graph.proofs.rows.turned.Goals as goal

pub add_to-requires : goal.add_to-requires
add_to-requires c = λ i below.
    let fits = row_within c.args.rows.now c.loop-from.from (length c.args.rows.now) c.row.result.now c.row.ensures c.requires.within i below in
    omega (arith, fits, c.loop-from.invariant.counted)

pub loop-from-init : goal.loop-from-init
loop-from-init c = turns_none c.args.rows.now c.in_ok-others.others (c.in_ok-others.ensures ∙ ap (λ n. replicate n []) c.len-count.ensures)

pub loop-from-preserved : goal.loop-from-preserved
loop-from-preserved c =
    turns_next c.args.rows.now c.loop-from.others _ c.row.result.now c.loop-from.from c.loop-from.invariant (search rules) c.row.ensures c.in_ok-add_to.ensures

pub returns : goal.returns
returns c = turns_all c.args.rows.now c.loop-from.others c.loop-from.from c.loop-from.invariant (search rules)
