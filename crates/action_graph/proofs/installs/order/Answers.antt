use Rattle.action_graph.proofs.Lookups.{set_made}
use Rattle.action_graph.proofs.Stopping.{order_err, order_ok}
use Rattle.action_graph.proofs.installs.order.Goals as goal

pub steps_of-requires-clause-set : goal.steps_of-requires-clause-set
steps_of-requires-clause-set c = set_made c.args.target.now.members c.as_slice-members.result.now c.requires.small c.requires.rises c.as_slice-members.ensures

pub returns-clause-ok : goal.returns-clause-ok
returns-clause-ok c =
    order_ok c.args.target.now.members c.as_slice-members.result.now c.args.names.now c.in_ok-wanted.wanted c.as_slice.result.now c.steps_of.result
    c.as_slice-members.ensures c.as_slice.ensures c.in_ok-wanted.ensures c.steps_of.ensures.ok

pub returns-clause-err : goal.returns-clause-err
returns-clause-err c =
    order_err c.args.target.now.members c.as_slice-members.result.now c.args.names.now c.in_ok-wanted.wanted c.as_slice.result.now c.steps_of.result
    c.as_slice-members.ensures c.as_slice.ensures c.in_ok-wanted.ensures c.steps_of.ensures.err
