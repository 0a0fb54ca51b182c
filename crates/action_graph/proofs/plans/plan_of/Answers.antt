use Rattle.std.proofs.Common.{arith}
use Rattle.action_graph.proofs.Lookups.{set_made}
use Rattle.action_graph.proofs.Planning.{affects_seen, cycle_is, entries_seen, installs_are, redo_same, redo_up, removals_are, suits_made}
use Rattle.action_graph.proofs.plans.plan_of.Goals as goal

pub affected-requires-clause-suits : goal.affected-requires-clause-suits
affected-requires-clause-suits c =
    suits_made c.args.installed.now c.args.target.now.members c.as_slice-2.result.now c.in_ok-index.index.spots c.requires.small c.requires.differ c.requires.rises c.in_ok-index.ensures c.as_slice-2.ensures

pub affected-requires-clause-redo : goal.affected-requires-clause-redo
affected-requires-clause-redo c =
    redo_up c.args.target.now.redo c.as_slice.result.now c.in_ok-redo.redo.items c.as_slice-3.result.now c.as_slice.ensures c.in_ok-redo.ensures c.as_slice-3.ensures.value

pub leaving-requires-clause-suits : goal.leaving-requires-clause-suits
leaving-requires-clause-suits c =
    suits_made c.args.installed.now c.args.target.now.members c.as_slice-2.result.now c.in_ok-index.index.spots c.requires.small c.requires.differ c.requires.rises c.in_ok-index.ensures c.as_slice-2.ensures

pub steps_of-requires-clause-set : goal.steps_of-requires-clause-set
steps_of-requires-clause-set c =
    set_made c.args.target.now.members c.as_slice-2.result.now (omega (arith, c.requires.small)) c.requires.rises c.as_slice-2.ensures

pub returns-in_err-steps_of-clause-cycle : goal.returns-in_err-steps_of-clause-cycle
returns-in_err-steps_of-clause-cycle c =
    cycle_is c.args.installed.now c.args.target.now c.as_slice-3.result.now
    (redo_same c.args.target.now.redo c.as_slice.result.now c.in_ok-redo.redo.items c.as_slice-3.result.now c.as_slice.ensures c.in_ok-redo.ensures c.as_slice-3.ensures.value)
    c.as_slice-2.result.now c.in_ok-marks.marks c.as_slice-6.result.now c.split_at.result.0.now c.in_err-steps_of.field-0.0 c.from_residual-in_err-steps_of.result c.requires.rises
    (affects_seen c.args.installed.now c.args.target.now.members c.as_slice-2.result.now c.as_slice-3.result.now c.in_ok-marks.marks c.as_slice-2.ensures c.in_ok-marks.ensures)
    c.as_slice-2.ensures c.as_slice-6.ensures c.split_at.ensures.front c.in_err-steps_of.ensures.err c.from_residual-in_err-steps_of.ensures.1

pub returns-clause-removals : goal.returns-clause-removals
returns-clause-removals c =
    removals_are c.args.installed.now c.args.target.now c.as_slice-3.result.now
    (redo_same c.args.target.now.redo c.as_slice.result.now c.in_ok-redo.redo.items c.as_slice-3.result.now c.as_slice.ensures c.in_ok-redo.ensures c.as_slice-3.ensures.value)
    c.in_ok-marks.marks c.as_slice-4.result.now c.in_ok-leaving.leaving c.as_slice-5.result.now c.in_ok-removals.removals
    (affects_seen c.args.installed.now c.args.target.now.members c.as_slice-2.result.now c.as_slice-3.result.now c.in_ok-marks.marks c.as_slice-2.ensures c.in_ok-marks.ensures)
    c.as_slice-4.ensures
    (entries_seen c.args.installed.now c.args.target.now.members c.as_slice-2.result.now c.as_slice-4.result.now c.in_ok-leaving.leaving c.as_slice-2.ensures c.in_ok-leaving.ensures)
    c.as_slice-5.ensures c.in_ok-removals.ensures

pub returns-clause-installs : goal.returns-clause-installs
returns-clause-installs c =
    installs_are c.args.installed.now c.args.target.now c.as_slice-3.result.now
    (redo_same c.args.target.now.redo c.as_slice.result.now c.in_ok-redo.redo.items c.as_slice-3.result.now c.as_slice.ensures c.in_ok-redo.ensures c.as_slice-3.ensures.value)
    c.as_slice-2.result.now c.in_ok-marks.marks c.as_slice-6.result.now c.split_at.result.0.now c.in_ok-steps_of.field-0 c.requires.rises
    (affects_seen c.args.installed.now c.args.target.now.members c.as_slice-2.result.now c.as_slice-3.result.now c.in_ok-marks.marks c.as_slice-2.ensures c.in_ok-marks.ensures)
    c.as_slice-2.ensures c.as_slice-6.ensures c.split_at.ensures.front c.in_ok-steps_of.ensures.ok
