use Rattle.crash_disk.specs.Traces.{spot_of}
use Rattle.crash_disk.proofs.Images.{chosen_step, started_step}
use Rattle.crash_disk.proofs.memory_disk.images.choose_one.Goals as goal

pub returns-in_ok-change-in-Some-clause-chosen : goal.returns-in_ok-change-in-Some-clause-chosen
returns-in_ok-change-in-Some-clause-chosen c =
    chosen_step c.args.choice c.args.first.now c.args.log.now c.args.moment c.args.change.now c.in-Some.path.now (spot_of c.trace_at-trace.result) c.in_ok-change-in-Some.change c.args.made.now c.push.new.self c.push.result
    c.in-Some.ensures c.trace_at-trace.ensures c.in_ok-change-in-Some.ensures c.push.ensures.ok

pub returns-in_ok-change-in-Some-clause-start : goal.returns-in_ok-change-in-Some-clause-start
returns-in_ok-change-in-Some-clause-start c = started_step c.in_ok-change-in-Some.change c.args.made.now c.push.new.self c.push.result c.push.ensures.ok
