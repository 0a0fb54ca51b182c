use Rattle.std.proofs.Common.{rules}
use Rattle.action_graph.proofs.Gathering.{none_marked}
use Rattle.action_graph.proofs.gathered.none_gathered.Goals as goal

pub returns-clause-marks : goal.returns-clause-marks
returns-clause-marks c = none_marked c.new.result c.args.count (λ place. search rules)
