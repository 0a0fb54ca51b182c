use Rattle.action_graph.proofs.Leading.{node_found, node_past}
use Rattle.action_graph.proofs.affected.Change.node_at.Goals as goal

pub returns-in-Some-clause-value : goal.returns-in-Some-clause-value
returns-in-Some-clause-value c =
    node_found c.args.self.now.installed.now c.args.self.now.members.now c.args.at c.index-self-at.result c.find.result c.in-Some.place c.requires.within c.index-self-at.is c.find.ensures.value c.in-Some.is

pub returns-in-None-clause-value : goal.returns-in-None-clause-value
returns-in-None-clause-value c =
    node_past c.args.self.now.installed.now c.args.self.now.members.now c.args.at c.index-self-at.result c.find.result c.requires.within c.index-self-at.is c.find.ensures.value c.in-None.is
