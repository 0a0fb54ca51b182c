use Rattle.std.proofs.Common.{rules}
use Rattle.action_graph.proofs.Lookups.{called_none, called_some}
use Rattle.action_graph.proofs.lookup.called.Goals as goal

pub returns-in-None : goal.returns-in-None
returns-in-None g c = called_none c.args.members.now c.args.name.now c.find.result c.find.ensures.value c.in-None.is

pub returns-in-Some : goal.returns-in-Some
returns-in-Some g c =
    called_some c.args.members.now c.args.name.now c.find.result c.in-Some.place c.index-members-place.result c.find.ensures.value c.in-Some.is (search rules) c.index-members-place.is
