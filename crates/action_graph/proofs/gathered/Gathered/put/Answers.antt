use Rattle.action_graph.proofs.Gathering.{put_again, put_fresh}
use Rattle.action_graph.proofs.gathered.Gathered.put.Goals as goal

pub returns-in_ok-push-clause-put : goal.returns-in_ok-push-clause-put
returns-in_ok-push-clause-put c =
    put_fresh c.args.self.now.set c.put_new.new.set c.args.self.now.count c.args.place c.args.self.now.places c.push.new.self c.in_ok-put_new.field-0
    c.requires c.in_ok-put_new.ensures.new c.in_ok-put_new.ensures.puts c.if-branch.true c.in_ok-push.ensures.ok

pub returns-else-branch-clause-put : goal.returns-else-branch-clause-put
returns-else-branch-clause-put c =
    put_again c.args.self.now.set c.put_new.new.set c.args.self.now.count c.args.place c.args.self.now.places c.in_ok-put_new.field-0
    c.requires c.in_ok-put_new.ensures.new c.in_ok-put_new.ensures.puts c.if-branch.false
