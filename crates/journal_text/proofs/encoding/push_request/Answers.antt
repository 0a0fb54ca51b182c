use Rattle.journal_text.proofs.Lengths.{removals_lens, request_lens, roots_lens, target_lens}
use Rattle.journal_text.proofs.encoding.push_request.Goals as goal

pub push_list-requires-clause-few : goal.push_list-requires-clause-few
push_list-requires-clause-few c = (roots_lens c.args.roots.now (request_lens c.args.roots.now c.args.target.now c.args.removals.now c.requires).roots_are).few

pub push_list-requires-2-clause-few : goal.push_list-requires-2-clause-few
push_list-requires-2-clause-few c = (target_lens c.args.target.now (request_lens c.args.roots.now c.args.target.now c.args.removals.now c.requires).target_is).few

pub push_list-requires-3-clause-few : goal.push_list-requires-3-clause-few
push_list-requires-3-clause-few c = (removals_lens c.args.removals.now (request_lens c.args.roots.now c.args.target.now c.args.removals.now c.requires).removals_are).few
