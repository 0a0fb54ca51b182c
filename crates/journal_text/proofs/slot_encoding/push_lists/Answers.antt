use Rattle.journal_text.proofs.Lengths.{roots_lens, target_lens}
use Rattle.journal_text.proofs.SlotsRead.{list_lens, owned_lens}
use Rattle.journal_text.proofs.slot_encoding.push_lists.Goals as goal

pub push_list-requires-clause-few : goal.push_list-requires-clause-few
push_list-requires-clause-few c = (target_lens c.args.entries.now (list_lens c.args.entries.now c.args.roots.now c.args.owned.now c.requires).entries_are).few

pub push_list-requires-2-clause-few : goal.push_list-requires-2-clause-few
push_list-requires-2-clause-few c = (roots_lens c.args.roots.now (list_lens c.args.entries.now c.args.roots.now c.args.owned.now c.requires).roots_are).few

pub push_list-requires-3-clause-few : goal.push_list-requires-3-clause-few
push_list-requires-3-clause-few c = (owned_lens c.args.owned.now (list_lens c.args.entries.now c.args.roots.now c.args.owned.now c.requires).owned_are).few
