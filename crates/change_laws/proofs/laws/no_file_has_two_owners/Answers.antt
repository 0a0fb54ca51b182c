use Rattle.change_laws.proofs.Kept.{none_twice}
use Rattle.change_laws.proofs.laws.no_file_has_two_owners.Goals as goal

pub returns : goal.returns
returns c = none_twice c.actions_keep_form.ensures c.requests_remove_first.ensures.kept
