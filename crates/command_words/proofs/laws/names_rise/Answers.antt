use Rattle.command_words.proofs.NameLists.{names_are_in_order}
use Rattle.command_words.proofs.laws.names_rise.Goals as goal

pub returns : goal.returns
returns c = names_are_in_order
