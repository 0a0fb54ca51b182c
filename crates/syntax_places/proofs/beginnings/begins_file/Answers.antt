use Rattle.syntax_places.proofs.Endings.{ending_begins}
use Rattle.syntax_places.proofs.Leading.{told_so}
use Rattle.syntax_places.proofs.beginnings.begins_file.Goals as goal

pub returns-in-Some : goal.returns-in-Some
returns-in-Some c = told_so (ending_begins c.args.bytes.now _ _ c.in-Some.is c.in_ok-ending_of.ensures)
