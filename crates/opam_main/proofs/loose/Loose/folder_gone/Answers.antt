use Rattle.std.proofs.Common.{arith, false}
use Rattle.std.proofs.lemmas.Map.Text.{btree_set_updates_text}
use Rattle.opam_main.proofs.loose.Loose.folder_gone.Goals as goal

pub returns-clause-folders : goal.returns-clause-folders
returns-clause-folders c = λ other apart had.
    c.entry_changed.ensures.folders other
    (grind (arith, btree_set_updates_text c.args.path.now c.args.self.now.folders c.remove-2.new.self false c.remove-2.ensures.updates other, had, apart))
