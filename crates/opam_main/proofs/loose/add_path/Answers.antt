use Rattle.std.proofs.Common.{arith, true, string_bytes}
use Rattle.std.proofs.lemmas.Map.Text.{btree_set_updates_text}
use Rattle.opam_main.proofs.loose.add_path.Goals as goal

pub returns-clause-keeps : goal.returns-clause-keeps
returns-clause-keeps c = λ other had.
    grind (arith, btree_set_updates_text (string_bytes c.in_ok-from_str.field-0) c.args.paths.now c.insert.new.self true c.in_ok-insert.ensures.updates other, had)
