use Rattle.std.proofs.Common.{◌∙◌}
use Rattle.syntax_trees.proofs.Assembled.{key_found, of_section}
use Rattle.syntax_trees.proofs.assembly.is_doubled_section.Goals as goal

pub returns-in-Section : goal.returns-in-Section
returns-in-Section c =
    let entry = c.args.entry.now in
    of_section entry.contents _ c.contains_key.result _ c.in-Section.is (c.contains_key.ensures ∙ key_found c.args.items.now entry.key)
