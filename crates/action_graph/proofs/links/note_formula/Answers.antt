use Rattle.std.proofs.Common.{sym, ap, ◌∙◌}
use Rattle.std.specs.Option.{option_copied}
use Rattle.opam_filter.specs.Sets.{names}
use Rattle.action_graph.proofs.Linking.{all_gathered, one_gathered}
use Rattle.action_graph.proofs.links.note_formula.Goals as goal

pub returns-in-Some : goal.returns-in-Some
returns-in-Some g c =
    one_gathered c.args.members.now c.args.dependent.now c.args.formula.now c.in-Some.name.now c.args.places.now.items c.note_name.new.places.items c.note_name.result
    (sym c.atom_name.ensures ∙ ap option_copied c.in-Some.is) c.note_name.ensures
