use Rattle.std.proofs.Common.{[], refl, ap, sym, ◌∙◌}
use Rattle.command_words.specs.Readings.{first_fault, is_shown}
use Rattle.std.specs.Prelude.{codes}
use Rattle.command_words.specs.Tables.{row}
use Rattle.command_words.specs.declared.tables.ValueKind.TheVariants.{Jobs}
use Rattle.command_words.specs.declared.tables.Kind.TheVariants as kind
use Rattle.command_words.proofs.Faultless.{option_fits, names_fit, install_names, some_names, shown_fits}
use Rattle.command_words.proofs.building.command_of.Goals as goal

pub jobs_of-requires : goal.jobs_of-requires
jobs_of-requires c = option_fits c.args.command.now (row kind.Install) [] c.args.given.now Jobs (codes "4") (codes "--jobs") refl refl (sym (ap (λ k. first_fault c.args.command.now (row k) [] c.args.given.now) c.in-Install.is) ∙ c.requires)

pub names_of-requires : goal.names_of-requires
names_of-requires c = names_fit c.args.command.now (row kind.Install) [] c.args.given.now install_names (sym (ap (λ k. first_fault c.args.command.now (row k) [] c.args.given.now) c.in-Install.is) ∙ c.requires)

pub jobs_of-requires-in-Remove : goal.jobs_of-requires-in-Remove
jobs_of-requires-in-Remove c = option_fits c.args.command.now (row kind.Remove) [] c.args.given.now Jobs (codes "4") (codes "--jobs") refl refl (sym (ap (λ k. first_fault c.args.command.now (row k) [] c.args.given.now) c.in-Remove.is) ∙ c.requires)

pub names_of-requires-in-Remove : goal.names_of-requires-in-Remove
names_of-requires-in-Remove c = names_fit c.args.command.now (row kind.Remove) [] c.args.given.now some_names (sym (ap (λ k. first_fault c.args.command.now (row k) [] c.args.given.now) c.in-Remove.is) ∙ c.requires)

pub jobs_of-requires-in-Reinstall : goal.jobs_of-requires-in-Reinstall
jobs_of-requires-in-Reinstall c = option_fits c.args.command.now (row kind.Reinstall) [] c.args.given.now Jobs (codes "4") (codes "--jobs") refl refl (sym (ap (λ k. first_fault c.args.command.now (row k) [] c.args.given.now) c.in-Reinstall.is) ∙ c.requires)

pub names_of-requires-in-Reinstall : goal.names_of-requires-in-Reinstall
names_of-requires-in-Reinstall c = names_fit c.args.command.now (row kind.Reinstall) [] c.args.given.now some_names (sym (ap (λ k. first_fault c.args.command.now (row k) [] c.args.given.now) c.in-Reinstall.is) ∙ c.requires)

pub shown-requires : goal.shown-requires
shown-requires c =
    let by_kind = sym (ap (λ k. first_fault c.args.command.now (row k) [] c.args.given.now) c.in-Show.is) ∙ c.requires in
    ap is_shown c.first_word.ensures ∙ shown_fits c.args.command.now [] c.args.given.now refl by_kind
