use Rattle.std.proofs.Common.{rules, filter, ap, ◌∙◌}
use Rattle.std.proofs.lemmas.Fn.{filter_same}
use Rattle.switch_state.specs.Ends.{is_entry_name}
use Rattle.switch_state.proofs.ending.installed_names.Goals as goal

pub returns : goal.returns
returns c =
    c.from_vec.ensures
    ∙ filter_same _ (is_entry_name c.args.members.now) _ (λ x b f' k. search rules) c.into_vec-rest.result.items c.retain.new.self.items c.retain.ensures.filtered
    ∙ ap (filter (is_entry_name c.args.members.now)) c.into_vec-rest.ensures
