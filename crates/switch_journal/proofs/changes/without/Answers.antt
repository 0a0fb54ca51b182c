use Rattle.std.proofs.Common.{filter, ap, ◌∙◌, rules}
use Rattle.std.proofs.lemmas.Fn.{filter_same}
use Rattle.switch_journal.specs.Applying.{is_another}
use Rattle.switch_journal.proofs.changes.without.Goals as goal

pub returns : goal.returns
returns c =
    c.from_vec.ensures
    ∙ filter_same _ (is_another c.args.pkg.now) _ (λ x b f' k. search rules) c.into_vec-rest.result.items c.retain.new.self.items c.retain.ensures.filtered
    ∙ ap (filter (is_another c.args.pkg.now)) c.into_vec-rest.ensures
