use Rattle.std.proofs.Common.{ℕ, List, Bool, map, filter, ap, ◌∙◌, rules}
use Rattle.std.specs.List.{list_any}
use Rattle.std.proofs.lemmas.Fn.{filter_same}
use Rattle.switch_journal.specs.Applying.{is_named}
use Rattle.switch_journal.specs.Contents.{entry_of}
use Rattle.switch_journal.proofs.changes.installed_names.Goals as goal

pub returns : goal.returns
returns c =
    let test : List ℕ → Bool = λ name. list_any (is_named name) (map entry_of c.args.standing.now) in
    c.from_vec.ensures
    ∙ filter_same _ test _ (λ x b f' k. search rules) c.into_vec-names.result.items c.retain.new.self.items c.retain.ensures.filtered
    ∙ ap (filter test) c.into_vec-names.ensures
