use Rattle.std.proofs.Common.{rules, filter, ap, ◌∙◌}
use Rattle.std.proofs.lemmas.Fn.{filter_same}
use Rattle.owner_map.specs.Owning.{is_of_another}
use Rattle.owner_map.proofs.chunk.Chunk+OwnedPath.drop_owner.Goals as goal

pub returns-clause-items : goal.returns-clause-items
returns-clause-items c =
    filter_same _ (is_of_another c.args.owner.now) _ (λ x b f' k. search rules) c.self.inside.inner.items c.retain.new.self.items c.retain.ensures.filtered
    ∙ ap (filter (is_of_another c.args.owner.now)) c.self.view_is
