use Rattle.std.proofs.Common.{rules, filter, ap, ◌∙◌}
use Rattle.std.proofs.lemmas.Fn.{filter_same}
use Rattle.opam_names.specs.Buffers.{Buffered}
use Rattle.opam_package.specs.declared.package.Member.{Member}
use Rattle.switch_state.specs.Actions.{is_other_member}
use Rattle.switch_state.proofs.taking.drop_member.Goals as goal

pub returns : goal.returns
returns c =
    c.from_items.ensures ∙ c.from_vec.ensures
    ∙ filter_same _ (is_other_member c.args.pkg.now) _ (λ x b f' k. search rules) c.into_vec-rest.result.items c.retain.new.self.items c.retain.ensures.filtered
    ∙ ap (filter (is_other_member c.args.pkg.now)) (c.into_vec-rest.ensures ∙ c.into_items.ensures ∙ ap (λ (b : Buffered Member). b.items) c.replace-all.ensures.value)
