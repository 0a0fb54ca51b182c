use Rattle.std.proofs.Common.{rules, ap, ◌∙◌}
use Rattle.opam_names.specs.ByteOrders.{count_before}
use Rattle.opam_names.proofs.ByteSearch.{find_found, find_other, find_past}
use Rattle.action_graph.specs.Leaving.{name_of}
use Rattle.action_graph.proofs.lookup.InOrderLookup.find.Goals as goal

pub returns-then-place-members-clause-value : goal.returns-then-place-members-clause-value
returns-then-place-members-clause-value c =
    let same = c.as_bytes-bytes.ensures.value ∙ c.as_str.ensures.value in
    find_past name_of c.args.name.now c.args.members.now c.count_before-place.result c.requires.fit
    (c.count_before-place.ensures.value ∙ ap (λ k. count_before name_of k c.args.members.now) same) c.if-place-members.true

pub returns-then-eq-clause-value : goal.returns-then-eq-clause-value
returns-then-eq-clause-value c =
    let same = c.as_bytes-bytes.ensures.value ∙ c.as_str.ensures.value in
    find_found name_of c.args.name.now c.args.members.now c.count_before-place.result c.index-members-place.result c.requires.fit
    (c.count_before-place.ensures.value ∙ ap (λ k. count_before name_of k c.args.members.now) same) (search rules) c.index-members-place.is
    (search rules)

pub returns-else-eq-clause-value : goal.returns-else-eq-clause-value
returns-else-eq-clause-value c =
    let same = c.as_bytes-bytes.ensures.value ∙ c.as_str.ensures.value in
    find_other name_of c.args.name.now c.args.members.now c.count_before-place.result c.index-members-place.result c.requires.fit
    (c.count_before-place.ensures.value ∙ ap (λ k. count_before name_of k c.args.members.now) same) (search rules) c.index-members-place.is
    (search rules)
