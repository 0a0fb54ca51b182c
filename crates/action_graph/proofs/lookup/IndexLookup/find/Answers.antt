use Rattle.std.proofs.Common.{rules, ap, ◌∙◌}
use Rattle.opam_names.specs.ByteOrders.{place_of_key}
use Rattle.action_graph.specs.Nodes.{spot_name}
use Rattle.action_graph.proofs.Lookups.{index_none, index_some, index_up, place_within}
use Rattle.action_graph.proofs.lookup.IndexLookup.find.Goals as goal

pub find_by_bytes-requires : goal.find_by_bytes-requires
find_by_bytes-requires c = index_up c.args._members.now c.as_slice-spots.result.now (c.as_slice-spots.ensures ∙ c.requires.fit)

pub returns-in-None-clause-value : goal.returns-in-None-clause-value
returns-in-None-clause-value c =
    index_none c.args._members.now c.args.name.now c.as_slice-spots.result.now c.find_by_bytes.result (c.as_slice-spots.ensures ∙ c.requires.fit)
    (c.find_by_bytes.ensures ∙ ap (λ k. place_of_key spot_name k c.as_slice-spots.result.now) (c.as_bytes.ensures.value ∙ c.as_str.ensures.value)) c.in-None.is

pub returns-in-Some-clause-value : goal.returns-in-Some-clause-value
returns-in-Some-clause-value c =
    index_some c.args._members.now c.args.name.now c.as_slice-spots.result.now c.find_by_bytes.result c.in-Some.at c.index-spots-at.result (c.as_slice-spots.ensures ∙ c.requires.fit)
    (c.find_by_bytes.ensures ∙ ap (λ k. place_of_key spot_name k c.as_slice-spots.result.now) (c.as_bytes.ensures.value ∙ c.as_str.ensures.value)) c.in-Some.is (search rules)

pub returns-in-Some-clause-within : goal.returns-in-Some-clause-within
returns-in-Some-clause-within c =
    place_within c.args._members.now c.args.name.now _ (
    index_some c.args._members.now c.args.name.now c.as_slice-spots.result.now c.find_by_bytes.result c.in-Some.at c.index-spots-at.result (c.as_slice-spots.ensures ∙ c.requires.fit)
    (c.find_by_bytes.ensures ∙ ap (λ k. place_of_key spot_name k c.as_slice-spots.result.now) (c.as_bytes.ensures.value ∙ c.as_str.ensures.value)) c.in-Some.is (search rules))
