use Rattle.std.proofs.Common.{◌<◌, List, length, get_or, subst, map, sym}
use Rattle.std.specs.Prelude.{slice_index, EachIndex, IfOk, bytes_eq}
use Rattle.std.specs.List.{IsDistinct}
use Rattle.opam_names.specs.ByteOrders.{NeverFallsBy}
use Rattle.action_graph.specs.Leaving.{name_of}
use Rattle.opam_package.specs.declared.package.Member.{Member}
use Rattle.action_graph.proofs.Placing.{edges_all_fit}
use Rattle.action_graph.proofs.views.ItemsMemberSteps.next.Goals as goal

pub edge_places-requires-clause-fit : goal.edge_places-requires-clause-fit
edge_places-requires-clause-fit c = let P : List Member → Type 0 = NeverFallsBy name_of in subst P (sym c.as_slice-members.ensures) c.requires.fit.order

pub edge_places-requires-clause-differ : goal.edge_places-requires-clause-differ
edge_places-requires-clause-differ c = let P : List Member → Type 0 = λ ms. IsDistinct bytes_eq (map name_of ms) in subst P (sym c.as_slice-members.ensures) c.requires.fit.differ

pub returns-clause-within : goal.returns-clause-within
returns-clause-within c =
    let P : List Member → Type 0 = λ ms. IfOk c.edge_places.result (λ places. EachIndex places (λ i. slice_index places i < length ms)) in
    subst P c.as_slice-members.ensures (edges_all_fit (get_or c.as_slice-members.result.now c.args.from c.index-members-from.result).package c.as_slice-members.result.now c.edge_places.result c.edge_places.ensures)
