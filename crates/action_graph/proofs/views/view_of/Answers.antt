use Rattle.std.proofs.Common.{ℕ, ◌<◌, length, get_or, List, arith, ◌∙◌, sym, ap, refl, subst}
use Rattle.opam_package.specs.declared.package.Member.{Member}
use Rattle.action_graph.specs.Links.{need_places}
use Rattle.action_graph.specs.Gathering.{gathered_marks}
use Rattle.action_graph.proofs.Gathering.{gathered_places}
use Rattle.action_graph.proofs.Lookups.{set_made}
use Rattle.action_graph.proofs.Placing.{marked_fit, needs_fit, view_is}
use Rattle.action_graph.proofs.views.view_of.Goals as goal

pub need_places-requires-clause-fit : goal.need_places-requires-clause-fit
need_places-requires-clause-fit c = (set_made c.args.target.now.members c.as_slice-members.result.now c.requires.small c.requires.rises c.as_slice-members.ensures).order

pub need_places-requires-clause-differ : goal.need_places-requires-clause-differ
need_places-requires-clause-differ c = (set_made c.args.target.now.members c.as_slice-members.result.now c.requires.small c.requires.rises c.as_slice-members.ensures).differ

pub reach-requires-clause-fit : goal.reach-requires-clause-fit
reach-requires-clause-fit c = set_made c.args.target.now.members c.args.target.now.members c.requires.small c.requires.rises (λ i. c.args.target.now.members)

pub reach-requires-clause-within : goal.reach-requires-clause-within
reach-requires-clause-within c =
    needs_fit c.index-members-member.result.package c.as_slice-members.result.now c.as_slice.result.now
    (c.as_slice.ensures ∙ c.in_ok-starts.ensures ∙ ap (λ (m : Member). need_places m.package c.as_slice-members.result.now) (sym c.index-members-member.is))

pub pkgs_at-requires : goal.pkgs_at-requires
pkgs_at-requires c = λ i below.
    let P : List ℕ → Type 0 = λ xs. get_or xs i 0 < length c.as_slice-members.result.now in
    let Q : List ℕ → Type 0 = λ xs. i < length xs in
    let marked = gathered_places (gathered_marks c.in_ok-found.found) c.in_ok-found.found.places c.in_order-places.result c.in_ok-found.ensures.places c.in_order-places.ensures in
    let fits = marked_fit (gathered_marks c.in_ok-found.found) c.in_order-places.result marked i (subst Q c.as_slice-2.ensures below) in
    subst P (sym c.as_slice-2.ensures) (omega (arith, fits, c.in_ok-found.ensures.marks.counted))

pub returns : goal.returns
returns c =
    let found = gathered_marks c.in_ok-found.found in
    view_is c.args.target.now.members c.as_slice-members.result.now c.args.member _ c.index-members-member.result c.in_ok-starts.starts c.as_slice.result.now found found
    c.in_order-places.result c.as_slice-2.result.now c.in_ok-pkgs_at.field-0
    c.as_slice-members.ensures c.requires.within c.index-members-member.is c.in_ok-starts.ensures c.as_slice.ensures c.in_ok-found.ensures.marks refl
    (gathered_places found c.in_ok-found.found.places c.in_order-places.result c.in_ok-found.ensures.places c.in_order-places.ensures)
    c.as_slice-2.ensures c.in_ok-pkgs_at.ensures
