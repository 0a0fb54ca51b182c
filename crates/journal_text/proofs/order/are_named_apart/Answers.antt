use Rattle.std.proofs.Common.{◌≡◌, ℕ, List, sym, subst, ◌∙◌, ap}
use Rattle.opam_names.specs.ByteOrders.{RisesBy, in_order_by}
use Rattle.journal_text.specs.Parts.{names_of, own_name}
use Rattle.journal_text.proofs.Apart.{apart_rises, rises_apart}
use Rattle.journal_text.proofs.order.are_named_apart.Goals as goal

pub returns : goal.returns
returns c =
    let names = names_of c.args.pkgs.now in
    let sorted : c.as_slice.result.now ≡ in_order_by own_name names = c.as_slice.ensures.value ∙ (c.in_ok-sort_by_bytes.ensures.ok ∙ ap (in_order_by own_name) c.in_ok-names.ensures) in
    let says = c.rises_by_bytes.ensures in
    (λ yes. rises_apart names (subst (λ (ns : List (List ℕ)). RisesBy own_name ns) sorted (says.0 yes)), λ apart. says.1 (subst (λ (ns : List (List ℕ)). RisesBy own_name ns) (sym sorted) (apart_rises names apart)))
