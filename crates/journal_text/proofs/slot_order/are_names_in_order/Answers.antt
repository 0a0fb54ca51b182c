use Rattle.std.proofs.Common.{◌≡◌, ℕ, List, Bool, sym, subst, ◌∙◌}
use Rattle.std.specs.Prelude.{◌↔◌, IsTrue}
use Rattle.std.specs.List.{list_all}
use Rattle.opam_names.specs.ByteOrders.{NeverFallsBy, RisesBy, in_order_by}
use Rattle.journal_text.specs.Parts.{own_name}
use Rattle.journal_text.specs.Slots.{AreNamesInOrder, entry_names, is_among}
use Rattle.journal_text.proofs.Apart.{names_are_in_order, never_fall}
use Rattle.journal_text.proofs.slot_order.are_names_in_order.Goals as goal

pub are_among-among-requires : goal.are_among-among-requires
are_among-among-requires c =
    let names = entry_names c.args.entries.now in
    let sorted : c.as_slice-names.result.now ≡ in_order_by own_name names = c.as_slice-names.ensures.value ∙ c.in_ok-sorted.ensures in
    subst (λ (ns : List (List ℕ)). NeverFallsBy own_name ns) (sym sorted) (never_fall names)

pub returns : goal.returns
returns c =
    let names = entry_names c.args.entries.now in
    let roots = c.args.roots.now in
    let sorted : c.as_slice-names.result.now ≡ in_order_by own_name names = c.as_slice-names.ensures.value ∙ c.in_ok-sorted.ensures in
    let differ = subst (λ (ns : List (List ℕ)). IsTrue c.rises_by_bytes-differ.result ↔ RisesBy own_name ns) sorted c.rises_by_bytes-differ.ensures in
    let among = subst (λ (ns : List (List ℕ)). c.are_among-among.result ≡ list_all (is_among ns) roots) sorted c.are_among-among.ensures in
    subst (λ (b : Bool). IsTrue b ↔ AreNamesInOrder names roots) (sym c.all_hold.ensures)
    (names_are_in_order names roots c.rises_by_bytes-differ.result c.rises_by_bytes-rise.result c.are_among-among.result differ c.rises_by_bytes-rise.ensures among)
