use Rattle.std.proofs.Common.{sym, ◌∙◌, ap}
use Rattle.std.specs.Prelude.{bytes_eq}
use Rattle.std.specs.Option.{option_copied}
use Rattle.opam_names.specs.ByteOrders.{has_key}
use Rattle.owner_map.specs.Searching.{is_from}
use Rattle.owner_map.proofs.Finding.{found_part, found_passes, none_first, none_in_none}
use Rattle.owner_map.proofs.Finds.{from_of_same, same_apart}
use Rattle.owner_map.proofs.meeting.find_text.Goals as goal

pub returns-then-same : goal.returns-then-same
returns-then-same g c =
    let key = g.T.ByteKey.key in
    let text = c.args.text.now in
    sym (found_part (has_key key text) (is_from key text) c.args.list.now.items c.in-Some.item.now (from_of_same key text)
    (sym c.first_from.ensures ∙ ap option_copied c.in-Some.is) (ap (λ x. bytes_eq x text) (sym c.key.ensures) ∙ sym c.eq-same.ensures ∙ c.if-same.true))

pub returns-else-same : goal.returns-else-same
returns-else-same g c =
    let key = g.T.ByteKey.key in
    let text = c.args.text.now in
    let found = sym c.first_from.ensures ∙ ap option_copied c.in-Some.is in
    let passes = found_passes (is_from key text) c.args.list.now.items c.in-Some.item.now found in
    sym (none_first key (has_key key text) (is_from key text) c.args.list.now.items c.in-Some.item.now c.requires (from_of_same key text) found
    (same_apart key text c.in-Some.item.now passes (ap (λ x. bytes_eq x text) (sym c.key.ensures) ∙ sym c.eq-same.ensures ∙ c.if-same.false)))

pub returns-in-None : goal.returns-in-None
returns-in-None g c =
    let key = g.T.ByteKey.key in
    let text = c.args.text.now in
    sym (none_in_none (has_key key text) (is_from key text) c.args.list.now.items (from_of_same key text) (sym c.first_from.ensures ∙ ap option_copied c.in-None.is))
