use Rattle.std.proofs.Common.{sym, ◌∙◌, ap}
use Rattle.std.specs.Option.{option_copied}
use Rattle.std.specs.List.{find}
use Rattle.opam_names.specs.Paths.{is_above}
use Rattle.owner_map.specs.Searching.{below_bound, is_below_text, is_from}
use Rattle.owner_map.proofs.Finding.{found_part, found_passes, none_first, none_in_none}
use Rattle.owner_map.proofs.Finds.{below_apart, from_of_below}
use Rattle.owner_map.proofs.meeting.find_below.Goals as goal

pub returns-then-below : goal.returns-then-below
returns-then-below g c =
    let key = g.T.ByteKey.key in
    let text = c.args.text.now in
    sym (found_part (is_below_text key text) (is_from key (below_bound text)) c.args.list.now.items c.in-Some.item.now (from_of_below key text)
    (ap (λ b. find (is_from key b) c.args.list.now.items) (sym c.requires.bound) ∙ sym c.first_from.ensures ∙ ap option_copied c.in-Some.is)
    (ap (λ x. is_above text x) (sym c.key.ensures) ∙ sym c.stands_above-below.ensures ∙ c.if-below.true))

pub returns-else-below : goal.returns-else-below
returns-else-below g c =
    let key = g.T.ByteKey.key in
    let text = c.args.text.now in
    let found = ap (λ b. find (is_from key b) c.args.list.now.items) (sym c.requires.bound) ∙ sym c.first_from.ensures ∙ ap option_copied c.in-Some.is in
    let passes = found_passes (is_from key (below_bound text)) c.args.list.now.items c.in-Some.item.now found in
    sym (none_first key (is_below_text key text) (is_from key (below_bound text)) c.args.list.now.items c.in-Some.item.now c.requires.rises (from_of_below key text) found
    (below_apart key text c.in-Some.item.now passes (ap (λ x. is_above text x) (sym c.key.ensures) ∙ sym c.stands_above-below.ensures ∙ c.if-below.false)))

pub returns-in-None : goal.returns-in-None
returns-in-None g c =
    let key = g.T.ByteKey.key in
    let text = c.args.text.now in
    sym (none_in_none (is_below_text key text) (is_from key (below_bound text)) c.args.list.now.items (from_of_below key text)
    (ap (λ b. find (is_from key b) c.args.list.now.items) (sym c.requires.bound) ∙ sym c.first_from.ensures ∙ ap option_copied c.in-None.is))
