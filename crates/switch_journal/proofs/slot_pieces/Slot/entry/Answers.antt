use Rattle.std.proofs.Common.{◌≡◌, ◌+◌, ◌-◌, ◌++◌, ◌∙◌, List, ℕ, ap, length, rules}
use Rattle.std.specs.Vec.{vec_len}
use Rattle.switch_journal.specs.SlotPieces.{with_entry}
use Rattle.switch_journal.proofs.SlotPieced.{entries_now, pieced_now}
use Rattle.switch_journal.proofs.slot_pieces.Slot.entry.Goals as goal

pub invariant_of-self-2 : goal.invariant_of-self-2
invariant_of-self-2 c =
    let text : vec_len c.self.inside.text ≡ length c.self.inside.text.items = search rules in
    let piece : vec_len c.in_ok-piece.piece ≡ length c.in_ok-piece.piece.items = search rules in
    pieced_now c.self.inside.journal c.self.inside.asked c.self.inside.text.items c.self.inside.given.items c.args.pkg.now c.args.opam.now c.self.invariant c.in_ok-piece.ensures.valid c.in_ok-piece.piece.items c.in_ok-piece.ensures.spelled c.in_ok-pkg_copy.pkg_copy c.in_ok-pkg_copy.ensures _
    (λ i. (c.len.ensures ∙ text) i + ((c.len-2.ensures ∙ piece) i - length c.args.opam.now)) c.extend_from_slice.new.self.items (c.in_ok-extend_from_slice.ensures.items ∙ ap (λ (l : List ℕ). c.self.inside.text.items ++ l) c.as_slice.ensures.value) c.reserve.new.self.items c.push.new.self.items c.reserve.ensures.items c.push.ensures.items

pub returns-clause-ok : goal.returns-clause-ok
returns-clause-ok c =
    let text : vec_len c.self.inside.text ≡ length c.self.inside.text.items = search rules in
    let piece : vec_len c.in_ok-piece.piece ≡ length c.in_ok-piece.piece.items = search rules in
    let entries = entries_now c.self.inside.journal c.self.inside.asked c.self.inside.text.items c.self.inside.given.items c.args.pkg.now c.args.opam.now c.self.invariant c.in_ok-piece.ensures.valid c.in_ok-piece.piece.items c.in_ok-piece.ensures.spelled c.in_ok-pkg_copy.pkg_copy c.in_ok-pkg_copy.ensures _ (λ i. (c.len.ensures ∙ text) i + ((c.len-2.ensures ∙ piece) i - length c.args.opam.now)) c.extend_from_slice.new.self.items (c.in_ok-extend_from_slice.ensures.items ∙ ap (λ (l : List ℕ). c.self.inside.text.items ++ l) c.as_slice.ensures.value) c.reserve.new.self.items c.push.new.self.items c.reserve.ensures.items c.push.ensures.items in
    (λ i. record { head = c.self.inside.journal; asked = c.self.inside.asked; entries = entries i; roots = c.self.inside.roots }) ∙ ap (with_entry c.args.pkg.now c.args.opam.now) c.self.view_is
