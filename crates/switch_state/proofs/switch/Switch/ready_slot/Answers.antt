use Rattle.std.proofs.Common.{◌≡◌, ◌∙◌, ◌≤◌, List, ℕ, ap, arith, length, map, refl, subst, sym}
use Rattle.opam_package.specs.declared.package.Member.{Member}
use Rattle.owner_map.specs.declared.owned.OwnedPath.{OwnedPath}
use Rattle.switch_journal.specs.Applying.{text_total}
use Rattle.switch_journal.specs.Journal.{Head}
use Rattle.switch_journal.specs.SlotPieces.{CanFinish, IsSlotGiven, Pieces}
use Rattle.switch_journal.specs.declared.request.TheConstants.{TEXT_LIMIT}
use Rattle.switch_journal.specs.declared.slots.ReadySlot.{ReadySlot}
use Rattle.switch_state.specs.State.{Now, member_entry}
use Rattle.switch_state.specs.Telling.{pieces_of}
use Rattle.switch_state.proofs.Told.{can_finish, few_texts, if_told, pieces_are, slot_of}
use Rattle.switch_state.proofs.switch.Switch.ready_slot.Goals as goal

pub give_entries-requires-clause-more : goal.give_entries-requires-clause-more
give_entries-requires-clause-more c =
    let entries = ap (λ (p : Pieces). length p.entries) c.in_ok-slot.ensures in
    let asked = ap (λ (p : Pieces). p.asked) c.in_ok-slot.ensures in
    omega (arith, entries, asked)

pub give_entries-requires-clause-short : goal.give_entries-requires-clause-short
give_entries-requires-clause-short c =
    let members = c.as_slice-members.ensures ∙ ap (λ (n : Now). n.state.members) c.self.view_is in
    subst (λ (ms : List Member). text_total (map member_entry ms) ≤ TEXT_LIMIT) (sym members) (few_texts c.args.self.now.head c.args.self.now.state c.requires.formed c.requires.free c.requires.small)

pub finish-requires : goal.finish-requires
finish-requires c =
    let now = c.args.self.now in
    let members = c.as_slice-members.ensures ∙ ap (λ (n : Now). n.state.members) c.self.view_is in
    let roots = c.as_slice.ensures ∙ ap (λ (n : Now). n.state.roots) c.self.view_is in
    let head = ap (λ (n : Now). n.head) c.self.view_is in
    let owned = ap (λ (n : Now). n.state.owned) c.self.view_is in
    let are = pieces_are c.self.inside.journal now.state (length c.as_slice-members.result.now) c.as_slice-members.result.now c.as_slice.result.now c.in_ok-slot.slot c.give_entries.new.slot c.give_roots.new.slot c.in_ok-slot.ensures refl c.in_ok-give_entries.ensures c.in_ok-give_roots.ensures members roots in
    subst (λ (os : List OwnedPath). CanFinish c.give_roots.new.slot os) (sym owned)
    (subst (λ (p : Pieces). CanFinish p now.state.owned) (sym are) (can_finish c.self.inside.journal now.state c.requires.formed c.requires.free c.requires.small))

pub returns : goal.returns
returns c =
    let now = c.args.self.now in
    let members = c.as_slice-members.ensures ∙ ap (λ (n : Now). n.state.members) c.self.view_is in
    let roots = c.as_slice.ensures ∙ ap (λ (n : Now). n.state.roots) c.self.view_is in
    let head = ap (λ (n : Now). n.head) c.self.view_is in
    let owned = ap (λ (n : Now). n.state.owned) c.self.view_is in
    let are = pieces_are c.self.inside.journal now.state (length c.as_slice-members.result.now) c.as_slice-members.result.now c.as_slice.result.now c.in_ok-slot.slot c.give_entries.new.slot c.give_roots.new.slot c.in_ok-slot.ensures refl c.in_ok-give_entries.ensures c.in_ok-give_roots.ensures members roots in
    if_told c.finish.result c.finish.ensures (λ (ready : ReadySlot) is. slot_of now ready c.requires.free
    (subst (λ (os : List OwnedPath). IsSlotGiven (pieces_of now.head now.state) os ready) owned (subst (λ (h : Head). IsSlotGiven (pieces_of h now.state) c.self.inside.owners.owned ready) head (subst (λ (p : Pieces). IsSlotGiven p c.self.inside.owners.owned ready) are is))))
