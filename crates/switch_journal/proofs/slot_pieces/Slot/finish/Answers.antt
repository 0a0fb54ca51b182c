use Rattle.std.proofs.Common.{◌∙◌, ◌++◌, ◌≡◌, true, List, ℕ, ap, arith, length, subst, sym}
use Rattle.std.specs.Int.{to_be_bytes, w32}
use Rattle.std.specs.List.{All, list_all}
use Rattle.opam_names.specs.Names.{IsName}
use Rattle.journal_text.specs.Words.{counted, short_text}
use Rattle.owner_map.specs.declared.owned.OwnedPath.{OwnedPath}
use Rattle.switch_journal.specs.Pieced.{ArePathsAdded, has_given}
use Rattle.switch_journal.specs.SlotPieces.{CanFinish, IsSlotGiven, Pieces}
use Rattle.switch_journal.specs.Snapshots.{slot_for}
use Rattle.switch_journal.specs.declared.slot_owners.Given.{Given}
use Rattle.switch_journal.specs.declared.slots.ReadySlot.{ReadySlot}
use Rattle.switch_journal.proofs.SlotPieced.{all_given, if_given, roots_count, slot_given}
use Rattle.switch_journal.proofs.slot_pieces.Slot.finish.Goals as goal

pub push_roots-requires : goal.push_roots-requires
push_roots-requires c =
    let few = roots_count c.args.self c.args.owners.now.owned c.requires in
    let same = ap length (c.as_slice.ensures ∙ ap (λ (p : Pieces). p.roots) c.self.view_is) in
    omega (arith, few, same)

pub push_paths-requires-clause-owners : goal.push_paths-requires-clause-owners
push_paths-requires-clause-owners c =
    let owned = c.args.owners.now.owned in
    let can = subst (λ (p : Pieces). CanFinish p owned) (sym c.self.view_is) c.requires in
    subst (λ (gs : List Given). list_all (λ (o : OwnedPath). has_given gs o.owner) owned ≡ true) (sym c.as_slice-2.ensures) (all_given c.self.inside.journal c.self.inside.asked c.self.inside.text.items c.self.inside.given.items c.self.inside.roots owned c.self.invariant can)

pub returns : goal.returns
returns c =
    let owned = c.args.owners.now.owned in
    let can = subst (λ (p : Pieces). CanFinish p owned) (sym c.self.view_is) c.requires in
    let valid = subst (All IsName) c.as_slice.ensures c.in_ok-push_roots.ensures.valid in
    let before : c.push_slot_count.new.out.items ≡ (c.self.inside.text.items ++ counted short_text c.self.inside.roots) ++ to_be_bytes w32 (length owned) = c.in_ok-push_slot_count.ensures ∙ (λ i. (c.in_ok-push_roots.ensures.spelled ∙ ap (λ (rs : List (List ℕ)). c.self.inside.text.items ++ counted short_text rs) c.as_slice.ensures) i ++ to_be_bytes w32 (c.len.ensures i)) in
    let added = subst (λ (gs : List Given). ArePathsAdded gs owned ((c.self.inside.text.items ++ counted short_text c.self.inside.roots) ++ to_be_bytes w32 (length owned)) c.push_paths.new.out.items) c.as_slice-2.ensures (subst (λ (b : List ℕ). ArePathsAdded c.as_slice-2.result.now owned b c.push_paths.new.out.items) before c.in_ok-push_paths.ensures) in
    if_given c.slot_with.result c.slot_with.ensures (λ (ready : ReadySlot) is. subst (λ (p : Pieces). IsSlotGiven p owned ready) c.self.view_is
    (slot_given c.self.inside.journal c.self.inside.asked c.self.inside.text.items c.self.inside.given.items c.self.inside.roots owned c.self.invariant can valid c.stand_apart.ensures c.push_paths.new.out.items added ready
    (is ∙ ap (slot_for c.self.inside.journal) c.from_vec.ensures)))
