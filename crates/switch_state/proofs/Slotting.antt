-- A slot is written of what a switch stands for.
use Rattle.std.proofs.Common.{◌≡◌, ◌∙◌, true, refl, sym, ap, subst, Option}
use Rattle.std.specs.Prelude.{if◌then◌else◌}
use Rattle.crash_disk.specs.Disks.{State as Told, Tree}
use Rattle.switch_journal.specs.Journal.{Head, StandsFor, is_due}
use Rattle.switch_journal.specs.Snapshots.{CanWriteSlot, ComesToSame, contents_by, with_slot}
use Rattle.switch_journal.specs.declared.slots.ReadySlot.{ReadySlot}
use Rattle.switch_state.specs.Begins.{head_slotted}
use Rattle.switch_state.specs.Prepares.{CanAct}
use Rattle.switch_state.specs.State.{Now, Recovers, SwitchStands}
use Rattle.switch_state.specs.Telling.{IsSlotOf}
use Rattle.switch_state.proofs.Alike.{same_back, same_then}

pub slotted_is : (head : Head) → is_due head ≡ true → head_slotted head ≡ with_slot head
slotted_is head due = rw due refl

module _ {now : Now} {files : Tree} {told : Option Told} {ready : ReadySlot} (can : CanAct now files told) (is : IsSlotOf now ready) (due : is_due now.head ≡ true) where
  pub can_write : CanWriteSlot now.head can.stands.contents is.snapshot files ready told
  can_write = record { few = can.few; due = due; made = is.made; says = same_then (same_back can.stands.same) is.says; stands = can.stands.journal }

  pub recovers : (image : Tree) → ComesToSame can.stands.contents files image → Recovers now.state files image
  recovers image comes = record { contents = comes.contents; same = same_then can.stands.same comes.same; comes = comes.comes }

  pub stands_slotted : (told_then : Option Told) → StandsFor (with_slot now.head) (contents_by now.head is.snapshot) files told_then → SwitchStands (head_slotted now.head) now.state files told_then
  stands_slotted told_then stands = record { contents = contents_by now.head is.snapshot; same = is.says; journal = subst (λ (h : Head). StandsFor h (contents_by now.head is.snapshot) files told_then) (sym (slotted_is now.head due)) stands }
