-- A commit of an action: what its record's step is, and what a stop leaves of it.
use Rattle.std.proofs.Common.{◌≡◌, ◌∙◌, inl, inr, List, true, false, refl, sym, ap, subst, Option}
use Rattle.crash_disk.specs.Disks.{State as Told, Tree}
use Rattle.crash_disk.specs.Writes.{with_writes}
use Rattle.crash_disk.specs.declared.batch.Write.{Write}
use Rattle.switch_journal.specs.Applying.{applied}
use Rattle.switch_journal.specs.Journal.{ComesTo, StandsFor, work_of}
use Rattle.switch_journal.specs.Places.{record_path}
use Rattle.switch_journal.specs.Snapshots.{IsSameSwitch}
use Rattle.switch_journal.specs.Steps as steps
use Rattle.switch_journal.specs.Steps.{IsAround, IsReady, Step, with_one_more}
use Rattle.switch_state.specs.Actions.{Action, Installs, PutsBack, Removes, own_files_after, record_of, state_after, work_in}
use Rattle.switch_state.specs.Prepares.{CanAct, IsAroundAction, IsPrepared}
use Rattle.switch_state.specs.State.{Now, SwitchStands, contents_in}
use Rattle.switch_state.specs.declared.prepared.Prepared.{Prepared}
use Rattle.switch_state.proofs.Acting.{acts}
use Rattle.switch_state.proofs.Alike.{GoesAlike, alike, same_then, same_work}

-- an action begins no request
no_begin : (action : Action) → steps.is_begin (record_of action) ≡ false
no_begin (Installs member files) = refl
no_begin (Removes pkg kept) = refl
no_begin (PutsBack member files) = refl

module _ {action : Action} {now : Now} {prepared : Prepared} {files : Tree} {told : Option Told} (p : IsPrepared action now prepared) (can : CanAct now files told) where
  abbrev pub goes : GoesAlike p.follows.0 (applied now.head.next (record_path now.head.next) (record_of action) can.stands.contents)
  goes = alike now.head.next (record_path now.head.next) (record_of action) p.follows.0 can.stands.same p.follows.1

  -- the step of the journal
  abbrev pub step : Step
  step = record { before = can.stands.contents; entry = record_of action; after = goes.next; files = files }

  work_same : work_of (record_of action) can.stands.contents ≡ work_in action now.state
  work_same = same_work (record_of action) can.stands.same

  pub can_step : steps.CanCommit now.head step prepared.ready told
  can_step = record {
    few = can.few;
    made = subst (λ (work : List Write). IsReady now.head.next (record_of action) work prepared.ready) (sym work_same) p.ready;
    applies = goes.is;
    begins = λ is. absurd (let e : false ≡ true = sym (no_begin action) ∙ is in cc);
    stands = can.stands.journal;
  }

  same_after : IsSameSwitch (contents_in (state_after now.head.next action now.state)) goes.next
  same_after = same_then (acts now.head.next action now.state p.follows.0 p.follows.1) goes.same

  files_same : steps.files_after step ≡ own_files_after action now.state files
  files_same = ap (λ (ws : List Write). with_writes ws files) work_same

  -- what a stop leaves
  pub around : (image : Tree) → IsAround step image → IsAroundAction action now files image
  around image (inl before) = inl (record { contents = can.stands.contents; same = can.stands.same; comes = before })
  around image (inr after) = inr (record { contents = goes.next; same = same_after; comes = subst (λ (fs : Tree). ComesTo goes.next fs image) files_same after })

  -- what the commit leaves
  pub stands_after : (told_then : Option Told) → StandsFor (with_one_more now.head) goes.next (steps.files_after step) told_then → SwitchStands (with_one_more now.head) (state_after now.head.next action now.state) (own_files_after action now.state files) told_then
  stands_after told_then stands = record {
    contents = goes.next;
    same = same_after;
    journal = subst (λ (fs : Tree). StandsFor (with_one_more now.head) goes.next fs told_then) files_same stands;
  }
