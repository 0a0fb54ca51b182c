-- The end of a request: its step in the journal, and what a stop leaves of it.
use Rattle.std.proofs.Common.{◌≡◌, ◌∙◌, inl, inr, ℕ, ◌+◌, List, [], ◌∷◌, map, filter, Bool, true, false, refl, sym, subst, ap, Option, Some, None}
use Rattle.std.specs.Prelude.{◌&&◌, ◌||◌, IsSome, bytes_eq, is_some}
use Rattle.std.specs.List.{list_any}
use Rattle.std.specs.Option.{option_map}
use Rattle.crash_disk.specs.Disks.{State as Told, Tree}
use Rattle.crash_disk.specs.Stops.{IsSameBut}
use Rattle.journal_text.specs.declared.record.Rec.TheVariants.{End}
use Rattle.opam_package.specs.declared.package.Member.{Member}
use Rattle.switch_journal.specs.Applying.{are_few, are_few_paths, entries_of, has_name, is_named}
use Rattle.switch_journal.specs.Applying as applying
use Rattle.switch_journal.specs.Commits.{paths_of_ready}
use Rattle.switch_journal.specs.Contents.{Contents}
use Rattle.switch_journal.specs.Journal.{AgreeOutside, ComesTo, StandsFor}
use Rattle.switch_journal.specs.Places.{gate_path, record_path}
use Rattle.switch_journal.specs.Reading.{is_small}
use Rattle.switch_journal.specs.Snapshots.{IsSameSwitch}
use Rattle.switch_journal.specs.Steps as steps
use Rattle.switch_journal.specs.Steps.{IsAround, IsReady, Step, with_one_more}
use Rattle.switch_journal.specs.declared.commits.Ready.{Ready}
use Rattle.switch_journal.specs.declared.request.Open.{Open}
use Rattle.crash_disk.proofs.Effects.{touches_none}
use Rattle.crash_disk.proofs.Stops.{NowIs, stops_by}
use Rattle.crash_disk.proofs.Trees.{get_both}
use Rattle.crash_disk.specs.Stops.{StopsLeave}
use Rattle.crash_disk.specs.declared.disk.Disk.{Ghosts}
use Rattle.std.specs.FinMap.{get}
use Rattle.switch_journal.specs.Journal.{Head}
use Rattle.switch_journal.specs.Reading.{counting, first_number}
use Rattle.switch_journal.proofs.Bridge.{comes_there, texts_held, texts_of}
use Rattle.switch_journal.proofs.Read.{holds_inside, slots_inside}
use Rattle.switch_journal.proofs.Apart.{outside_apart}
use Rattle.switch_journal.proofs.Small.{read_small}
use Rattle.switch_state.specs.Ends.{IsAroundEnd, state_ended, is_entry_name}
use Rattle.switch_state.specs.Prepares.{CanAct}
use Rattle.switch_state.specs.State.{Now, Request, SwitchStands, SwitchState, contents_in, member_entry, open_of}
use Rattle.switch_state.proofs.Acting.{entries_said}
use Rattle.switch_state.proofs.Alike.{any_kept, both_hold}

-- contents after the end of a request
abbrev closed : Contents → Contents
closed c = record { standing = c.standing; owned = c.owned; roots = filter (λ name. has_name name c) c.roots; request = None }

ends_at : (c : Contents) (request : Option Open) → is_some request ≡ true → is_small c ≡ true → applying.ended c request ≡ Some (closed c)
ends_at c None is small = absurd (let e : false ≡ true = is in cc)
ends_at c (Some request) is small = both_hold true (are_few (entries_of c) && are_few_paths c.owned) (closed c) refl small

is_open_said : (request : Option Request) → is_some (option_map open_of request) ≡ is_some request
is_open_said None = refl
is_open_said (Some request) = refl

named_said : (name : List ℕ) (members : List Member) → list_any (is_named name) (map member_entry members) ≡ is_entry_name members name
named_said name [] = refl
named_said name (m ∷ members) = ap (λ b. bytes_eq name m.package.pkg.name || b) (named_said name members)

closed_said : (state : SwitchState) (c : Contents) → IsSameSwitch (contents_in state) c → IsSameSwitch (contents_in (state_ended state)) (closed c)
closed_said state c same = record {
  entries = same.entries;
  owned = same.owned;
  roots = λ name.
      any_kept (λ n. has_name n c) name c.roots
      ∙ (λ i. same.roots name i && (ap (list_any (is_named name)) (same.entries ∙ entries_said state) ∙ named_said name state.members) i)
      ∙ sym (any_kept (is_entry_name state.members) name state.roots);
  request = refl;
}

module _ {now : Now} {files : Tree} {told : Option Told} {ready : Ready} (can : CanAct now files told) (asked : IsSome now.state.request) (made : IsReady now.head.next End [] ready) where
  abbrev pub step : Step
  step = record { before = can.stands.contents; entry = End; after = closed can.stands.contents; files = files }

  pub can_step : steps.CanCommit now.head step ready told
  can_step = record {
    few = can.few;
    made = made;
    applies = ends_at can.stands.contents can.stands.contents.request (ap is_some can.stands.same.request ∙ is_open_said now.state.request ∙ asked) (read_small can.stands.journal.reads);
    begins = λ is. absurd (let e : false ≡ true = is in cc);
    stands = can.stands.journal;
  }

  pub around : (image : Tree) → IsAround step image → IsAroundEnd now.state files image
  around image (inl before) = inl (record { contents = can.stands.contents; same = can.stands.same; comes = before })
  around image (inr after) = inr (record { contents = closed can.stands.contents; same = closed_said now.state can.stands.contents can.stands.same; comes = after })

  pub stands_after : (told_then : Option Told) → StandsFor (with_one_more now.head) (closed can.stands.contents) files told_then → SwitchStands (with_one_more now.head) (state_ended now.state) files told_then
  stands_after told_then stands = record { contents = closed can.stands.contents; same = closed_said now.state can.stands.contents can.stands.same; journal = stands }

-- its record, its gate and the next gate lie in the journal
pub outside_stays : (number : ℕ) (ready : Ready) (tree image : Tree) → IsReady number End [] ready → IsSameBut (paths_of_ready ready) tree image → AgreeOutside tree image
outside_stays number ready tree image made same = λ q out.
    subst (λ (r : Ready). IsSameBut (paths_of_ready r) tree image) made.parts same q
    (none (bytes_eq q (gate_path (number + 1))) (bytes_eq q (record_path number)) (bytes_eq q (gate_path number))
    (outside_apart q (gate_path (number + 1)) refl out) (outside_apart q (record_path number) refl out) (outside_apart q (gate_path number) refl out))
  where
    none : (a b c : Bool) → a ≡ false → b ≡ false → c ≡ false → (a || (b || (c || false))) ≡ false
    none a b c one two three = rw (one, two, three) refl

-- ---- before anything is written

-- files that are the same everywhere come to the same
pub comes_now : {head : Head} {c : Contents} {files : Tree} {told : Option Told} → (s : StandsFor head c files told) → (image : Tree) → ((q : List ℕ) → get image q ≡ get s.tree q) → ComesTo c files image
comes_now {files = files} s image same = comes_there s.reads files image (record {
  same_slots = slots_inside s.tree image (λ q inside. same q);
  counted = holds_inside (first_number (counting s.reads.zero s.reads.one)) (texts_of s.reads.counted) s.tree image (λ q inside. same q) (texts_held s.reads.counted);
  same_files = λ q out. get_both image s.tree s.work q (same q) ∙ s.done q out;
})

-- a stop at this very moment leaves the state
pub stops_now : {D : Type 0} (g : Ghosts D) → NowIs g → (now : Now) (files : Tree) (d : D) → CanAct now files (g.told d) → StopsLeave g (IsAroundEnd now.state files) d d
stops_now g now_is now files d can =
    stops_by now_is (IsAroundEnd now.state files) [] can.stands.journal.tree can.stands.journal.tells (touches_none [] d)
    (λ image same. inl (record { contents = can.stands.contents; same = can.stands.same; comes = comes_now can.stands.journal image (λ q. same q refl) }))
