-- What the opening of a journal makes of a disk.
use Rattle.std.proofs.Common.{◌≡◌, ◌∙◌, inl, inr, ℕ, List, [], Bool, true, false, refl, sym, subst, ap, arith, Option, Some, None, Result, Ok, Err, OnOk, if◌then◌else◌}
use Rattle.std.specs.Prelude.{is_some}
use Rattle.std.specs.Option.{option_map}
use Rattle.crash_disk.specs.Disks.{State, Tree}
use Rattle.crash_disk.specs.Effects.{Advances, Leaves, OnlyReads, Touches, at_rest, unchanged}
use Rattle.crash_disk.specs.Stops.{IsSameBut, StopsLeave}
use Rattle.crash_disk.specs.Writes.{paths_of, with_writes}
use Rattle.crash_disk.specs.declared.batch.Write.{Write}
use Rattle.crash_disk.specs.declared.disk.Disk.{Ghosts}
use Rattle.crash_disk.proofs.Effects.{touches_more, touches_reading, touches_then}
use Rattle.crash_disk.proofs.Stops.{NowIs, leaves_at, rests_then, stops_by, stops_off, stops_then}
use Rattle.switch_journal.specs.Contents.{Contents}
use Rattle.switch_journal.specs.Found.{counting_of, found_of}
use Rattle.switch_journal.specs.Journal.{Head, IsReadAt}
use Rattle.switch_journal.specs.Opening.{CountedOpening, CountsFault, IsNamed, IsOpened, IsWhileOpening, OpenAlike, Opening, TouchesLast, begun_with, opened_of}
use Rattle.switch_journal.specs.Reading.{BadAt, FoundSlot, Reads, SlotIs, at_end, counting, read, second_counts}
use Rattle.switch_journal.specs.Texts.{IsReadAs}
use Rattle.switch_journal.specs.Walks.{IsWalkedAfter}
use Rattle.switch_journal.specs.declared.fault.OpenFault.{OpenFault}
use Rattle.switch_journal.specs.declared.fault.OpenFault.TheVariants as fault
use Rattle.switch_journal.specs.declared.open_slot.OpenSlot.{OpenSlot}
use Rattle.switch_journal.specs.declared.walk.Walked.{Walked}
use Rattle.switch_journal.specs.declared.walk.Walked.TheVariants as walked
use Rattle.switch_journal.specs.declared.opening.Opened.TheVariants as opened
use Rattle.switch_journal.proofs.Bridge.{journal_of, read_as, read_there, stands_there}
use Rattle.switch_journal.proofs.Outside.{work_outside}
use Rattle.switch_journal.proofs.Read.{reads_again, whole_again}

-- ---- what is read

pub first_bad : (tree : Tree) (path : List ℕ) (place : List ℕ) → path ≡ place → Reads tree (BadAt place) → IsOpened tree (opened.Bad path)
first_bad tree path place same is = subst (λ (p : List ℕ). Reads tree (BadAt p)) (sym same) is

by_test : (b : Bool) (first second : OpenSlot) → option_map found_of (if b then Some second else Some first) ≡ (if b then Some (found_of second) else Some (found_of first))
by_test true first second = refl
by_test false first second = refl

-- the slot that counts
counted_is : (zero one : Option OpenSlot) → option_map found_of (counting_of zero one) ≡ counting (option_map found_of zero) (option_map found_of one)
counted_is None second = refl
counted_is (Some first) None = refl
counted_is (Some first) (Some second) = by_test (second_counts (found_of first) (found_of second)) first second

is_found : (found : Option OpenSlot) → is_some (option_map found_of found) ≡ is_some found
is_found None = refl
is_found (Some slot) = refl

bad_end : (old : Bool) (path : List ℕ) → at_end old (BadAt path) ≡ BadAt path
bad_end true path = refl
bad_end false path = refl

walk_ends : (tree : Tree) (zero one : Option FoundSlot) → SlotIs tree false zero → SlotIs tree true one → (w : Walked) → IsWalkedAfter tree (counting zero one) w
    → IsOpened tree (opened_of (begun_with (counting zero one) (is_some zero) (is_some one)) w)
walk_ends tree zero one zero_is one_is (walked.Bad number) is = subst (Reads tree) (bad_end is.0 _) (read zero_is one_is is.1 is.2)
walk_ends tree zero one zero_is one_is (walked.Whole old next walk) is = record {
  zero = zero;
  one = one;
  zero_is = zero_is;
  one_is = one_is;
  numbers = refl;
  format = is.0;
  said = walk.kept;
  counted = is.1;
  says = refl;
}

pub records_opened : (tree : Tree) (zero one counted : Option OpenSlot) (zero_is_open one_is_open : Bool) (head : Head) → SlotIs tree false (option_map found_of zero) → SlotIs tree true (option_map found_of one)
    → counted ≡ counting_of zero one → zero_is_open ≡ is_some zero → one_is_open ≡ is_some one → head ≡ begun_with (option_map found_of counted) zero_is_open one_is_open
    → (w : Walked) → IsWalkedAfter tree (option_map found_of counted) w → IsOpened tree (opened_of head w)
records_opened tree zero one counted zero_is_open one_is_open head zero_is one_is same zero_open one_open begun w is =
    let found : option_map found_of counted ≡ counting (option_map found_of zero) (option_map found_of one) = ap (option_map found_of) same ∙ counted_is zero one in
    let heads : head ≡ begun_with (counting (option_map found_of zero) (option_map found_of one)) (is_some (option_map found_of zero)) (is_some (option_map found_of one)) =
    begun ∙ (λ i. begun_with (found i) ((zero_open ∙ sym (is_found zero)) i) ((one_open ∙ sym (is_found one)) i)) in
    subst (λ (h : Head). IsOpened tree (opened_of h w)) (sym heads)
    (walk_ends tree (option_map found_of zero) (option_map found_of one) zero_is one_is w (subst (λ (f : Option FoundSlot). IsWalkedAfter tree f w) found is))

-- ---- what is done

-- files of which an opening makes the same
alike : {head : Head} {c : Contents} {work : List Write} {tree : Tree} → (r : IsReadAt head c work tree) → (image : Tree) → IsSameBut (paths_of work) tree image → OpenAlike tree image
alike {head} {c} {work} {tree} r image same =
    let whole : IsReadAs (journal_of r (with_writes work tree)) tree = read_as r (with_writes work tree) (λ q out. refl) in
    let again = reads_again (journal_of r (with_writes work tree)) tree image (work_outside r) whole same in
    record {
      head = head;
      contents = c;
      work = work;
      here = r;
      there = read_there r (with_writes work tree) image again;
      same_files = again.same_files;
    }

module _ {D : Type 0} (g : Ghosts D) (now_is : NowIs g) (s : State) where
  module _ {head : Head} {c : Contents} {work : List Write} (r : IsReadAt head c work s.files) {a b : D} (is : g.told a ≡ Some (at_rest s.files)) (touches : Touches g (paths_of work) a b) where
    redo_stops : StopsLeave g (IsWhileOpening s) a b
    redo_stops = stops_by now_is (IsWhileOpening s) (paths_of work) s.files is touches (λ image same. inr (alike r image same))

    pub redone : Leaves g (with_writes work) a b → Opening g s a b (Ok (head, c))
    redone leaves =
        let files = with_writes work s.files in
        let whole : IsReadAs (journal_of r files) s.files = read_as r files (λ q out. refl) in
        record {
          opens = record {
            work = work;
            reads = r;
            stands = stands_there r files (g.told b) (record { tree = files; tells = leaves_at g (with_writes work) a b s.files leaves is; whole = whole_again (journal_of r files) s.files (work_outside r) whole });
          };
          bad = tt;
          crash = redo_stops;
        }

    pub redo_failed : Opening g s a b (Err fault.DiskFailed)
    redo_failed = record { opens = tt; bad = tt; crash = redo_stops }

  -- nothing was touched
  read_stops : {a b : D} → g.told a ≡ Some (at_rest s.files) → OnlyReads g a b → StopsLeave g (IsWhileOpening s) a b
  read_stops is reads = stops_by now_is (IsWhileOpening s) [] s.files is (touches_reading [] reads) (λ image same. inl (λ q firm. same q refl))

  pub only_read : {a b : D} (result : Result (Head × Contents) OpenFault) → OnOk result ⊥ → IsNamed result s.files → g.told a ≡ Some (at_rest s.files) → OnlyReads g a b → Opening g s a b result
  only_read (Ok both) none named is reads = absurd none
  only_read (Err fault) none named is reads = record { opens = tt; bad = named; crash = read_stops is reads }

  -- what follows on calls that touch nothing
  then_opened : {a b c : D} {result : Result (Head × Contents) OpenFault} → Advances g a b → Advances g b c → StopsLeave g (IsWhileOpening s) a b → Opening g s b c result → Opening g s a c result
  then_opened before goes stops opening = record { opens = opening.opens; bad = opening.bad; crash = stops_then before goes stops opening.crash }

  pub read_then : {a b c : D} {result : Result (Head × Contents) OpenFault} → g.told a ≡ Some (at_rest s.files) → OnlyReads g a b → Advances g b c → Opening g s b c result → Opening g s a c result
  read_then is reads goes opening = then_opened reads.goes goes (read_stops is reads) opening

  -- the first sync
  sync_stops : {a b : D} → g.told a ≡ Some s → Touches g [] a b → StopsLeave g (IsWhileOpening s) a b
  sync_stops is touches = stops_off now_is (IsWhileOpening s) [] s is touches (λ image off. inl (λ q firm. off q refl firm))

  pub sync_failed : {a b : D} → g.told a ≡ Some s → Touches g [] a b → Opening g s a b (Err fault.DiskFailed)
  sync_failed is touches = record { opens = tt; bad = tt; crash = sync_stops is touches }

  pub sync_then : {a b c : D} {result : Result (Head × Contents) OpenFault} → g.told a ≡ Some s → Touches g [] a b → Advances g b c → Opening g s b c result → Opening g s a c result
  sync_then is touches goes opening = then_opened touches.goes goes (sync_stops is touches) opening

  pub told_then : {a b : D} → g.told a ≡ Some s → Leaves g unchanged a b → g.told b ≡ Some (at_rest s.files)
  told_then {a} {b} is leaves = rests_then g unchanged a b s leaves is

-- ---- what is touched

module _ {D : Type 0} {g : Ghosts D} where
  pub none_touched : {a b : D} → Touches g [] a b → TouchesLast g a b
  none_touched touches = record { work = []; touches = touches; last = λ s is. inl refl; outside = λ s is. refl }

  pub only_read_touched : {a b : D} → OnlyReads g a b → TouchesLast g a b
  only_read_touched reads = none_touched (touches_reading [] reads)

  pub read_touched : {a b c : D} {work : List Write} (head : Head) (said : Contents) → OnlyReads g a b → Touches g (paths_of work) b c → ((s : State) → g.told a ≡ Some s → IsReadAt head said work s.files) → TouchesLast g a c
  read_touched {work = work} head said reads touches is = record {
    work = work;
    touches = touches_then (touches_reading (paths_of work) reads) touches;
    last = λ s told. inr (head, said, is s told);
    outside = λ s told. work_outside (is s told);
  }

  pub sync_touched : {a b c : D} → Touches g [] a b → Leaves g unchanged a b → TouchesLast g b c → TouchesLast g a c
  sync_touched {a} {b} before leaves more = record {
    work = more.work;
    touches = touches_then (touches_more (λ q is. absurd (cc)) before) more.touches;
    last = λ s told. more.last (at_rest s.files) (rests_then g unchanged a b s leaves told);
    outside = λ s told. more.outside (at_rest s.files) (rests_then g unchanged a b s leaves told);
  }

-- ---- the count

counts_from : {T : Type 0} (a b c : ℕ) (result : Result T OpenFault) → b ≡ a → CountsFault b c result → CountsFault a c result
counts_from a b c result same counts = subst (λ (n : ℕ). CountsFault n c result) same counts

-- after calls of which none failed
pub quiet_then : {T : Type 0} (a b c : ℕ) (result : Result T OpenFault) → b ≡ a → CountedOpening b c result → CountedOpening a c result
quiet_then a b c result same counts = record { later = let later = counts.later in omega (arith, same, later); counted = counts_from a b c result same counts.counted }
