-- The journal's own paths, and what is left of a disk on which only these are touched.
use Rattle.std.proofs.Common.{◌≡◌, ◌∙◌, ℕ, ◌+◌, ◌-◌, suc, zero, List, [], ◌∷◌, ◌++◌, Bool, true, false, refl, sym, ap, subst, Some}
use Rattle.std.specs.Prelude.{◌||◌, IsFalse, bytes_eq}
use Rattle.std.specs.List.{list_any}
use Rattle.std.proofs.lemmas.List.Folds.{list_any-append}
use Rattle.crash_disk.specs.Disks.{State as Told, Tree}
use Rattle.crash_disk.specs.Effects.{at_rest, is_one}
use Rattle.crash_disk.specs.Stops.{StopsLeave}
use Rattle.crash_disk.specs.Writes.{paths_of}
use Rattle.crash_disk.specs.declared.disk.Disk.{Ghosts}
use Rattle.crash_disk.proofs.Effects.{touches_both, touches_none}
use Rattle.crash_disk.proofs.Stops.{NowIs, stops_by}
use Rattle.journal_text.specs.declared.record.Rec.{Rec}
use Rattle.switch_journal.specs.Commits.{paths_of_ready}
use Rattle.switch_journal.specs.Journal.{AgreeOutside, Head}
use Rattle.switch_journal.specs.Places.{gate_path, is_inside, record_path, slot_gate, slot_path}
use Rattle.switch_journal.specs.Slots.{old_writes, paths_of_slot, shut_writes}
use Rattle.switch_journal.specs.Snapshots.{IsSlotReady, place_for, slot_for, slot_is_open}
use Rattle.switch_journal.specs.Steps.{IsReady}
use Rattle.switch_journal.specs.declared.commits.Ready.{Ready}
use Rattle.switch_journal.specs.declared.slots.ReadySlot.{ReadySlot}
use Rattle.switch_journal.proofs.Apart.{outside_apart}
use Rattle.switch_state.specs.Ends.{TouchesInside}
use Rattle.switch_state.specs.Prepares.{CanAct}
use Rattle.switch_state.specs.State.{Now, Recovers}
use Rattle.switch_state.proofs.Closing.{comes_now}

-- ---- the paths

three : (a b c : Bool) → a ≡ false → b ≡ false → c ≡ false → (a || (b || (c || false))) ≡ false
three a b c one two last = rw (one, two, last) refl

pub ready_inside : (number : ℕ) (entry : Rec) (ready : Ready) → IsReady number entry [] ready → (q : List ℕ) → IsFalse (is_inside q) → IsFalse (is_one (paths_of_ready ready) q)
ready_inside number entry ready made q out =
    subst (λ (r : Ready). is_one (paths_of_ready r) q ≡ false) (sym made.parts)
    (three (bytes_eq q (gate_path (number + 1))) (bytes_eq q (record_path number)) (bytes_eq q (gate_path number)) (outside_apart q (gate_path (number + 1)) refl out) (outside_apart q (record_path number) refl out) (outside_apart q (gate_path number) refl out))

joined : (q : List ℕ) (xs ys : List (List ℕ)) → is_one xs q ≡ false → is_one ys q ≡ false → is_one (xs ++ ys) q ≡ false
joined q xs ys one two = list_any-append (bytes_eq q) xs ys ∙ (λ i. one i || two i)

alone : (q p : List ℕ) → bytes_eq q p ≡ false → is_one (p ∷ []) q ≡ false
alone q p one = rw one refl

shut_inside : (q : List ℕ) → IsFalse (is_inside q) → (slot is_open : Bool) → is_one (paths_of (shut_writes slot is_open)) q ≡ false
shut_inside q out true true = alone q (slot_gate true) (outside_apart q (slot_gate true) refl out)
shut_inside q out false true = alone q (slot_gate false) (outside_apart q (slot_gate false) refl out)
shut_inside q out slot false = refl

slot_there : (q : List ℕ) → IsFalse (is_inside q) → (slot : Bool) → bytes_eq q (slot_path slot) ≡ false
slot_there q out true = outside_apart q (slot_path true) refl out
slot_there q out false = outside_apart q (slot_path false) refl out

gate_there : (q : List ℕ) → IsFalse (is_inside q) → (slot : Bool) → bytes_eq q (slot_gate slot) ≡ false
gate_there q out true = outside_apart q (slot_gate true) refl out
gate_there q out false = outside_apart q (slot_gate false) refl out

old_inside : (q : List ℕ) → IsFalse (is_inside q) → (k n : ℕ) → is_one (paths_of (old_writes k n)) q ≡ false
old_inside q out k zero = refl
old_inside q out k (suc n) =
    let one = outside_apart q (gate_path k) refl out in
    let two = outside_apart q (record_path k) refl out in
    let rest = old_inside q out (k + 1) n in
    rw (one, two) rest

pub slot_inside : (head : Head) (text : List ℕ) (ready : ReadySlot) → ready ≡ slot_for head text → (q : List ℕ) → IsFalse (is_inside q) → IsFalse (is_one (paths_of_slot ready) q)
slot_inside head text ready is q out =
    let place = place_for head in
    subst (λ (r : ReadySlot). is_one (paths_of_slot r) q ≡ false) (sym is)
    (joined q (paths_of (shut_writes place (slot_is_open head place)) ++ slot_path place ∷ [] ++ slot_gate place ∷ []) (paths_of (old_writes head.first (head.next - head.first)))
    (joined q (paths_of (shut_writes place (slot_is_open head place)) ++ slot_path place ∷ []) (slot_gate place ∷ [])
    (joined q (paths_of (shut_writes place (slot_is_open head place))) (slot_path place ∷ []) (shut_inside q out place (slot_is_open head place)) (alone q (slot_path place) (slot_there q out place)))
    (alone q (slot_gate place) (gate_there q out place)))
    (old_inside q out head.first (head.next - head.first)))

-- ---- what is touched

module _ {D : Type 0} {g : Ghosts D} where
  pub inside_none : (d : D) → TouchesInside g d d
  inside_none d = record { paths = []; inside = λ q out. refl; touches = touches_none [] d }

  pub inside_then : {a b c : D} → TouchesInside g a b → TouchesInside g b c → TouchesInside g a c
  inside_then one two = record {
    paths = one.paths ++ two.paths;
    inside = λ q out. joined q one.paths two.paths (one.inside q out) (two.inside q out);
    touches = touches_both one.touches two.touches;
  }

  -- the switch's own files stay
  pub inside_agrees : NowIs g → {a b : D} → TouchesInside g a b → (tree : Tree) → g.told a ≡ Some (at_rest tree) → StopsLeave g (AgreeOutside tree) a b
  inside_agrees now_is all tree is = stops_by now_is (AgreeOutside tree) all.paths tree is all.touches (λ image same q out. same q (all.inside q out))

-- a stop at this very moment leaves the state
pub stays_now : {D : Type 0} (g : Ghosts D) → NowIs g → (now : Now) (files : Tree) (d : D) → CanAct now files (g.told d) → StopsLeave g (Recovers now.state files) d d
stays_now g now_is now files d can =
    stops_by now_is (Recovers now.state files) [] can.stands.journal.tree can.stands.journal.tells (touches_none [] d)
    (λ image same. record { contents = can.stands.contents; same = can.stands.same; comes = comes_now can.stands.journal image (λ q. same q refl) })
