-- The parts of writing a slot: what a stop in each leaves.
use Rattle.std.proofs.Common.{◌≡◌, inl, inr, ℕ, zero, suc, ◌+◌, ◌<◌, ◌≤◌, ◌^◌, List, [], ◌∷◌, ◌++◌, length, not, Bool, true, false, IsFalse, Option, Some, None, refl, sym, ◌∙◌, ap, arith, add-one, append_assoc, if◌then◌else◌}
use Rattle.std.specs.Prelude.{bytes_eq, ◌||◌, is_some}
use Rattle.std.specs.FinMap.{get}
use Rattle.std.proofs.lemmas.Bool.{cases_Bool}
use Rattle.crash_disk.specs.Disks.{Kept, Tree, with_file}
use Rattle.crash_disk.specs.Stops.{IsSameBut}
use Rattle.crash_disk.specs.Writes.{paths_of, with_writes}
use Rattle.crash_disk.specs.declared.batch.Write.{Write}
use Rattle.crash_disk.specs.declared.batch.Write.TheVariants.{Remove}
use Rattle.crash_disk.proofs.Trees.{get_here, get_off, get_same, is_among}
use Rattle.switch_journal.specs.Places.{gate_path, gate_text, is_inside, opens, record_path, slot_gate, slot_path, text_of}
use Rattle.switch_journal.specs.Slots.{IsSlotStage, old_writes, shut_slot, shut_writes, slot_gate_writes, slot_writes, slot_written, slots_with}
use Rattle.switch_journal.specs.Texts.{HoldsFrom, IsReadAs, IsWhole, Journal, next_number, slot_at}
use Rattle.switch_journal.proofs.Apart.{gates_differ, outside_apart}
use Rattle.switch_journal.proofs.Read.{closed_at_end, holds_at, slot_same}

neither : (a b : Bool) → a ≡ false → b ≡ false → (a || b) ≡ false
neither a b p q = rw (p, q) refl

-- all is the same but for the two files of a slot
record Moves (slot : Bool) (tree image : Tree) : Type 0 where
  other : slot_at (not slot) image ≡ slot_at (not slot) tree
  gates : (k : ℕ) → get image (gate_path k) ≡ get tree (gate_path k)
  entries : (k : ℕ) → get image (record_path k) ≡ get tree (record_path k)
  outside : (q : List ℕ) → IsFalse (is_inside q) → get image q ≡ get tree q

alone : (q p : List ℕ) → bytes_eq q p ≡ false → (bytes_eq q p || false) ≡ false
alone q p apart = neither (bytes_eq q p) false apart refl

gate_moves : (slot : Bool) (tree image : Tree) → IsSameBut (slot_gate slot ∷ []) tree image → Moves slot tree image
gate_moves false tree image same = record {
  other = slot_same true tree image (same (slot_gate true) refl) (same (slot_path true) refl);
  gates = λ k. same (gate_path k) refl;
  entries = λ k. same (record_path k) refl;
  outside = λ q out. same q (alone q (slot_gate false) (outside_apart q (slot_gate false) refl out));
}
gate_moves true tree image same = record {
  other = slot_same false tree image (same (slot_gate false) refl) (same (slot_path false) refl);
  gates = λ k. same (gate_path k) refl;
  entries = λ k. same (record_path k) refl;
  outside = λ q out. same q (alone q (slot_gate true) (outside_apart q (slot_gate true) refl out));
}

slot_moves : (slot : Bool) (tree image : Tree) → IsSameBut (slot_path slot ∷ []) tree image → Moves slot tree image
slot_moves false tree image same = record {
  other = slot_same true tree image (same (slot_gate true) refl) (same (slot_path true) refl);
  gates = λ k. same (gate_path k) refl;
  entries = λ k. same (record_path k) refl;
  outside = λ q out. same q (alone q (slot_path false) (outside_apart q (slot_path false) refl out));
}
slot_moves true tree image same = record {
  other = slot_same false tree image (same (slot_gate false) refl) (same (slot_path false) refl);
  gates = λ k. same (gate_path k) refl;
  entries = λ k. same (record_path k) refl;
  outside = λ q out. same q (alone q (slot_path true) (outside_apart q (slot_path true) refl out));
}

path_off_gate : (slot : Bool) → (bytes_eq (slot_path slot) (slot_gate slot) || false) ≡ false
path_off_gate false = refl
path_off_gate true = refl

gate_off_path : (slot : Bool) → (bytes_eq (slot_gate slot) (slot_path slot) || false) ≡ false
gate_off_path false = refl
gate_off_path true = refl

-- a slot by what stands at its gate
slot_shut : (slot : Bool) (tree : Tree) → opens (get tree (slot_gate slot)) ≡ false → slot_at slot tree ≡ None
slot_shut slot tree shut = ap (λ (b : Bool). if b then Some (text_of (get tree (slot_path slot))) else None) shut

slot_open : (slot : Bool) (tree : Tree) (text : List ℕ) → opens (get tree (slot_gate slot)) ≡ true → text_of (get tree (slot_path slot)) ≡ Some text → slot_at slot tree ≡ Some (Some text)
slot_open slot tree text opened there = ap (λ (b : Bool). if b then Some (text_of (get tree (slot_path slot))) else None) opened ∙ ap (λ (o : Option (List ℕ)). Some o) there

gate_of_none : (b : Bool) (x : Option (List ℕ)) → (if b then Some x else None) ≡ None → b ≡ false
gate_of_none true x is = absurd (cc)
gate_of_none false x is = refl

open_of : (b : Bool) (x : Option (List ℕ)) → is_some (if b then Some x else None) ≡ true → b ≡ true
open_of true x is = refl
open_of false x is = is

shut_of : (slot : Bool) (tree : Tree) → slot_at slot tree ≡ None → opens (get tree (slot_gate slot)) ≡ false
shut_of slot tree none = gate_of_none (opens (get tree (slot_gate slot))) (text_of (get tree (slot_path slot))) none

-- all of a journal but one of its slots
pub record Beside (j : Journal) (slot : Bool) (tree : Tree) : Type 0 where
  other : slot_at (not slot) tree ≡ j.slots (not slot)
  counted : HoldsFrom j.first j.records tree
  files : (q : List ℕ) → IsFalse (is_inside q) → get tree q ≡ get j.files q

pub beside : (j : Journal) (slot : Bool) (tree : Tree) → IsWhole j tree → Beside j slot tree
beside j slot tree whole = record { other = whole.reads.same_slots (not slot); counted = whole.reads.counted; files = whole.same_files }

beside_moved : (j : Journal) (slot : Bool) (tree image : Tree) → Moves slot tree image → Beside j slot tree → Beside j slot image
beside_moved j slot tree image moves there = record {
  other = moves.other ∙ there.other;
  counted = holds_at j.first j.records tree image moves.gates moves.entries there.counted;
  files = λ q out. moves.outside q out ∙ there.files q out;
}

slots_are : (slots : Bool → Option (Option (List ℕ))) (slot : Bool) (now : Option (Option (List ℕ))) (image : Tree) → slot_at slot image ≡ now → slot_at (not slot) image ≡ slots (not slot) → (s : Bool) → slot_at s image ≡ slots_with slots slot now s
slots_are slots false now image here other false = here
slots_are slots false now image here other true = other
slots_are slots true now image here other false = other
slots_are slots true now image here other true = here

slots_stay : (slots : Bool → Option (Option (List ℕ))) (slot : Bool) (image : Tree) → slot_at slot image ≡ slots slot → slot_at (not slot) image ≡ slots (not slot) → (s : Bool) → slot_at s image ≡ slots s
slots_stay slots false image here other false = here
slots_stay slots false image here other true = other
slots_stay slots true image here other false = other
slots_stay slots true image here other true = here

-- ---- the old gates and records lie apart

old_slot : (k n : ℕ) (slot : Bool) → is_among (old_writes k n) (slot_path slot) ≡ false
old_slot k zero slot = refl
old_slot k (suc n) false = old_slot (k + 1) n false
old_slot k (suc n) true = old_slot (k + 1) n true

old_slot_gate : (k n : ℕ) (slot : Bool) → is_among (old_writes k n) (slot_gate slot) ≡ false
old_slot_gate k zero slot = refl
old_slot_gate k (suc n) false = old_slot_gate (k + 1) n false
old_slot_gate k (suc n) true = old_slot_gate (k + 1) n true

old_gate : (k n m : ℕ) → k + n ≤ m → m < 2 ^ 64 → is_among (old_writes k n) (gate_path m) ≡ false
old_gate k zero m le fits = refl
old_gate k (suc n) m le fits =
    neither (bytes_eq (gate_path m) (gate_path k)) (is_among (old_writes (k + 1) n) (gate_path m)) (gates_differ m k fits (omega (arith, le, fits)) (λ same. omega (arith, le))) (old_gate (k + 1) n m (omega (arith, le)) fits)

old_outside : (k n : ℕ) (q : List ℕ) → IsFalse (is_inside q) → is_among (old_writes k n) q ≡ false
old_outside k zero q out = refl
old_outside k (suc n) q out =
    neither (bytes_eq q (gate_path k)) (bytes_eq q (record_path k) || is_among (old_writes (k + 1) n) q) (outside_apart q (gate_path k) refl out)
    (neither (bytes_eq q (record_path k)) (is_among (old_writes (k + 1) n) q) (outside_apart q (record_path k) refl out) (old_outside (k + 1) n q out))

-- one more of them
pub old_more : (k n : ℕ) → old_writes k (n + 1) ≡ old_writes k n ++ Remove (gate_path (k + n)) ∷ Remove (record_path (k + n)) ∷ []
old_more k n = ap (old_writes k) (add-one n) ∙ old_last k n
  where
    old_last : (k n : ℕ) → old_writes k (suc n) ≡ old_writes k n ++ Remove (gate_path (k + n)) ∷ Remove (record_path (k + n)) ∷ []
    old_last k zero = let e : k ≡ k + 0 = omega arith in ap (λ (m : ℕ). Remove (gate_path m) ∷ Remove (record_path m) ∷ []) e
    old_last k (suc n) =
        ap (λ (ws : List Write). Remove (gate_path k) ∷ Remove (record_path k) ∷ ws) (old_last (k + 1) n ∙ (let e : k + 1 + n ≡ k + suc n = omega arith in ap (λ (m : ℕ). old_writes (k + 1) n ++ Remove (gate_path m) ∷ Remove (record_path m) ∷ []) e))

pub old_pushed : (k n : ℕ) (was one two : List Write) (gate path : List ℕ) → was ≡ old_writes k n → gate ≡ gate_path (k + n) → path ≡ record_path (k + n) → one ≡ was ++ Remove gate ∷ [] → two ≡ one ++ Remove path ∷ [] → two ≡ old_writes k (n + 1)
old_pushed k n was one two gate path a b c d e =
    e ∙ ap (λ (ws : List Write). ws ++ Remove path ∷ []) d ∙ append_assoc was (Remove gate ∷ []) (Remove path ∷ []) ∙ (λ i. a i ++ Remove (b i) ∷ Remove (c i) ∷ []) ∙ sym (old_more k n)

module _ (j : Journal) (slot : Bool) (text : List ℕ) (tree : Tree) (whole : IsWhole j tree) where
  again : (image : Tree) → Beside j slot image → (q : List ℕ) → IsFalse (is_inside q) → get (with_writes j.last image) q ≡ get j.files q
  again image there q out = get_same image tree j.last q (λ off. there.files q out ∙ sym (whole.same_files q out)) ∙ whole.reads.same_files q out

  reads_same : (image : Tree) → Beside j slot image → slot_at slot image ≡ j.slots slot → IsReadAs j image
  reads_same image there here = record { same_slots = slots_stay j.slots slot image here there.other; counted = there.counted; same_files = again image there }

  reads_shut : (image : Tree) → Beside j slot image → slot_at slot image ≡ None → IsReadAs (shut_slot j slot) image
  reads_shut image there here = record { same_slots = slots_are j.slots slot None image here there.other; counted = there.counted; same_files = again image there }

  reads_written : (image : Tree) → Beside j slot image → slot_at slot image ≡ Some (Some text) → IsReadAs (slot_written j slot text) image
  reads_written image there here = record {
    same_slots = slots_are j.slots slot (Some (Some text)) image here there.other;
    counted = closed_at_end j.first j.records image there.counted;
    same_files = there.files;
  }

  -- ---- the gate is shut, if it is open

  abbrev pub shut_tree : Tree
  shut_tree = with_writes (shut_writes slot (is_some (j.slots slot))) tree

  moved_by : (b : Bool) (image : Tree) → is_some (j.slots slot) ≡ b → IsSameBut (paths_of (shut_writes slot b)) tree image → Moves slot tree image
  moved_by true image is same = gate_moves slot tree image same
  moved_by false image is same = gate_moves slot tree image (λ q off. same q refl)

  none_of : (o : Option (Option (List ℕ))) → is_some o ≡ false → o ≡ None
  none_of None is = refl
  none_of (Some x) is = absurd (cc)

  gate_open : is_some (j.slots slot) ≡ true → opens (get tree (slot_gate slot)) ≡ true
  gate_open is = open_of (opens (get tree (slot_gate slot))) (text_of (get tree (slot_path slot))) (ap (λ (o : Option (Option (List ℕ))). is_some o) (whole.reads.same_slots slot) ∙ is)

  open_same : (image : Tree) → is_some (j.slots slot) ≡ true → get image (slot_path slot) ≡ get tree (slot_path slot) → opens (get image (slot_gate slot)) ≡ true → slot_at slot image ≡ j.slots slot
  open_same image is file opened =
      ap (λ (b : Bool). if b then Some (text_of (get image (slot_path slot))) else None) (opened ∙ sym (gate_open is))
      ∙ ap (λ (f : Option Kept). if opens (get tree (slot_gate slot)) then Some (text_of f) else None) file ∙ whole.reads.same_slots slot

  stage_by : (b : Bool) (image : Tree) → is_some (j.slots slot) ≡ b → IsSameBut (paths_of (shut_writes slot b)) tree image → IsSlotStage j slot text image
  stage_by true image is same =
      let there = beside_moved j slot tree image (gate_moves slot tree image same) (beside j slot tree whole) in
      elim (cases_Bool (opens (get image (slot_gate slot)))) [
        | inl opened ↦ inl (reads_same image there (open_same image is (same (slot_path slot) (path_off_gate slot)) opened))
        | inr shut ↦ inr (inl (reads_shut image there (slot_shut slot image shut)))
      ]
  stage_by false image is same =
      let there = beside_moved j slot tree image (gate_moves slot tree image (λ q off. same q refl)) (beside j slot tree whole) in
      inl (reads_same image there (slot_same slot tree image (same (slot_gate slot) refl) (same (slot_path slot) refl) ∙ whole.reads.same_slots slot))

  pub first_part : (image : Tree) → IsSameBut (paths_of (shut_writes slot (is_some (j.slots slot)))) tree image → IsSlotStage j slot text image
  first_part image same = stage_by (is_some (j.slots slot)) image refl same

  shut_then : (b : Bool) → is_some (j.slots slot) ≡ b → slot_at slot (with_writes (shut_writes slot b) tree) ≡ None
  shut_then true is = slot_shut slot (with_file tree (slot_gate slot) None) (ap opens (get_here tree (slot_gate slot) None))
  shut_then false is = whole.reads.same_slots slot ∙ none_of (j.slots slot) is

  shut_beside : (b : Bool) → is_some (j.slots slot) ≡ b → Beside j slot (with_writes (shut_writes slot b) tree)
  shut_beside b is = beside_moved j slot tree (with_writes (shut_writes slot b) tree) (moved_by b (with_writes (shut_writes slot b) tree) is (λ q off. get_off tree (shut_writes slot b) q off)) (beside j slot tree whole)

  -- ---- the slot is put

  abbrev pub slot_tree : Tree
  slot_tree = with_writes (slot_writes slot text) shut_tree

  shut_stays : (image : Tree) → IsSameBut (slot_path slot ∷ []) shut_tree image → slot_at slot image ≡ None
  shut_stays image same = slot_shut slot image (ap opens (same (slot_gate slot) (gate_off_path slot)) ∙ shut_of slot shut_tree (shut_then (is_some (j.slots slot)) refl))

  slot_beside : (image : Tree) → IsSameBut (slot_path slot ∷ []) shut_tree image → Beside j slot image
  slot_beside image same = beside_moved j slot shut_tree image (slot_moves slot shut_tree image same) (shut_beside (is_some (j.slots slot)) refl)

  pub second_part : (image : Tree) → IsSameBut (paths_of (slot_writes slot text)) shut_tree image → IsSlotStage j slot text image
  second_part image same = inr (inl (reads_shut image (slot_beside image same) (shut_stays image same)))

  slot_tree_same : IsSameBut (slot_path slot ∷ []) shut_tree slot_tree
  slot_tree_same q off = get_off shut_tree (slot_writes slot text) q off

  text_there : text_of (get slot_tree (slot_path slot)) ≡ Some text
  text_there = ap text_of (get_here shut_tree (slot_path slot) (Some (record { bytes = text; exec = false })))

  -- ---- its gate is put

  abbrev pub gate_tree : Tree
  gate_tree = with_writes (slot_gate_writes slot) slot_tree

  gate_beside : (image : Tree) → IsSameBut (slot_gate slot ∷ []) slot_tree image → Beside j slot image
  gate_beside image same = beside_moved j slot slot_tree image (gate_moves slot slot_tree image same) (slot_beside slot_tree slot_tree_same)

  text_stays : (image : Tree) → IsSameBut (slot_gate slot ∷ []) slot_tree image → text_of (get image (slot_path slot)) ≡ Some text
  text_stays image same = ap text_of (same (slot_path slot) (path_off_gate slot)) ∙ text_there

  pub third_part : (image : Tree) → IsSameBut (paths_of (slot_gate_writes slot)) slot_tree image → IsSlotStage j slot text image
  third_part image same =
      let there = gate_beside image same in
      elim (cases_Bool (opens (get image (slot_gate slot)))) [
        | inl opened ↦ inr (inr (reads_written image there (slot_open slot image text opened (text_stays image same))))
        | inr shut ↦ inr (inl (reads_shut image there (slot_shut slot image shut)))
      ]

  gate_tree_same : IsSameBut (slot_gate slot ∷ []) slot_tree gate_tree
  gate_tree_same q off = get_off slot_tree (slot_gate_writes slot) q off

  written : IsReadAs (slot_written j slot text) gate_tree
  written = reads_written gate_tree (gate_beside gate_tree gate_tree_same) (slot_open slot gate_tree text (ap opens (get_here slot_tree (slot_gate slot) (Some (record { bytes = gate_text; exec = false })))) (text_stays gate_tree gate_tree_same))

  -- ---- the old gates and records are removed

  abbrev pub old_tree : Tree
  old_tree = with_writes (old_writes j.first (length j.records)) gate_tree

  pub last_part : (few : next_number j < 2 ^ 63) (image : Tree) → IsSameBut (paths_of (old_writes j.first (length j.records))) gate_tree image → IsReadAs (slot_written j slot text) image
  last_part few image same = record {
    same_slots = λ s. slot_same s gate_tree image (same (slot_gate s) (old_slot_gate j.first (length j.records) s)) (same (slot_path s) (old_slot j.first (length j.records) s)) ∙ written.same_slots s;
    counted = ap opens (same (gate_path (next_number j)) (old_gate j.first (length j.records) (next_number j) (omega arith) (omega (arith, few)))) ∙ written.counted;
    same_files = λ q out. same q (old_outside j.first (length j.records) q out) ∙ written.same_files q out;
  }

  pub fourth_part : (few : next_number j < 2 ^ 63) (image : Tree) → IsSameBut (paths_of (old_writes j.first (length j.records))) gate_tree image → IsSlotStage j slot text image
  fourth_part few image same = inr (inr (last_part few image same))

  pub whole_after : (few : next_number j < 2 ^ 63) → IsWhole (slot_written j slot text) old_tree
  whole_after few =
      let reads = last_part few old_tree (λ q off. get_off gate_tree (old_writes j.first (length j.records)) q off) in
      record { reads = reads; same_files = reads.same_files }
