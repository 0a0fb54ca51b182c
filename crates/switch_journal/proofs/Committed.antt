-- The three parts of a commit: what each leaves, and what a stop in it leaves.
use Rattle.std.proofs.Common.{◌≡◌, inl, inr, ℕ, ◌+◌, ◌<◌, ◌^◌, List, Bool, true, false, IsFalse, Some, None, refl, ◌∙◌, ap, arith}
use Rattle.std.specs.Prelude.{bytes_eq, ◌||◌}
use Rattle.std.specs.FinMap.{get}
use Rattle.std.specs.List.{list_all}
use Rattle.std.proofs.lemmas.Bool.{cases_Bool}
use Rattle.crash_disk.specs.Disks.{Tree, with_file}
use Rattle.crash_disk.specs.Stops.{IsSameBut}
use Rattle.crash_disk.specs.Writes.{paths_of, with_writes}
use Rattle.crash_disk.specs.declared.batch.Write.{Write}
use Rattle.crash_disk.proofs.Trees.{get_apart, get_here, get_off, get_same, is_among}
use Rattle.switch_journal.specs.Commits.{entry_writes, gate_writes, is_outside}
use Rattle.switch_journal.specs.Places.{gate_path, gate_text, is_inside, is_open, opens, record_path, slot_gate, slot_path, text_of}
use Rattle.switch_journal.specs.Texts.{IsBeforeOrAfter, IsReadAs, IsWhole, Journal, next_number, with_record}
use Rattle.switch_journal.proofs.Apart.{gates_differ, off_outside, outside_apart, records_differ}
use Rattle.switch_journal.proofs.Read.{SameBelow, closed_at_end, reads_after, reads_before, slot_same}

neither : (a b : Bool) → a ≡ false → b ≡ false → (a || b) ≡ false
neither a b p q = rw (p, q) refl

module _ (number : ℕ) (text : List ℕ) (fits : number + 1 < 2 ^ 64) where
  off_entry : (q : List ℕ) → bytes_eq q (gate_path (number + 1)) ≡ false → bytes_eq q (record_path number) ≡ false → is_among (entry_writes number text) q ≡ false
  off_entry q a b = neither (bytes_eq q (gate_path (number + 1))) (bytes_eq q (record_path number) || false) a (neither (bytes_eq q (record_path number)) false b refl)

  off_gate : (q : List ℕ) → bytes_eq q (gate_path number) ≡ false → is_among (gate_writes number) q ≡ false
  off_gate q a = neither (bytes_eq q (gate_path number)) false a refl

  entry_gate : (j : ℕ) → j < number + 1 → is_among (entry_writes number text) (gate_path j) ≡ false
  entry_gate j lt = off_entry (gate_path j) (gates_differ j (number + 1) (omega arith) fits (λ same. omega arith)) refl

  entry_entry : (j : ℕ) → j < number → is_among (entry_writes number text) (record_path j) ≡ false
  entry_entry j lt = off_entry (record_path j) refl (records_differ j number (omega arith) (omega arith) (λ same. omega arith))

  entry_slot : (slot : Bool) → is_among (entry_writes number text) (slot_path slot) ≡ false
  entry_slot false = refl
  entry_slot true = refl

  entry_slot_gate : (slot : Bool) → is_among (entry_writes number text) (slot_gate slot) ≡ false
  entry_slot_gate false = refl
  entry_slot_gate true = refl

  entry_outside : (q : List ℕ) → IsFalse (is_inside q) → is_among (entry_writes number text) q ≡ false
  entry_outside q out = off_entry q (outside_apart q (gate_path (number + 1)) refl out) (outside_apart q (record_path number) refl out)

  gate_slot : (slot : Bool) → is_among (gate_writes number) (slot_path slot) ≡ false
  gate_slot false = refl
  gate_slot true = refl

  gate_slot_gate : (slot : Bool) → is_among (gate_writes number) (slot_gate slot) ≡ false
  gate_slot_gate false = refl
  gate_slot_gate true = refl

  gate_outside : (q : List ℕ) → IsFalse (is_inside q) → is_among (gate_writes number) q ≡ false
  gate_outside q out = off_gate q (outside_apart q (gate_path number) refl out)

module _ (j : Journal) (text : List ℕ) (writes : List Write) (tree : Tree) (few : next_number j < 2 ^ 63) (apart : list_all is_outside writes ≡ true) (whole : IsWhole j tree) where
  abbrev number : ℕ
  number = next_number j

  abbrev pub one : Tree
  one = with_writes (entry_writes number text) tree

  abbrev pub two : Tree
  two = with_writes (gate_writes number) one

  abbrev pub three : Tree
  three = with_writes writes two

  fits : number + 1 < 2 ^ 64
  fits = omega (arith, few)

  closed : IsFalse (is_open number tree)
  closed = closed_at_end j.first j.records tree whole.reads.counted

  -- in the first part the records stay
  pub first_part : (image : Tree) → IsSameBut (paths_of (entry_writes number text)) tree image → IsReadAs j image
  first_part image same =
      reads_before j text writes tree whole image
      (record {
        slots = λ slot. slot_same slot tree image (same (slot_gate slot) (entry_slot_gate number text fits slot)) (same (slot_path slot) (entry_slot number text fits slot));
        gates = λ k lt. same (gate_path k) (entry_gate number text fits k (omega arith));
        entries = λ k lt. same (record_path k) (entry_entry number text fits k lt);
      })
      (ap opens (same (gate_path number) (entry_gate number text fits number (omega arith))) ∙ closed)
      (λ q out. same q (entry_outside number text fits q out))

  -- what stands then
  entry_there : get one (record_path number) ≡ Some (record { bytes = text; exec = false })
  entry_there = get_here (with_file tree (gate_path (number + 1)) None) (record_path number) (Some (record { bytes = text; exec = false }))

  next_absent : get one (gate_path (number + 1)) ≡ None
  next_absent =
      get_apart (with_file tree (gate_path (number + 1)) None) (record_path number) (gate_path (number + 1)) (Some (record { bytes = text; exec = false })) refl
      ∙ get_here tree (gate_path (number + 1)) None

  one_below : SameBelow number tree one
  one_below = record {
    slots = λ slot. slot_same slot tree one (get_off tree (entry_writes number text) (slot_gate slot) (entry_slot_gate number text fits slot)) (get_off tree (entry_writes number text) (slot_path slot) (entry_slot number text fits slot));
    gates = λ k lt. get_off tree (entry_writes number text) (gate_path k) (entry_gate number text fits k (omega arith));
    entries = λ k lt. get_off tree (entry_writes number text) (record_path k) (entry_entry number text fits k lt);
  }

  -- the slots and the records below, the new record, and no gate after it
  record Ready (image : Tree) : Type 0 where
    below : SameBelow number tree image
    entry_is : text_of (get image (record_path number)) ≡ Some text
    next : IsFalse (is_open (number + 1) image)

  slot_gate_apart : (slot : Bool) → bytes_eq (slot_gate slot) (gate_path number) ≡ false
  slot_gate_apart false = refl
  slot_gate_apart true = refl

  slot_apart : (slot : Bool) → bytes_eq (slot_path slot) (gate_path number) ≡ false
  slot_apart false = refl
  slot_apart true = refl

  slot_gate_in : (slot : Bool) → is_inside (slot_gate slot) ≡ true
  slot_gate_in false = refl
  slot_gate_in true = refl

  slot_in : (slot : Bool) → is_inside (slot_path slot) ≡ true
  slot_in false = refl
  slot_in true = refl

  ready_by : (image : Tree) → ((q : List ℕ) → is_inside q ≡ true → bytes_eq q (gate_path number) ≡ false → get image q ≡ get one q) → Ready image
  ready_by image same = record {
    below = record {
      slots = λ slot. slot_same slot one image (same (slot_gate slot) (slot_gate_in slot) (slot_gate_apart slot)) (same (slot_path slot) (slot_in slot) (slot_apart slot)) ∙ one_below.slots slot;
      gates = λ k lt. same (gate_path k) refl (gates_differ k number (omega (arith, fits)) (omega (arith, fits)) (λ is. omega arith)) ∙ one_below.gates k lt;
      entries = λ k lt. same (record_path k) refl refl ∙ one_below.entries k lt;
    };
    entry_is = ap text_of (same (record_path number) refl refl ∙ entry_there);
    next = ap opens (same (gate_path (number + 1)) refl (gates_differ (number + 1) number fits (omega (arith, fits)) (λ is. omega arith)) ∙ next_absent);
  }

  -- in the second part either
  pub second_part : (image : Tree) → IsSameBut (paths_of (gate_writes number)) one image → IsBeforeOrAfter j text writes image
  second_part image same =
      let ready = ready_by image (λ q inside off. same q (off_gate number text fits q off)) in
      let files : (q : List ℕ) → IsFalse (is_inside q) → get image q ≡ get tree q =
      λ q out. same q (gate_outside number text fits q out) ∙ get_off tree (entry_writes number text) q (entry_outside number text fits q out) in
      elim (cases_Bool (is_open number image)) [
        | inl opened ↦ inr (reads_after j text writes tree whole image ready.below opened ready.entry_is ready.next (λ q out off. files q out))
        | inr shut ↦ inl (reads_before j text writes tree whole image ready.below shut files)
      ]

  gate_there : get two (gate_path number) ≡ Some (record { bytes = gate_text; exec = false })
  gate_there = get_here one (gate_path number) (Some (record { bytes = gate_text; exec = false }))

  outer : (q : List ℕ) → IsFalse (is_inside q) → get two q ≡ get tree q
  outer q out = get_off one (gate_writes number) q (gate_outside number text fits q out) ∙ get_off tree (entry_writes number text) q (entry_outside number text fits q out)

  -- in the third part the new record is among them
  pub third_part : (image : Tree) → IsSameBut (paths_of writes) two image → IsReadAs (with_record j text writes) image
  third_part image same =
      let inner : (q : List ℕ) → is_inside q ≡ true → get image q ≡ get two q = λ q inside. same q (off_outside writes q apart inside) in
      let ready = ready_by image (λ q inside off. inner q inside ∙ get_off one (gate_writes number) q (off_gate number text fits q off)) in
      reads_after j text writes tree whole image ready.below (ap opens (inner (gate_path number) refl ∙ gate_there)) ready.entry_is ready.next
      (λ q out off. same q off ∙ outer q out)

  -- once all is done
  pub whole_after : IsWhole (with_record j text writes) three
  whole_after = record {
    reads = third_part three (λ q off. get_off two writes q off);
    same_files = λ q out. get_same two j.files writes q (λ off. outer q out ∙ whole.same_files q out);
  }
