-- How files are read before a record counts, and once it does.
use Rattle.std.proofs.Common.{◌≡◌, ℕ, ◌+◌, ◌<◌, List, [], ◌∷◌, ◌++◌, length, Bool, true, false, IsTrue, IsFalse, Option, Some, None, refl, sym, ◌∙◌, ap, subst, arith, if◌then◌else◌}
use Rattle.std.specs.FinMap.{get}
use Rattle.std.specs.List.{list_all}
use Rattle.crash_disk.specs.Disks.{Kept, Tree}
use Rattle.crash_disk.specs.Stops.{IsSameBut}
use Rattle.crash_disk.specs.Writes.{paths_of, with_writes}
use Rattle.crash_disk.specs.declared.batch.Write.{Write}
use Rattle.crash_disk.proofs.Trees.{get_off, get_same, is_among}
use Rattle.switch_journal.specs.Commits.{is_outside}
use Rattle.switch_journal.specs.Places.{gate_path, is_inside, is_open, opens, record_path, slot_gate, slot_path, text_of}
use Rattle.switch_journal.specs.Texts.{HoldsFrom, IsReadAs, IsWhole, Journal, next_number, slot_at, with_record}
use Rattle.switch_journal.proofs.Apart.{off_outside}

abbrev Texts : Type 0
Texts = List (List ℕ)

-- the slots are the same, and so are the records and gates below a number
pub record SameBelow (number : ℕ) (tree image : Tree) : Type 0 where
  pub slots : (slot : Bool) → slot_at slot image ≡ slot_at slot tree
  pub gates : (j : ℕ) → j < number → get image (gate_path j) ≡ get tree (gate_path j)
  pub entries : (j : ℕ) → j < number → get image (record_path j) ≡ get tree (record_path j)

-- a slot is the same where its two files are
pub slot_same : (slot : Bool) (tree image : Tree) → get image (slot_gate slot) ≡ get tree (slot_gate slot) → get image (slot_path slot) ≡ get tree (slot_path slot) → slot_at slot image ≡ slot_at slot tree
slot_same slot tree image gate file = let f : Option Kept → Option Kept → Option (Option (List ℕ)) = λ a b. if opens a then Some (text_of b) else None in λ i. f (gate i) (file i)

-- the same records up to a gate that is closed
pub holds_same : (number k : ℕ) (texts : Texts) (tree image : Tree) → SameBelow number tree image → IsFalse (is_open number image) → k + length texts ≡ number → HoldsFrom k texts tree → HoldsFrom k texts image
holds_same number k [] tree image same closed is holds = let here : number ≡ k = omega (arith, is) in subst (λ (n : ℕ). IsFalse (is_open n image)) here closed
holds_same number k (text ∷ texts) tree image same closed is holds =
    let here : k < number = omega (arith, is) in
    (ap opens (same.gates k here) ∙ holds.0, ap text_of (same.entries k here) ∙ holds.1, holds_same number (k + 1) texts tree image same closed (omega (arith, is)) holds.2)

-- one record more, and then a gate that is closed
pub holds_more : (number k : ℕ) (texts : Texts) (text : List ℕ) (tree image : Tree) → SameBelow number tree image → IsTrue (is_open number image) → text_of (get image (record_path number)) ≡ Some text
    → IsFalse (is_open (number + 1) image) → k + length texts ≡ number → HoldsFrom k texts tree → HoldsFrom k (texts ++ text ∷ []) image
holds_more number k [] text tree image same opened there closed is holds =
    let here : number ≡ k = omega (arith, is) in
    subst (λ (n : ℕ). IsTrue (is_open n image) × (text_of (get image (record_path n)) ≡ Some text) × IsFalse (is_open (n + 1) image)) here (opened, there, closed)
holds_more number k (first ∷ texts) text tree image same opened there closed is holds =
    let here : k < number = omega (arith, is) in
    (ap opens (same.gates k here) ∙ holds.0, ap text_of (same.entries k here) ∙ holds.1, holds_more number (k + 1) texts text tree image same opened there closed (omega (arith, is)) holds.2)

pub closed_at_end : (k : ℕ) (texts : Texts) (tree : Tree) → HoldsFrom k texts tree → IsFalse (is_open (k + length texts) tree)
closed_at_end k [] tree holds = let same : k ≡ k + 0 = omega arith in subst (λ (n : ℕ). IsFalse (is_open n tree)) same holds
closed_at_end k (text ∷ texts) tree holds = let same : k + 1 + length texts ≡ k + length (text ∷ texts) = omega arith in subst (λ (n : ℕ). IsFalse (is_open n tree)) same (closed_at_end (k + 1) texts tree holds.2)

-- files hold one list of texts
pub one_list : (k : ℕ) (those others : Texts) (tree : Tree) → HoldsFrom k those tree → HoldsFrom k others tree → those ≡ others
one_list k [] [] tree one other = refl
one_list k [] (b ∷ others) tree one other = absurd (let e : false ≡ true = sym one ∙ other.0 in cc)
one_list k (a ∷ those) [] tree one other = absurd (let e : false ≡ true = sym other ∙ one.0 in cc)
one_list k (a ∷ those) (b ∷ others) tree one other =
    let here : a ≡ b = let e : Some a ≡ Some b = sym one.1 ∙ other.1 in cc in
    let more = one_list (k + 1) those others tree one.2 other.2 in
    λ i. here i ∷ more i

-- the same at each record and gate
pub holds_at : (k : ℕ) (texts : Texts) (tree image : Tree) → ((j : ℕ) → get image (gate_path j) ≡ get tree (gate_path j)) → ((j : ℕ) → get image (record_path j) ≡ get tree (record_path j)) → HoldsFrom k texts tree → HoldsFrom k texts image
holds_at k [] tree image gates those holds = ap opens (gates k) ∙ holds
holds_at k (text ∷ texts) tree image gates those holds = (ap opens (gates k) ∙ holds.0, ap text_of (those k) ∙ holds.1, holds_at (k + 1) texts tree image gates those holds.2)

pub holds_inside : (k : ℕ) (texts : Texts) (tree image : Tree) → ((q : List ℕ) → is_inside q ≡ true → get image q ≡ get tree q) → HoldsFrom k texts tree → HoldsFrom k texts image
holds_inside k texts tree image same holds = holds_at k texts tree image (λ j. same (gate_path j) refl) (λ j. same (record_path j) refl) holds

slot_inside : (slot : Bool) → is_inside (slot_path slot) ≡ true
slot_inside false = refl
slot_inside true = refl

slot_gate_inside : (slot : Bool) → is_inside (slot_gate slot) ≡ true
slot_gate_inside false = refl
slot_gate_inside true = refl

pub slots_inside : (tree image : Tree) → ((q : List ℕ) → is_inside q ≡ true → get image q ≡ get tree q) → (slot : Bool) → slot_at slot image ≡ slot_at slot tree
slots_inside tree image same slot = slot_same slot tree image (same (slot_gate slot) (slot_gate_inside slot)) (same (slot_path slot) (slot_inside slot))

-- while the last record's work is done again
pub reads_again : (j : Journal) (tree image : Tree) → list_all is_outside j.last ≡ true → IsReadAs j tree → IsSameBut (paths_of j.last) tree image → IsReadAs j image
reads_again j tree image apart reads same =
    let inside : (q : List ℕ) → is_inside q ≡ true → get image q ≡ get tree q = λ q inner. same q (off_outside j.last q apart inner) in
    record {
      same_slots = λ slot. slots_inside tree image inside slot ∙ reads.same_slots slot;
      counted = holds_inside j.first j.records tree image inside reads.counted;
      same_files = λ q out. get_same image tree j.last q (λ off. same q off) ∙ reads.same_files q out;
    }

pub whole_again : (j : Journal) (tree : Tree) → list_all is_outside j.last ≡ true → IsReadAs j tree → IsWhole j (with_writes j.last tree)
whole_again j tree apart reads = record {
  reads = reads_again j tree (with_writes j.last tree) apart reads (λ q off. get_off tree j.last q off);
  same_files = reads.same_files;
}

module _ (j : Journal) (text : List ℕ) (writes : List Write) (tree : Tree) (whole : IsWhole j tree) where
  -- the gate of the new record is closed
  pub reads_before : (image : Tree) → SameBelow (next_number j) tree image → IsFalse (is_open (next_number j) image) → ((q : List ℕ) → IsFalse (is_inside q) → get image q ≡ get tree q) → IsReadAs j image
  reads_before image same closed files = record {
    same_slots = λ slot. same.slots slot ∙ whole.reads.same_slots slot;
    counted = holds_same (next_number j) j.first j.records tree image same closed refl whole.reads.counted;
    same_files = λ q out. get_same image tree j.last q (λ off. files q out) ∙ whole.reads.same_files q out;
  }

  -- it is open
  pub reads_after : (image : Tree) → SameBelow (next_number j) tree image → IsTrue (is_open (next_number j) image) → text_of (get image (record_path (next_number j))) ≡ Some text → IsFalse (is_open (next_number j + 1) image)
      → ((q : List ℕ) → IsFalse (is_inside q) → is_among writes q ≡ false → get image q ≡ get tree q) → IsReadAs (with_record j text writes) image
  reads_after image same opened there closed files = record {
    same_slots = λ slot. same.slots slot ∙ whole.reads.same_slots slot;
    counted = holds_more (next_number j) j.first j.records text tree image same opened there closed refl whole.reads.counted;
    same_files = λ q out. get_same image j.files writes q (λ off. files q out off ∙ whole.same_files q out);
  }
