-- What a commit makes of a journal and of all else.
use Rattle.std.proofs.Common.{◌≡◌, inl, inr, ℕ, ◌+◌, ◌-◌, ◌<◌, ◌^◌, Bool, true, false, cond, not, List, [], ◌∷◌, ◌++◌, take, drop, length, IsTrue, IsFalse, IsSome, Option, Some, None, refl, sym, ap, subst, ◌∙◌, arith}
use Rattle.std.specs.Prelude.{bytes_eq, codes, is_none, ◌==◌, ◌||◌}
use Rattle.std.specs.List.{list_all}
use Rattle.std.specs.FinMap.{get, insert, remove}
use Rattle.std.proofs.lemmas.Bool.{cases_Bool}
use Rattle.std.proofs.lemmas.Bool.Decides.{nat_tests}
use Rattle.std.proofs.lemmas.Slice.Eq.{bytes_eq-Decides}
use Rattle.opam_names.specs.Paths.{is_above}
use Rattle.crash_disk.specs.Disks.{Kept, State, Tree}
use Rattle.opam_top.specs.Commits.{TouchesOnly, begins_bin, committed, gate_text, is_among, is_below_bin, is_of_commit, kept, opened, plain, ready_with, recorded, with_files}
use Rattle.opam_top.specs.Holdings.{Holds, HoldsFrom, KeepsOthers, is_in_journal}
use Rattle.opam_top.specs.InstallTexts.{is_item}
use Rattle.opam_top.specs.Installs.{is_vacant}
use Rattle.opam_top.specs.Journals.{gate_path, is_fresh, record_path, stands}
use Rattle.opam_top.specs.Outcomes.{Leaves, Outcome}
use Rattle.opam_top.specs.Placements.{is_in_bin}
use Rattle.opam_top.specs.Records.{record_bytes}
use Rattle.opam_top.specs.declared.records.Placed.{Placed}
use Rattle.opam_top.specs.declared.records.Rec.{Rec}
use Rattle.opam_top.proofs.Held.{gate_held, get_put, get_put_apart, get_removed_apart, next_gone, not_in_bin, others_held, record_held}
use Rattle.opam_top.proofs.Keys.{some_key}
use Rattle.opam_top.proofs.Numbered.{gate_inside, gate_not_bin, gate_not_record, gates_differ, record_inside, record_not_bin, record_not_gate, records_differ}
use Rattle.opam_top.proofs.Tests.{both, both_left, both_right}

-- ---- the journal

below_bin : (files : List Placed) → list_all is_in_bin files ≡ true → list_all is_below_bin files ≡ true
below_bin [] all = refl
below_bin (file ∷ files) all =
    both (is_below_bin file) (list_all is_below_bin files)
    (both_left (begins_bin file.path) (is_item (drop 4 file.path)) (both_left (is_in_bin file) (list_all is_in_bin files) all))
    (below_bin files (both_right (is_in_bin file) (list_all is_in_bin files) all))

all_false : (a b c d : Bool) → a ≡ false → b ≡ false → c ≡ false → d ≡ false → (a || b || c || d) ≡ false
all_false a b c d p q r s = rw (p, q, r, s) refl

-- the journal of a tree, and one record more
module _ (number : ℕ) (entry : Rec) (old new : Tree)
    (record_kept : (j : ℕ) → j < number → get new (record_path j) ≡ get old (record_path j))
    (gate_kept : (j : ℕ) → j < number → get new (gate_path j) ≡ get old (gate_path j))
    (record_there : get new (record_path number) ≡ Some (plain (record_bytes entry)))
    (gate_there : get new (gate_path number) ≡ Some (plain gate_text))
    (next_absent : get new (gate_path (number + 1)) ≡ None) where
  holds_more : (k : ℕ) (records : List Rec) → k + length records ≡ number → HoldsFrom k records old → HoldsFrom k (records ++ entry ∷ []) new
  holds_more k [] is holds =
      let same : number ≡ k = omega (arith, is) in
      subst (λ (n : ℕ). (get new (record_path n) ≡ Some (plain (record_bytes entry))) × (get new (gate_path n) ≡ Some (plain gate_text)) × (get new (gate_path (n + 1)) ≡ None)) same
      (record_there, gate_there, next_absent)
  holds_more k (first ∷ records) is holds =
      let here : k < number = omega (arith, is) in
      let later : k + 1 + length records ≡ number = omega (arith, is) in
      (record_kept k here ∙ holds.0, gate_kept k here ∙ holds.1, holds_more (k + 1) records later holds.2)

module _ (number : ℕ) (bytes : List ℕ) (files : List Placed) (tree : Tree) (fits : number < 2 ^ 64 - 1) (in_bin : list_all is_in_bin files ≡ true) where
  none_at_record : (j : ℕ) → is_among files (record_path j) ≡ false
  none_at_record j = not_in_bin files (record_path j) (below_bin files in_bin) (record_not_bin j)

  none_at_gate : (j : ℕ) → is_among files (gate_path j) ≡ false
  none_at_gate j = not_in_bin files (gate_path j) (below_bin files in_bin) (gate_not_bin j)

  pub other_record : (j : ℕ) → j < number → get (committed (ready_with number bytes files) tree) (record_path j) ≡ get tree (record_path j)
  other_record j before =
      others_held (ready_with number bytes files) tree (record_path j)
      (all_false (bytes_eq (record_path j) (gate_path (number + 1))) (bytes_eq (record_path j) (record_path number)) (bytes_eq (record_path j) (gate_path number)) (is_among files (record_path j))
      (record_not_gate j (number + 1)) (records_differ j number (omega arith) (omega arith) (λ same. omega arith)) (record_not_gate j number) (none_at_record j))

  pub other_gate : (j : ℕ) → j < number → get (committed (ready_with number bytes files) tree) (gate_path j) ≡ get tree (gate_path j)
  other_gate j before =
      others_held (ready_with number bytes files) tree (gate_path j)
      (all_false (bytes_eq (gate_path j) (gate_path (number + 1))) (bytes_eq (gate_path j) (record_path number)) (bytes_eq (gate_path j) (gate_path number)) (is_among files (gate_path j))
      (gates_differ j (number + 1) (omega arith) (omega arith) (λ same. omega arith)) (gate_not_record j number) (gates_differ j number (omega arith) (omega arith) (λ same. omega arith)) (none_at_gate j))

  pub this_record : get (committed (ready_with number bytes files) tree) (record_path number) ≡ Some (plain bytes)
  this_record = record_held (ready_with number bytes files) tree (record_not_gate number number) (none_at_record number)

  pub this_gate : get (committed (ready_with number bytes files) tree) (gate_path number) ≡ Some (plain gate_text)
  this_gate = gate_held (ready_with number bytes files) tree (none_at_gate number)

  pub next_gate : get (committed (ready_with number bytes files) tree) (gate_path (number + 1)) ≡ None
  next_gate =
      next_gone (ready_with number bytes files) tree (gate_not_record (number + 1) number) (gates_differ (number + 1) number (omega arith) (omega arith) (λ same. omega arith)) (none_at_gate (number + 1))

pub commit_holds : (records : List Rec) (entry : Rec) (files : List Placed) (tree : Tree) → length records < 2 ^ 32 → IsTrue (list_all is_in_bin files) → Holds records tree
    → Holds (records ++ entry ∷ []) (committed (ready_with (length records + 1) (record_bytes entry) files) tree)
commit_holds records entry files tree few in_bin holds =
    let number = length records + 1 in let bytes = record_bytes entry in
    let fits : number < 2 ^ 64 - 1 = omega arith in
    holds_more number entry tree (committed (ready_with number bytes files) tree)
    (other_record number bytes files tree fits in_bin) (other_gate number bytes files tree fits in_bin)
    (this_record number bytes files tree fits in_bin) (this_gate number bytes files tree fits in_bin) (next_gate number bytes files tree fits in_bin)
    1 records (omega arith) holds

-- ---- all else

at_place : (q place : List ℕ) → is_in_journal place ≡ true → is_in_journal q ≡ false → bytes_eq q place ≡ false
at_place q place inside apart =
    elim (cases_Bool (bytes_eq q place)) [
      | inl is ↦ absurd (let e : true ≡ false = sym (ap is_in_journal ((bytes_eq-Decides q place).0 is) ∙ inside) ∙ apart in cc)
      | inr is ↦ is
    ]

same_put : (a b : Tree) (file : Placed) (q : List ℕ) → get a q ≡ get b q → get (insert a file.path (kept file)) q ≡ get (insert b file.path (kept file)) q
same_put a b file q same = get_put a file.path q (kept file) ∙ ap (λ (o : Option Kept). cond (bytes_eq q file.path) (Some (kept file)) o) same ∙ sym (get_put b file.path q (kept file))

-- where two trees have the same, they have the same once both got the files
pub same_files : (a b : Tree) (files : List Placed) (q : List ℕ) → get a q ≡ get b q → get (with_files a files) q ≡ get (with_files b files) q
same_files a b [] q same = same
same_files a b (file ∷ files) q same = same_files (insert a file.path (kept file)) (insert b file.path (kept file)) files q (same_put a b file q same)

-- before its files, a commit changes nothing outside the journal
before_files : (number : ℕ) (bytes : List ℕ) (files : List Placed) (tree : Tree) (q : List ℕ) → is_in_journal q ≡ false
    → get (opened (ready_with number bytes files) (recorded (ready_with number bytes files) tree)) q ≡ get tree q
before_files number bytes files tree q apart =
    get_put_apart (recorded (ready_with number bytes files) tree) (gate_path number) q (plain gate_text) (at_place q (gate_path number) (gate_inside number) apart)
    ∙ get_put_apart (remove tree (gate_path (number + 1))) (record_path number) q (plain bytes) (at_place q (record_path number) (record_inside number) apart)
    ∙ get_removed_apart tree (gate_path (number + 1)) q (at_place q (gate_path (number + 1)) (gate_inside (number + 1)) apart)

pub commit_elsewhere : (number : ℕ) (bytes : List ℕ) (files : List Placed) (tree : Tree) (q : List ℕ) → IsFalse (is_in_journal q)
    → get (committed (ready_with number bytes files) tree) q ≡ get (with_files tree files) q
commit_elsewhere number bytes files tree q apart =
    same_files (opened (ready_with number bytes files) (recorded (ready_with number bytes files) tree)) tree files q (before_files number bytes files tree q apart)

-- the same over a switch whose files are those of the tree outside the journal
pub commit_others : (number : ℕ) (bytes : List ℕ) (files : List Placed) (tree other : Tree) → ((q : List ℕ) → IsFalse (is_in_journal q) → get tree q ≡ get other q)
    → (q : List ℕ) → IsFalse (is_in_journal q) → get (committed (ready_with number bytes files) tree) q ≡ get (with_files other files) q
commit_others number bytes files tree other same q apart = commit_elsewhere number bytes files tree q apart ∙ same_files tree other files q (same q apart)

-- ---- what stood there

pub keeps_same : (tree : Tree) → KeepsOthers tree tree
keeps_same tree = λ q apart there. refl

pub keeps_then : (a b c : Tree) → KeepsOthers a b → KeepsOthers b c → KeepsOthers a c
keeps_then a b c one two = λ q apart there.
    let same : get b q ≡ get a q = one q apart there in
    two q apart (subst (λ (o : Option Kept). IsSome o) (sym same) there) ∙ same

-- a file that stood there is of no commit whose places were vacant
some_none : {X : Type 0} (o : Option X) → is_none o ≡ true → IsSome o → ⊥
some_none None none some = cc
some_none (Some x) none some = cc

not_put : (tree : Tree) (files : List Placed) (q : List ℕ) → list_all (is_vacant tree) files ≡ true → IsSome (get tree q) → is_among files q ≡ false
not_put tree [] q vacant there = refl
not_put tree (file ∷ files) q vacant there =
    elim (cases_Bool (bytes_eq q file.path)) [
      | inl is ↦ absurd (some_none (get tree q) (ap (λ (p : List ℕ). is_none (get tree p)) ((bytes_eq-Decides q file.path).0 is) ∙ both_left (is_vacant tree file) (list_all (is_vacant tree) files) vacant) there)
      | inr is ↦ ap (λ b. b || is_among files q) is ∙ not_put tree files q (both_right (is_vacant tree file) (list_all (is_vacant tree) files) vacant) there
    ]

pub not_of_commit : (number : ℕ) (bytes : List ℕ) (files : List Placed) (tree : Tree) (q : List ℕ) → list_all (is_vacant tree) files ≡ true → is_in_journal q ≡ false → IsSome (get tree q)
    → is_of_commit (ready_with number bytes files) q ≡ false
not_of_commit number bytes files tree q vacant apart there =
    all_false (bytes_eq q (gate_path (number + 1))) (bytes_eq q (record_path number)) (bytes_eq q (gate_path number)) (is_among files q)
    (at_place q (gate_path (number + 1)) (gate_inside (number + 1)) apart) (at_place q (record_path number) (record_inside number) apart) (at_place q (gate_path number) (gate_inside number) apart) (not_put tree files q vacant there)

-- whatever a commit answers, what stood outside the journal stands there still, where its places were vacant
pub commit_keeps : (number : ℕ) (bytes : List ℕ) (files : List Placed) (before after : Option State) → TouchesOnly (is_of_commit (ready_with number bytes files)) before after
    → (old : State) → before ≡ Some old → list_all (is_vacant old.files) files ≡ true → (new : State) × (after ≡ Some new) × KeepsOthers old.files new.files
commit_keeps number bytes files before after touches old is vacant =
    let found = touches.told old is in
    (found.0, found.1, λ q apart there. found.2 q (not_of_commit number bytes files old.files q vacant apart there))

-- a place below `bin` lies outside the journal
bin_outside : (path : List ℕ) → begins_bin path ≡ true → is_in_journal path ≡ false
bin_outside [] is = refl
bin_outside (b ∷ path) is =
    let first : (b == 98) ≡ true = both_left (b == 98) (bytes_eq (take 3 path) (codes "in/")) is in
    let same : b ≡ 98 = grind (arith, nat_tests) in
    ap (λ (x : ℕ). is_in_journal (x ∷ path)) same

-- places that are vacant in one tree are so in another that has the same outside the journal
pub vacant_same : (tree other : Tree) (files : List Placed) → ((q : List ℕ) → IsFalse (is_in_journal q) → get tree q ≡ get other q) → list_all is_in_bin files ≡ true
    → list_all (is_vacant other) files ≡ true → list_all (is_vacant tree) files ≡ true
vacant_same tree other [] same in_bin vacant = refl
vacant_same tree other (file ∷ files) same in_bin vacant =
    let outside = bin_outside file.path (both_left (begins_bin file.path) (is_item (drop 4 file.path)) (both_left (is_in_bin file) (list_all is_in_bin files) in_bin)) in
    both (is_vacant tree file) (list_all (is_vacant tree) files)
    (ap (λ (o : Option Kept). is_none o) (same file.path outside) ∙ both_left (is_vacant other file) (list_all (is_vacant other) files) vacant)
    (vacant_same tree other files same (both_right (is_in_bin file) (list_all is_in_bin files) in_bin) (both_right (is_vacant other file) (list_all (is_vacant other) files) vacant))

-- ---- a run so far

one_more : (records : List Rec) (entry : Rec) → records ++ entry ∷ [] ≡ [] → ⊥
one_more [] entry none = cc
one_more (first ∷ records) entry none = cc

-- a run with a commit is not idle
pub commit_not_idle : (records : List Rec) (entry : Rec) (old new : Tree) → records ++ entry ∷ [] ≡ [] → new ≡ old
commit_not_idle records entry old new none = absurd (one_more records entry none)

-- what a run leaves once it has committed one record more, and its switch has the files
pub leaves_more : (o next : Outcome) (entry : Rec) (files : List Placed) (old tree : Tree) → length o.records < 2 ^ 32 → IsTrue (list_all is_in_bin files)
    → next.records ≡ o.records ++ entry ∷ [] → next.switch.files ≡ with_files o.switch.files files → Leaves o old tree
    → Leaves next old (committed (ready_with (length o.records + 1) (record_bytes entry) files) tree)
leaves_more o next entry files old tree few in_bin records_are files_are leaves =
    let number = length o.records + 1 in let bytes = record_bytes entry in let new = committed (ready_with number bytes files) tree in
    record {
      journal = subst (λ (records : List Rec). Holds records new) (sym records_are) (commit_holds o.records entry files tree few in_bin leaves.journal);
      others = λ q apart. commit_others number bytes files tree o.switch.files leaves.others q apart ∙ ap (λ (t : Tree). get t q) (sym files_are);
      idle = λ none. commit_not_idle o.records entry old new (sym records_are ∙ none);
    }

-- ---- before the first record

abbrev at_or_below : List ℕ → List ℕ → Bool
at_or_below path q = bytes_eq q path || is_above path q

not_both : (b : Bool) → not b ≡ true → b ≡ true → ⊥
not_both true a b = cc
not_both false a b = cc

absent_by : (tree : Tree) (path : List ℕ) (stood : Option Kept) → get tree path ≡ stood → not (stands tree path) ≡ true → stood ≡ None
absent_by tree path None is apart = refl
absent_by tree path (Some file) is apart =
    let there : IsSome (get tree path) = rw is refl in
    let here : at_or_below path path ≡ true = ap (λ b. b || is_above path path) ((bytes_eq-Decides path path).1 refl) in
    absurd (not_both (stands tree path) apart (some_key tree (at_or_below path) path there here))

-- a disk without a journal holds no record
pub fresh_holds : (tree : Tree) → is_fresh tree ≡ true → Holds [] tree
fresh_holds tree fresh = absent_by tree (gate_path 1) (get tree (gate_path 1)) refl (both_right (not (stands tree (record_path 1))) (not (stands tree (gate_path 1))) fresh)

-- what a run leaves before its first commit
pub leaves_none : (o : Outcome) (tree : Tree) → is_fresh tree ≡ true → o.records ≡ [] → o.switch.files ≡ tree → Leaves o tree tree
leaves_none o tree fresh none files_are = record {
  journal = subst (λ (records : List Rec). Holds records tree) (sym none) (fresh_holds tree fresh);
  others = λ q apart. ap (λ (t : Tree). get t q) (sym files_are);
  idle = λ idle. refl;
}
