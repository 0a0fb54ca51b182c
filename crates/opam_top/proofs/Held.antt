-- What a tree holds after a commit.
use Rattle.std.proofs.Common.{◌≡◌, ℕ, zero, suc, List, [], ◌∷◌, ◌<◌, length, get_or, Bool, true, false, cond, not, IsTrue, IsFalse, Option, Some, None, refl, sym, ◌∙◌, ap, subst, inl, inr, arith}
use Rattle.std.specs.Prelude.{bytes_eq, ◌&&◌, ◌||◌}
use Rattle.std.specs.List.{Contains, list_all}
use Rattle.std.specs.FinMap.{get, insert, remove, get-insert, get-remove}
use Rattle.std.proofs.lemmas.Bool.{cases_Bool}
use Rattle.std.proofs.lemmas.Cmp.{nat_list_cmp_total}
use Rattle.std.proofs.lemmas.Map.Text.{is_eq-slice_cmp}
use Rattle.std.proofs.lemmas.Slice.Eq.{bytes_eq-Decides}
use Rattle.crash_disk.specs.Disks.{Kept, Tree}
use Rattle.opam_top.specs.Commits.{begins_bin, committed, gate_text, is_among, is_at, is_below_bin, is_of_commit, kept, opened, paths_differ, plain, recorded, with_files}
use Rattle.opam_top.specs.declared.commit.Encoded.{Encoded}
use Rattle.opam_top.specs.declared.records.Placed.{Placed}

-- ---- one file

itself : (q : List ℕ) → bytes_eq q q ≡ true
itself q = (bytes_eq-Decides q q).1 refl

pub get_put : (tree : Tree) (p q : List ℕ) (file : Kept) → get (insert tree p file) q ≡ cond (bytes_eq q p) (Some file) (get tree q)
get_put tree p q file = get-insert nat_list_cmp_total tree p file q ∙ ap (λ (b : Bool). cond b (Some file) (get tree q)) (is_eq-slice_cmp q p)

pub get_removed : (tree : Tree) (p q : List ℕ) → get (remove tree p) q ≡ cond (bytes_eq q p) None (get tree q)
get_removed tree p q = get-remove nat_list_cmp_total tree p q ∙ ap (λ (b : Bool). cond b None (get tree q)) (is_eq-slice_cmp q p)

chosen : (b : Bool) (x y : Option Kept) → b ≡ true → cond b x y ≡ x
chosen true x y is = refl
chosen false x y is = absurd (cc)

other : (b : Bool) (x y : Option Kept) → b ≡ false → cond b x y ≡ y
other true x y is = absurd (cc)
other false x y is = refl

pub get_put_here : (tree : Tree) (p : List ℕ) (file : Kept) → get (insert tree p file) p ≡ Some file
get_put_here tree p file = get_put tree p p file ∙ chosen (bytes_eq p p) (Some file) (get tree p) (itself p)

pub get_put_apart : (tree : Tree) (p q : List ℕ) (file : Kept) → bytes_eq q p ≡ false → get (insert tree p file) q ≡ get tree q
get_put_apart tree p q file apart = get_put tree p q file ∙ other (bytes_eq q p) (Some file) (get tree q) apart

pub get_removed_here : (tree : Tree) (p : List ℕ) → get (remove tree p) p ≡ None
get_removed_here tree p = get_removed tree p p ∙ chosen (bytes_eq p p) None (get tree p) (itself p)

pub get_removed_apart : (tree : Tree) (p q : List ℕ) → bytes_eq q p ≡ false → get (remove tree p) q ≡ get tree q
get_removed_apart tree p q apart = get_removed tree p q ∙ other (bytes_eq q p) None (get tree q) apart

-- ---- files one after the other

neither : (a b : Bool) → (a || b) ≡ false → (a ≡ false) × (b ≡ false)
neither true b is = absurd (cc)
neither false b is = (refl, is)

both : (a b : Bool) → (a && b) ≡ true → (a ≡ true) × (b ≡ true)
both true b is = (refl, is)
both false b is = absurd (cc)

is_not : (b : Bool) → not b ≡ true → b ≡ false
is_not true is = absurd (cc)
is_not false is = refl

pub get_files_apart : (tree : Tree) (files : List Placed) (q : List ℕ) → is_among files q ≡ false → get (with_files tree files) q ≡ get tree q
get_files_apart tree [] q apart = refl
get_files_apart tree (file ∷ files) q apart =
    let two = neither (is_at q file) (is_among files q) apart in
    get_files_apart (insert tree file.path (kept file)) files q two.1 ∙ get_put_apart tree file.path q (kept file) two.0

-- each file stands where it was put
pub get_file : (tree : Tree) (files : List Placed) (i : ℕ) (d : Placed) → IsTrue (paths_differ files) → i < length files → get (with_files tree files) (get_or files i d).path ≡ Some (kept (get_or files i d))
get_file tree [] i d differ lt = absurd (omega arith)
get_file tree (file ∷ files) zero d differ lt =
    let two = both (not (is_among files file.path)) (paths_differ files) differ in
    get_files_apart (insert tree file.path (kept file)) files file.path (is_not (is_among files file.path) two.0) ∙ get_put_here tree file.path (kept file)
get_file tree (file ∷ files) (suc i) d differ lt =
    let two = both (not (is_among files file.path)) (paths_differ files) differ in
    get_file (insert tree file.path (kept file)) files i d two.1 (omega arith)

-- ---- a commit

pub record_held : (ready : Encoded) (tree : Tree) → bytes_eq ready.rec_path ready.gate_path ≡ false → is_among ready.puts ready.rec_path ≡ false → get (committed ready tree) ready.rec_path ≡ Some (plain ready.bytes)
record_held ready tree apart none =
    get_files_apart (opened ready (recorded ready tree)) ready.puts ready.rec_path none
    ∙ get_put_apart (recorded ready tree) ready.gate_path ready.rec_path (plain gate_text) apart
    ∙ get_put_here (remove tree ready.next_gate) ready.rec_path (plain ready.bytes)

pub gate_held : (ready : Encoded) (tree : Tree) → is_among ready.puts ready.gate_path ≡ false → get (committed ready tree) ready.gate_path ≡ Some (plain gate_text)
gate_held ready tree none =
    get_files_apart (opened ready (recorded ready tree)) ready.puts ready.gate_path none
    ∙ get_put_here (recorded ready tree) ready.gate_path (plain gate_text)

pub next_gone : (ready : Encoded) (tree : Tree) → bytes_eq ready.next_gate ready.rec_path ≡ false → bytes_eq ready.next_gate ready.gate_path ≡ false → is_among ready.puts ready.next_gate ≡ false → get (committed ready tree) ready.next_gate ≡ None
next_gone ready tree no_record no_gate none =
    get_files_apart (opened ready (recorded ready tree)) ready.puts ready.next_gate none
    ∙ get_put_apart (recorded ready tree) ready.gate_path ready.next_gate (plain gate_text) no_gate
    ∙ get_put_apart (remove tree ready.next_gate) ready.rec_path ready.next_gate (plain ready.bytes) no_record
    ∙ get_removed_here tree ready.next_gate

-- each path that is not of the commit has what it had
pub others_held : (ready : Encoded) (tree : Tree) (q : List ℕ) → IsFalse (is_of_commit ready q) → get (committed ready tree) q ≡ get tree q
others_held ready tree q apart =
    let is_next = bytes_eq q ready.next_gate in let is_rec = bytes_eq q ready.rec_path in let is_gate = bytes_eq q ready.gate_path in
    let one = neither (is_next || is_rec || is_gate) (is_among ready.puts q) apart in
    let two = neither (is_next || is_rec) is_gate one.0 in
    let three = neither is_next is_rec two.0 in
    get_files_apart (opened ready (recorded ready tree)) ready.puts q one.1
    ∙ get_put_apart (recorded ready tree) ready.gate_path q (plain gate_text) two.1
    ∙ get_put_apart (remove tree ready.next_gate) ready.rec_path q (plain ready.bytes) three.1
    ∙ get_removed_apart tree ready.next_gate q three.0

pub file_held : (ready : Encoded) (tree : Tree) (i : ℕ) (d : Placed) → IsTrue (paths_differ ready.puts) → i < length ready.puts → get (committed ready tree) (get_or ready.puts i d).path ≡ Some (kept (get_or ready.puts i d))
file_held ready tree i d differ lt = get_file (opened ready (recorded ready tree)) ready.puts i d differ lt

-- the same of a file that is named
pub each_file_held : (ready : Encoded) (tree : Tree) (file : Placed) → IsTrue (paths_differ ready.puts) → Contains ready.puts file → get (committed ready tree) file.path ≡ Some (kept file)
each_file_held ready tree file differ has =
    subst (λ (put : Placed). get (committed ready tree) put.path ≡ Some (kept put)) has.2 (file_held ready tree has.0 file differ has.1)

-- ---- files below `bin`

unlike_bin : (q p : List ℕ) → begins_bin p ≡ true → begins_bin q ≡ false → bytes_eq q p ≡ false
unlike_bin q p in_bin apart =
    elim (cases_Bool (bytes_eq q p)) [
      | inl is ↦ let same : q ≡ p = (bytes_eq-Decides q p).0 is in let clash : true ≡ false = sym in_bin ∙ sym (ap begins_bin same) ∙ apart in absurd (cc)
      | inr is ↦ is
    ]

not_either : (a b : Bool) → a ≡ false → b ≡ false → (a || b) ≡ false
not_either true b no_a no_b = absurd (cc)
not_either false b no_a no_b = no_b

pub not_in_bin : (files : List Placed) (q : List ℕ) → IsTrue (list_all is_below_bin files) → begins_bin q ≡ false → is_among files q ≡ false
not_in_bin [] q below apart = refl
not_in_bin (file ∷ files) q below apart =
    let two = both (is_below_bin file) (list_all is_below_bin files) below in
    not_either (is_at q file) (is_among files q) (unlike_bin q file.path two.0 apart) (not_in_bin files q two.1 apart)
