-- What one call of a disk after another touches and leaves.
use Rattle.std.proofs.Common.{◌≡◌, ℕ, List, [], ◌∷◌, ◌++◌, ◌+◌, ◌<◌, ◌≤◌, length, get_or, take, Bool, true, false, IsTrue, IsFalse, Option, Some, None, Result, Ok, Err, refl, sym, ◌∙◌, ap, subst}
use Rattle.std.specs.Prelude.{bytes_eq, ◌||◌, OnOk}
use Rattle.std.specs.FinMap.{get, insert, remove}
use Rattle.std.proofs.lemmas.Slice.Eq.{bytes_eq-Decides}
use Rattle.std.proofs.lemmas.List.{take_all, take_more}
use Rattle.std.proofs.lemmas.List.Folds.{list_any_at}
use Rattle.outside_io.specs.declared.sink.Failed.{Failed}
use Rattle.crash_disk.specs.Disks.{Kept, State, TellsChange, TellsSync, Tree, synced, with_file}
use Rattle.opam_top.proofs.Passed.{time_steps}
use Rattle.opam_top.specs.Commits.{IsSettled, Becomes, TouchesOnly, gate_text, is_among, is_at, is_of_commit, kept, opened, plain, recorded, with_files}
use Rattle.opam_top.specs.declared.commit.Encoded.{Encoded}
use Rattle.opam_top.specs.declared.records.Placed.{Placed}

abbrev Test : Type 0
Test = List ℕ → Bool

-- ---- what is touched

pub touches_nothing : (touched : Test) (told : Option State) → TouchesOnly touched told told
touches_nothing touched told = record { untold = λ is. is; told = λ old is. (old, is, λ q apart. refl) }

pub touches_then : (touched : Test) (before mid after : Option State) → TouchesOnly touched before mid → TouchesOnly touched mid after → TouchesOnly touched before after
touches_then touched before mid after one two = record {
  untold = λ is. two.untold (one.untold is);
  told = λ old is. let first = one.told old is in let second = two.told first.0 first.1 in (second.0, second.1, λ q apart. second.2 q apart ∙ first.2 q apart);
}

-- more may be touched
pub touches_more : (few many : Test) (before after : Option State) → ((q : List ℕ) → IsTrue (few q) → IsTrue (many q)) → TouchesOnly few before after → TouchesOnly many before after
touches_more few many before after more only = record {
  untold = only.untold;
  told = λ old is. let found = only.told old is in (found.0, found.1, λ q apart. found.2 q (none (few q) (many q) (more q) apart));
}
  where
    none : (a b : Bool) → (IsTrue a → IsTrue b) → IsFalse b → IsFalse a
    none false b more apart = refl
    none true b more apart = let here : b ≡ true = more refl in absurd (cc)

-- at the path of one file
pub change_touches : {T : Type 0} (touched : Test) (path : List ℕ) (file : Option Kept) (before after : Option State) (result : Result T Failed) → IsTrue (touched path) → TellsChange path file before after result → TouchesOnly touched before after
change_touches touched path file before after result at change =
    touches_more (λ q. bytes_eq q path) touched before after (λ q is. subst (λ (p : List ℕ). IsTrue (touched p)) (sym ((bytes_eq-Decides q path).0 is)) at) (record {
      untold = change.untold;
      told = λ old is. let found = change.told old is in (found.0, found.1, found.2.others);
    })

same_files : {T : Type 0} (old : State) (result : Result T Failed) → (synced old result).files ≡ old.files
same_files old (Ok x) = refl
same_files old (Err e) = refl

pub sync_touches : {T : Type 0} (touched : Test) (before after : Option State) (result : Result T Failed) → TellsSync before after result → TouchesOnly touched before after
sync_touches touched before after result sync = record {
  untold = sync.untold;
  told = λ old is. (synced old result, sync.told old is, λ q apart. ap (λ (files : Tree). get files q) (same_files old result));
}

-- ---- what is left

pub becomes_same : (told : Option State) → Becomes (λ tree. tree) told told
becomes_same told = λ old is. (old, is, refl)

pub becomes_then : (one two : Tree → Tree) (before mid after : Option State) → Becomes one before mid → Becomes two mid after → Becomes (λ tree. two (one tree)) before after
becomes_then one two before mid after first second = λ old is.
    let found = first old is in let later = second found.0 found.1 in (later.0, later.1, later.2 ∙ ap two found.2)

pub change_becomes : {T : Type 0} (path : List ℕ) (file : Option Kept) (before after : Option State) (x : T) → TellsChange path file before after (Ok x) → Becomes (λ tree. with_file tree path file) before after
change_becomes path file before after x change = λ old is. let found = change.told old is in (found.0, found.1, found.2.done)

pub sync_becomes : {T : Type 0} (before after : Option State) (result : Result T Failed) → TellsSync before after result → Becomes (λ tree. tree) before after
sync_becomes before after result sync = λ old is. (synced old result, sync.told old is, same_files old result)

-- ---- the paths of a commit

itself : (q : List ℕ) → bytes_eq q q ≡ true
itself q = (bytes_eq-Decides q q).1 refl

first_of_two : (a b : Bool) → a ≡ true → (a || b) ≡ true
first_of_two true b is = refl
first_of_two false b is = absurd (cc)

other_of_two : (a b : Bool) → b ≡ true → (a || b) ≡ true
other_of_two true b is = refl
other_of_two false b is = is

pub next_is_of : (ready : Encoded) → IsTrue (is_of_commit ready ready.next_gate)
next_is_of ready =
    let q = ready.next_gate in
    first_of_two (bytes_eq q ready.next_gate || bytes_eq q ready.rec_path || bytes_eq q ready.gate_path) (is_among ready.puts q)
    (first_of_two (bytes_eq q ready.next_gate || bytes_eq q ready.rec_path) (bytes_eq q ready.gate_path)
    (first_of_two (bytes_eq q ready.next_gate) (bytes_eq q ready.rec_path) (itself q)))

pub record_is_of : (ready : Encoded) → IsTrue (is_of_commit ready ready.rec_path)
record_is_of ready =
    let q = ready.rec_path in
    first_of_two (bytes_eq q ready.next_gate || bytes_eq q ready.rec_path || bytes_eq q ready.gate_path) (is_among ready.puts q)
    (first_of_two (bytes_eq q ready.next_gate || bytes_eq q ready.rec_path) (bytes_eq q ready.gate_path)
    (other_of_two (bytes_eq q ready.next_gate) (bytes_eq q ready.rec_path) (itself q)))

pub gate_is_of : (ready : Encoded) → IsTrue (is_of_commit ready ready.gate_path)
gate_is_of ready =
    let q = ready.gate_path in
    first_of_two (bytes_eq q ready.next_gate || bytes_eq q ready.rec_path || bytes_eq q ready.gate_path) (is_among ready.puts q)
    (other_of_two (bytes_eq q ready.next_gate || bytes_eq q ready.rec_path) (bytes_eq q ready.gate_path) (itself q))

pub file_is_of : (ready : Encoded) (q : List ℕ) → IsTrue (is_among ready.puts q) → IsTrue (is_of_commit ready q)
file_is_of ready q is = other_of_two (bytes_eq q ready.next_gate || bytes_eq q ready.rec_path || bytes_eq q ready.gate_path) (is_among ready.puts q) is

-- ---- files one after the other

pub with_last : (tree : Tree) (files : List Placed) (file : Placed) → with_files tree (files ++ file ∷ []) ≡ insert (with_files tree files) file.path (kept file)
with_last tree [] file = refl
with_last tree (first ∷ files) file = with_last (insert tree first.path (kept first)) files file

pub put_is_among : (files : List Placed) (i : ℕ) (file : Placed) → i < length files → file ≡ get_or files i file → IsTrue (is_among files file.path)
put_is_among files i file lt is = list_any_at (is_at file.path) files i file lt (ap (λ (f : Placed). bytes_eq file.path f.path) (sym is) ∙ itself file.path)

abbrev with_first : List Placed → ℕ → Tree → Tree
with_first files n tree = with_files tree (take n files)

pub one_more_put : (files : List Placed) (i : ℕ) (file : Placed) (before mid after : Option State) → i < length files → file ≡ get_or files i file
    → Becomes (λ tree. with_files tree (take i files)) before mid → Becomes (λ tree. with_file tree file.path (Some (kept file))) mid after → Becomes (λ tree. with_files tree (take (i + 1) files)) before after
one_more_put files i file before mid after lt is first second = λ old told.
    let both = becomes_then (with_first files i) (λ tree. insert tree file.path (kept file)) before mid after first second in
    let found = both old told in
    let longer : take (i + 1) files ≡ take i files ++ file ∷ [] = take_more files i file lt ∙ ap (λ (f : Placed). take i files ++ f ∷ []) (sym is) in
    (found.0, found.1, found.2 ∙ sym (ap (with_files old.files) longer ∙ with_last old.files (take i files) file))

pub all_put : (files : List Placed) (i : ℕ) (before after : Option State) → length files ≤ i → Becomes (λ tree. with_files tree (take i files)) before after → Becomes (λ tree. with_files tree files) before after
all_put files i before after le so_far = λ old told.
    let found = so_far old told in (found.0, found.1, found.2 ∙ ap (with_files old.files) (take_all i files le))

-- ---- the end of a function

pub then_synced : {T : Type 0} (change : Tree → Tree) (before mid after : Option State) (result : Result T Failed) → Becomes change before mid → TellsSync mid after result → OnOk result (Becomes change before after)
then_synced change before mid after (Ok x) so_far sync = becomes_then change (λ tree. tree) before mid after so_far (sync_becomes mid after (Ok x) sync)
then_synced change before mid after (Err e) so_far sync = tt

pub then_done : {T : Type 0} (one two : Tree → Tree) (before mid after : Option State) (result : Result T Failed) → Becomes one before mid → OnOk result (Becomes two mid after) → OnOk result (Becomes (λ tree. two (one tree)) before after)
then_done one two before mid after (Ok x) first second = becomes_then one two before mid after first second
then_done one two before mid after (Err e) first second = tt

-- ---- what is loose

pub settled_by : {T : Type 0} (before after : Option State) (result : Result T Failed) → TellsSync before after result → OnOk result (IsSettled after)
settled_by None after (Ok x) sync = λ s is. absurd (let e : None ≡ Some s = sym (sync.untold refl) ∙ is in cc)
settled_by (Some old) after (Ok x) sync = λ s is.
    let same : synced old (Ok x) ≡ s = let e : Some (synced old (Ok x)) ≡ Some s = sym (sync.told old refl) ∙ is in cc in
    ap (λ (t : State). t.loose) (sym same)
settled_by before after (Err e) sync = tt

-- ---- a gate, and a record

pub record_touches : {T S : Type 0} (ready : Encoded) (file other : Option Kept) (before mid after : Option State) (first : Result T Failed) (second : Result S Failed)
    → TellsChange ready.next_gate file before mid first → TellsChange ready.rec_path other mid after second → TouchesOnly (is_of_commit ready) before after
record_touches ready file other before mid after first second change more =
    touches_then (is_of_commit ready) before mid after (change_touches (is_of_commit ready) ready.next_gate file before mid first (next_is_of ready) change)
    (change_touches (is_of_commit ready) ready.rec_path other mid after second (record_is_of ready) more)

pub record_synced_touches : {T S U : Type 0} (ready : Encoded) (file other : Option Kept) (before mid later after : Option State) (first : Result T Failed) (second : Result S Failed) (result : Result U Failed)
    → TellsChange ready.next_gate file before mid first → TellsChange ready.rec_path other mid later second → TellsSync later after result → TouchesOnly (is_of_commit ready) before after
record_synced_touches ready file other before mid later after first second result change more sync =
    touches_then (is_of_commit ready) before later after (record_touches ready file other before mid later first second change more) (sync_touches (is_of_commit ready) later after result sync)

pub gate_synced_touches : {T S : Type 0} (ready : Encoded) (file : Option Kept) (before mid after : Option State) (first : Result T Failed) (result : Result S Failed)
    → TellsChange ready.gate_path file before mid first → TellsSync mid after result → TouchesOnly (is_of_commit ready) before after
gate_synced_touches ready file before mid after first result change sync =
    touches_then (is_of_commit ready) before mid after (change_touches (is_of_commit ready) ready.gate_path file before mid first (gate_is_of ready) change)
    (sync_touches (is_of_commit ready) mid after result sync)

pub record_synced : {T S U : Type 0} (ready : Encoded) (bytes : List ℕ) (before mid later after : Option State) (x : T) (y : S) (result : Result U Failed) → bytes ≡ ready.bytes
    → TellsChange ready.next_gate None before mid (Ok x) → TellsChange ready.rec_path (Some (plain bytes)) mid later (Ok y) → TellsSync later after result → OnOk result (Becomes (recorded ready) before after)
record_synced ready bytes before mid later after x y result same change more sync =
    let put = subst (λ (b : List ℕ). TellsChange ready.rec_path (Some (plain b)) mid later (Ok y)) same more in
    then_synced (recorded ready) before later after result
    (becomes_then (λ tree. remove tree ready.next_gate) (λ tree. insert tree ready.rec_path (plain ready.bytes)) before mid later
    (change_becomes ready.next_gate None before mid x change) (change_becomes ready.rec_path (Some (plain ready.bytes)) mid later y put))
    sync

pub gate_synced : {T S : Type 0} (ready : Encoded) (before mid after : Option State) (x : T) (result : Result S Failed)
    → TellsChange ready.gate_path (Some (plain gate_text)) before mid (Ok x) → TellsSync mid after result → OnOk result (Becomes (opened ready) before after)
gate_synced ready before mid after x result change sync = then_synced (opened ready) before mid after result (change_becomes ready.gate_path (Some (plain gate_text)) before mid x change) sync

pub ruleset record_steps = (time_steps, change_touches, record_touches, record_synced_touches, record_synced, settled_by, next_is_of)

pub ruleset gate_steps = (time_steps, change_touches, gate_synced_touches, gate_synced, settled_by, gate_is_of)
