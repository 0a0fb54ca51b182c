-- What a replayed log has at a path.
use Rattle.std.proofs.Common.{◌≡◌, ◌⊎◌, inl, inr, ℕ, List, [], ◌∷◌, ◌++◌, IsTrue, IsFalse, refl, sym, ◌∙◌, ap, subst, Some, None, Option, Bool, true, false, cond, if◌then◌else◌, Result, Ok, Err, OnOk, OnErr, IfOk, ⊎_elim}
use Rattle.std.specs.Ordering.{nat_cmp}
use Rattle.std.specs.Cmp.Lexicographic.{slice_cmp}
use Rattle.std.specs.Str.{bytes_eq}
use Rattle.std.specs.List.{list_any}
use Rattle.std.specs.Option.{option_map, unwrap_or}
use Rattle.std.proofs.lemmas.Cmp.{nat_list_cmp_total}
use Rattle.std.proofs.lemmas.Map.Text.{is_eq-slice_cmp}
use Rattle.std.specs.FinMap.{find, get, insert, remove, get-insert, get-remove, get-from_entries}
use Rattle.std.specs.Global.{Vec}
use Rattle.opam_names.specs.declared.fault.OutOfMemory.{OutOfMemory}
use Rattle.outside_io.specs.declared.sink.Failed.{Failed}
use Rattle.crash_disk.proofs.Order.{replay-push}
use Rattle.crash_disk.specs.Disks.{State, Kept, Changes, TellsChange, TellsSync, with_file, is_loose}
use Rattle.crash_disk.specs.Log.{Listed, Loosens, PlacesAt, placed, loosened, kept, entries_of, first_state, after, replay, stored_by, stored_after, stored_first, stored_at}
use Rattle.crash_disk.specs.declared.changes.Change.{Change}
use Rattle.crash_disk.specs.declared.changes.Change.TheVariants.{Put, Removed, FailedPut, FailedRemoval, Loosened, Synced}
use Rattle.crash_disk.specs.declared.changes.Entry.{Entry}

abbrev Here : Type 0
Here = Option Listed

pub get_put : (s : State) (p q : List ℕ) (file : Kept) → get (insert s.files p file) q ≡ cond (bytes_eq q p) (Some file) (get s.files q)
get_put s p q file = get-insert nat_list_cmp_total s.files p file q ∙ ap (λ b. cond b (Some file) (get s.files q)) (is_eq-slice_cmp q p)

pub get_removed : (s : State) (p q : List ℕ) → get (remove s.files p) q ≡ cond (bytes_eq q p) None (get s.files q)
get_removed s p q = get-remove nat_list_cmp_total s.files p q ∙ ap (λ b. cond b None (get s.files q)) (is_eq-slice_cmp q p)

picked : (b : Bool) (now here : Here) (file other : Option Kept) → option_map kept now ≡ file → other ≡ option_map kept here → cond b file other ≡ option_map kept (if b then now else here)
picked true now here file other a o = sym a
picked false now here file other a o = o

step : (change : Change) (s : State) (q : List ℕ) (here : Here) → get s.files q ≡ option_map kept here → get (after change s).files q ≡ option_map kept (stored_by change q here)
step (Put f) s q here is = get_put s f.0 q (kept f) ∙ picked (bytes_eq q f.0) (Some f) here (Some (kept f)) (get s.files q) refl is
step (Removed path) s q here is = get_removed s path q ∙ picked (bytes_eq q path) None here None (get s.files q) refl is
step (FailedPut f) s q here is = is
step (FailedRemoval path) s q here is = is
step (Loosened path) s q here is = is
step Synced s q here is = is

get_after : (es : List Entry) (s : State) (q : List ℕ) (here : Here) → get s.files q ≡ option_map kept here → get (replay es s).files q ≡ option_map kept (stored_after es q here)
get_after [] s q here is = is
get_after (e ∷ es) s q here is = get_after es (after e.change s) q (stored_by e.change q here) (step e.change s q here is)

find_first : (fs : List Listed) (q : List ℕ) → find (slice_cmp nat_cmp) q (entries_of fs) ≡ option_map kept (stored_first fs q)
find_first [] q = refl
find_first (f ∷ fs) q = ap (λ b. cond b (Some (kept f)) (find (slice_cmp nat_cmp) q (entries_of fs))) (is_eq-slice_cmp q f.0) ∙ picked (bytes_eq q f.0) (Some f) (stored_first fs q) (Some (kept f)) (find (slice_cmp nat_cmp) q (entries_of fs)) refl (find_first fs q)

-- a read of the log is a read of the files
pub get_stored : (first : List Listed) (log : List Entry) (q : List ℕ) → get (replay log (first_state first)).files q ≡ option_map kept (stored_at first log q)
get_stored first log q = get_after log (first_state first) q (stored_first first q) (get-from_entries nat_list_cmp_total (entries_of first) q ∙ find_first first q)

elsewhere : (b : Bool) (x y : Option Kept) → IsFalse b → cond b x y ≡ y
elsewhere true x y apart = absurd (cc)
elsewhere false x y apart = refl

not_here : (b c : Bool) → IsFalse b → IsTrue (if b then true else c) → IsTrue c
not_here true c apart is = absurd (cc)
not_here false c apart is = is

unlike : (q p : List ℕ) (rest : List (List ℕ)) → IsFalse (bytes_eq q p) → IsTrue (list_any (bytes_eq q) (p ∷ rest)) → IsTrue (list_any (bytes_eq q) rest)
unlike q p rest apart is = rw apart at is

with_elsewhere : (s : State) (path q : List ℕ) (file : Option Kept) → IsFalse (bytes_eq q path) → get (with_file s.files path file) q ≡ get s.files q
with_elsewhere s path q None apart = get_removed s path q ∙ elsewhere (bytes_eq q path) None (get s.files q) apart
with_elsewhere s path q (Some file) apart = get_put s path q file ∙ elsewhere (bytes_eq q path) (Some file) (get s.files q) apart

pub put_leaves : (f : Listed) (path bytes : List ℕ) (exec : Bool) → f.0 ≡ path → f.1.items ≡ bytes → f.2 ≡ exec → PlacesAt path (Some (record { bytes = bytes; exec = exec })) (Put f)
put_leaves f path bytes exec a b c s = λ i. placed (a i) (Some (record { bytes = b i; exec = c i })) s

pub removed_leaves : (gone path : List ℕ) → gone ≡ path → PlacesAt path None (Removed gone)
removed_leaves gone path a s = λ i. placed (a i) None s

-- what stands after a call
module _ (path : List ℕ) (file : Option Kept) (old new : State) where
  done : {T : Type 0} (x : T) → new ≡ placed path file old → Changes path file old new (Ok x)
  done x is = record {
    done = ap (λ (s : State). s.files) is;
    others = λ q apart. ap (λ (s : State). get s.files q) is ∙ with_elsewhere old path q file apart;
    loose = λ q apart loose. unlike q path old.loose apart (subst (λ (s : State). IsTrue (is_loose s q)) is loose);
  }

  failed_same : (T : Type 0) (e : Failed) → new ≡ old → Changes {T = T} path file old new (Err e)
  failed_same T e is = record {
    done = tt;
    others = λ q apart. ap (λ (s : State). get s.files q) is;
    loose = λ q apart loose. subst (λ (s : State). IsTrue (is_loose s q)) is loose;
  }

  failed_loose : (T : Type 0) (e : Failed) → new ≡ loosened path old → Changes {T = T} path file old new (Err e)
  failed_loose T e is = record {
    done = tt;
    others = λ q apart. ap (λ (s : State). get s.files q) is;
    loose = λ q apart loose. unlike q path old.loose apart (subst (λ (s : State). IsTrue (is_loose s q)) is loose);
  }

  changes : {T : Type 0} (X : Type 0) (result : Result T Failed) → OnOk result (new ≡ placed path file old) → OnErr result ((new ≡ loosened path old) ⊎ ((new ≡ old) × X)) → Changes path file old new result
  changes X (Ok x) ok err = done x ok
  changes {T} X (Err e) ok err = ⊎_elim (λ loose. failed_loose T e loose) (λ same. failed_same T e same.0) err

is_some_of : (old s : State) → Some old ≡ Some s → old ≡ s
is_some_of old s is = ap (λ (o : Option State). unwrap_or o old) is

pub tells : {T : Type 0} (path : List ℕ) (file : Option Kept) (old new : State) (X : Type 0) (result : Result T Failed) → OnOk result (new ≡ placed path file old) → OnErr result ((new ≡ loosened path old) ⊎ ((new ≡ old) × X))
    → TellsChange path file (Some old) (Some new) result
tells path file old new X result ok err = record {
  untold = λ none. absurd (cc);
  told = λ s is. (new, refl, subst (λ (o : State). Changes path file o new result) (is_some_of old s is) (changes path file old new X result ok err));
}

pub syncs : (old new : State) (x : Unit {0}) → new ≡ after Synced old → TellsSync {T = Unit {0}} (Some old) (Some new) (Ok x)
syncs old new x is = record {
  untold = λ none. absurd (cc);
  told = λ s same. ap (λ (o : State). Some o) (is ∙ ap (after Synced) (is_some_of old s same));
}

abbrev state_of : List Listed → List Entry → State
state_of first log = replay log (first_state first)

-- the state where one change more is kept
pub grown : (first : List Listed) (log new : List Entry) (m : ℕ) (change : Change) → new ≡ log ++ record { moment = m; change = change } ∷ [] → state_of first new ≡ after change (state_of first log)
grown first log new m change is = ap (state_of first) is ∙ replay-push log (record { moment = m; change = change }) (first_state first)

abbrev pub made : Change → Result Change OutOfMemory
made change = Ok change

abbrev pub made_of : Result Change OutOfMemory → Change
made_of (Ok change) = change
made_of (Err e) = Synced

-- first files and a log, each the same as earlier ones
module _ (m : ℕ) (first first2 : Vec Listed) (log log1 log2 : List Entry) (path : List ℕ) (same_first : first2 ≡ first) (same_log : log1 ≡ log) where
  abbrev State_is : State → Type 0
  State_is s = state_of first2.items log2 ≡ s

  old_state : state_of first2.items log1 ≡ state_of first.items log
  old_state = λ i. state_of (same_first i).items (same_log i)

  pub placed_noted : (file : Option Kept) (given : Result Change OutOfMemory) (change : Change) → given ≡ Ok change → log2 ≡ log1 ++ record { moment = m; change = change } ∷ [] → IfOk given (λ made. PlacesAt path file made)
      → State_is (placed path file (state_of first.items log))
  placed_noted file given change is noted leaves =
      let leaves2 : PlacesAt path file change = subst (λ (r : Result Change OutOfMemory). IfOk r (λ made. PlacesAt path file made)) is leaves in
      grown first2.items log1 log2 m change noted ∙ leaves2 (state_of first2.items log1) ∙ ap (placed path file) old_state

  pub synced_noted : (change : Change) → made Synced ≡ made change → log2 ≡ log1 ++ record { moment = m; change = change } ∷ [] → State_is (after Synced (state_of first.items log))
  synced_noted change is noted = grown first2.items log1 log2 m change noted ∙ ap (λ (r : Result Change OutOfMemory). after (made_of r) (state_of first2.items log1)) (sym is) ∙ ap (after Synced) old_state

  pub loosened_noted : (X Y : Type 0) → (X → Y) → ((log2 ≡ log1) × X) ⊎ ((change : Change) × Loosens path change × (log2 ≡ log1 ++ record { moment = m; change = change } ∷ []))
      → State_is (loosened path (state_of first.items log)) ⊎ (State_is (state_of first.items log) × Y)
  loosened_noted X Y follows (inl same) = inr (ap (state_of first2.items) same.0 ∙ old_state, follows same.1)
  loosened_noted X Y follows (inr noted) = inl (grown first2.items log1 log2 m noted.0 noted.2 ∙ noted.1 (state_of first2.items log1) ∙ ap (loosened path) old_state)
