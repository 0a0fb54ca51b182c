-- One call of a disk after another.
use Rattle.std.proofs.Common.{◌≡◌, inl, inr, ℕ, zero, suc, length, get_or, ◌<◌, List, [], ◌∷◌, ◌++◌, Bool, true, false, IsTrue, IsFalse, Option, Some, None, Result, Ok, Err, OnOk, refl, sym, ◌∙◌, ap, subst, arith}
use Rattle.std.specs.Prelude.{bytes_eq, ◌||◌}
use Rattle.std.specs.List.{list_any}
use Rattle.std.specs.FinMap.{get}
use Rattle.std.specs.Option.{option_map}
use Rattle.std.proofs.Math.Nat.{le_trans}
use Rattle.std.proofs.lemmas.Bool.{cases_lt}
use Rattle.std.proofs.lemmas.Slice.Eq.{bytes_eq-Decides}
use Rattle.outside_io.specs.declared.sink.Failed.{Failed}
use Rattle.crash_disk.specs.declared.disk.Disk.{Ghosts}
use Rattle.crash_disk.specs.Disks.{Elapses, Kept, State, TellsChange, TellsSync, Tree, is_loose, synced, with_file}
use Rattle.crash_disk.specs.Effects.{Advances, Becomes, Leaves, OnlyReads, StaysOff, Touches, at_rest, is_one, rested, tree_told}

abbrev Paths : Type 0
Paths = List (List ℕ)

-- ---- what is told, off some paths

pub off_none : (paths : Paths) (told : Option State) → StaysOff paths told told
off_none paths told = record { untold = λ is. is; told = λ old is. (old, is, record { files = λ q apart. refl; loose = λ q apart is. is }) }

pub off_then : (paths : Paths) (a b c : Option State) → StaysOff paths a b → StaysOff paths b c → StaysOff paths a c
off_then paths a b c one two = record {
  untold = λ is. two.untold (one.untold is);
  told = λ old is.
      let first = one.told old is in let second = two.told first.0 first.1 in (
        second.0,
        second.1,
        record {
          files = λ q apart. second.2.files q apart ∙ first.2.files q apart;
          loose = λ q apart loose. first.2.loose q apart (second.2.loose q apart loose);
        },
      );
}

none_of : (a b : Bool) → (IsTrue a → IsTrue b) → IsFalse b → IsFalse a
none_of false b more apart = refl
none_of true b more apart = let here : b ≡ true = more refl in absurd (cc)

pub off_more : (few many : Paths) (a b : Option State) → ((q : List ℕ) → IsTrue (is_one few q) → IsTrue (is_one many q)) → StaysOff few a b → StaysOff many a b
off_more few many a b more off = record {
  untold = off.untold;
  told = λ old is.
      let found = off.told old is in (
        found.0,
        found.1,
        record {
          files = λ q apart. found.2.files q (none_of (is_one few q) (is_one many q) (more q) apart);
          loose = λ q apart. found.2.loose q (none_of (is_one few q) (is_one many q) (more q) apart);
        },
      );
}

either_is : (b : Bool) → IsTrue (b || false) → IsTrue b
either_is true is = refl
either_is false is = is

any_front : (test : List ℕ → Bool) (few more : Paths) → IsTrue (list_any test few) → IsTrue (list_any test (few ++ more))
any_front test [] more is = absurd (cc)
any_front test (p ∷ few) more is = front (test p) (list_any test few) (list_any test (few ++ more)) (any_front test few more) is
  where
    front : (b c d : Bool) → (IsTrue c → IsTrue d) → IsTrue (b || c) → IsTrue (b || d)
    front true c d more is = refl
    front false c d more is = more is

back : (b c : Bool) → IsTrue c → IsTrue (b || c)
back true c is = refl
back false c is = is

any_back : (test : List ℕ → Bool) (few more : Paths) → IsTrue (list_any test more) → IsTrue (list_any test (few ++ more))
any_back test [] more is = is
any_back test (p ∷ few) more is = back (test p) (list_any test (few ++ more)) (any_back test few more is)

-- the path of each of a list is one of theirs
pub one_here : {X : Type 0} (path : X → List ℕ) (paths : List X → Paths) → paths [] ≡ [] → ((x : X) (xs : List X) → paths (x ∷ xs) ≡ path x ∷ paths xs)
    → (xs : List X) (i : ℕ) (d : X) → i < length xs → IsTrue (is_one (paths xs) (path (get_or xs i d)))
one_here path paths none more [] i d lt = absurd (omega arith)
one_here path paths none more (x ∷ xs) zero d lt = ap (λ (ps : Paths). is_one ps (path x)) (more x xs) ∙ ap (λ (b : Bool). b || is_one (paths xs) (path x)) ((bytes_eq-Decides (path x) (path x)).1 refl)
one_here path paths none more (x ∷ xs) (suc i) d lt =
    ap (λ (ps : Paths). is_one ps (path (get_or xs i d))) (more x xs) ∙ back (bytes_eq (path (get_or xs i d)) (path x)) (is_one (paths xs) (path (get_or xs i d))) (one_here path paths none more xs i d (omega arith))

alone : (b : Bool) → IsFalse (b || false) → IsFalse b
alone true apart = apart
alone false apart = refl

pub off_change : {T : Type 0} (path : List ℕ) (file : Option Kept) (a b : Option State) (result : Result T Failed) → TellsChange path file a b result → StaysOff (path ∷ []) a b
off_change path file a b result change = record {
  untold = change.untold;
  told = λ old is. let found = change.told old is in (found.0, found.1, record { files = λ q apart. found.2.others q (alone (bytes_eq q path) apart); loose = λ q apart. found.2.loose q (alone (bytes_eq q path) apart) });
}

no_looser : {T : Type 0} (old : State) (result : Result T Failed) (q : List ℕ) → IsTrue (is_loose (synced old result) q) → IsTrue (is_loose old q)
no_looser old (Ok x) q is = absurd (cc)
no_looser old (Err e) q is = is

pub same_files : {T : Type 0} (old : State) (result : Result T Failed) → (synced old result).files ≡ old.files
same_files old (Ok x) = refl
same_files old (Err e) = refl

pub off_sync : {T : Type 0} (paths : Paths) (a b : Option State) (result : Result T Failed) → TellsSync a b result → StaysOff paths a b
off_sync paths a b result sync = record {
  untold = sync.untold;
  told = λ old is. (synced old result, sync.told old is, record { files = λ q apart. ap (λ (files : Tree). get files q) (same_files old result); loose = λ q apart. no_looser old result q });
}

pub off_same : (paths : Paths) (a b : Option State) → b ≡ a → StaysOff paths a b
off_same paths a b same = subst (StaysOff paths a) (sym same) (off_none paths a)

by_told : {T : Type 0} (path : List ℕ) (file : Option Kept) (before after : Option State) (x : T) → TellsChange path file before after (Ok x) → tree_told after ≡ option_map (λ tree. with_file tree path file) (tree_told before)
by_told path file None after x change = ap tree_told (change.untold refl)
by_told path file (Some old) after x change = let found = change.told old refl in ap tree_told found.1 ∙ ap (λ (tree : Tree). Some tree) found.2.done

by_sync : {T : Type 0} (change : Tree → Tree) (a b c : Option State) (x : T) → tree_told b ≡ option_map change (tree_told a) → TellsSync b c (Ok x) → c ≡ option_map (rested change) a
by_sync change None None c x so_far sync = sync.untold refl
by_sync change None (Some s) c x so_far sync = absurd (let e : Some s.files ≡ None = so_far in cc)
by_sync change (Some s) None c x so_far sync = absurd (let e : None ≡ Some (change s.files) = so_far in cc)
by_sync change (Some s) (Some t) c x so_far sync = sync.told t refl ∙ ap (λ (tree : Tree). Some (at_rest tree)) (let e : Some t.files ≡ Some (change s.files) = so_far in cc)

-- ---- time

abbrev Time : {D : Type 0} → Ghosts D → D → D → Type 0
Time g old new = Elapses (g.moment old) (g.moment new) (g.past old) (g.past new) (g.told new)

module _ {D : Type 0} {g : Ghosts D} where
  pub advances_none : (d : D) → Advances g d d
  advances_none d = record { later = omega arith; keeps = λ t le short. refl; held = refl; taken = refl }

  pub advances_one : {old new : D} → Time g old new → g.held new ≡ g.held old → g.taken new ≡ g.taken old → Advances g old new
  advances_one time held taken = record {
    later = time.later;
    keeps = λ t le short. time.keeps t le (let later = time.later in omega (arith, later, short));
    held = held;
    taken = taken;
  }

  pub advances_then : {a b c : D} → Advances g a b → Advances g b c → Advances g a c
  advances_then one two = record {
    later = le_trans one.later two.later;
    keeps = λ t le short. two.keeps t (le_trans le one.later) short ∙ one.keeps t le (let later = two.later in omega (arith, later, short));
    held = two.held ∙ one.held;
    taken = two.taken ∙ one.taken;
  }

  pub reads_none : (d : D) → OnlyReads g d d
  reads_none d = record { goes = advances_none d; same = refl; each = λ short t after until. absurd (omega arith) }

  pub reads_one : {old new : D} → Time g old new → g.held new ≡ g.held old → g.taken new ≡ g.taken old → g.told new ≡ g.told old → OnlyReads g old new
  reads_one {old} {new} time held taken same = record {
    goes = advances_one time held taken;
    same = same;
    each = λ short t after until.
        let clock = time.clock in let later = time.later in
        let now_is : g.past new (g.moment new) ≡ g.told new = time.newest (omega (arith, later, short)) in
        let here : t ≡ g.moment new = omega (arith, clock, later, after, until, short) in
        ap (g.past new) here ∙ now_is ∙ same;
  }

  pub reads_then : {a b c : D} → OnlyReads g a b → OnlyReads g b c → OnlyReads g a c
  reads_then {a} {b} {c} one two = record {
    goes = advances_then one.goes two.goes;
    same = two.same ∙ one.same;
    each = λ short t after up_to.
        let later = two.goes.later in
        elim (cases_lt (g.moment b) t) [
          | inr le ↦ two.goes.keeps t le short ∙ one.each (omega (arith, later, short)) t after le
          | inl lt ↦ two.each short t lt up_to ∙ one.same
        ];
  }

  pub reads_thrice : {a b c d : D} → OnlyReads g a b → OnlyReads g b c → OnlyReads g c d → OnlyReads g a d
  reads_thrice one two three = reads_then (reads_then one two) three

  -- ---- what is touched

  pub touches_none : (paths : Paths) (d : D) → Touches g paths d d
  touches_none paths d = record { goes = advances_none d; now = off_none paths (g.told d); each = λ short t after until. absurd (omega arith) }

  -- calls that only read touch nothing
  pub touches_reading : (paths : Paths) {a b : D} → OnlyReads g a b → Touches g paths a b
  touches_reading paths {a} {b} reads = record {
    goes = reads.goes;
    now = off_same paths (g.told a) (g.told b) reads.same;
    each = λ short t after up_to. off_same paths (g.told a) (g.past b t) (reads.each short t after up_to);
  }

  pub touches_one : {paths : Paths} {old new : D} → Time g old new → g.held new ≡ g.held old → g.taken new ≡ g.taken old → StaysOff paths (g.told old) (g.told new) → Touches g paths old new
  touches_one {paths} {old} {new} time held taken off = record {
    goes = advances_one time held taken;
    now = off;
    each = λ short t after until.
        let clock = time.clock in let later = time.later in
        let now_is : g.past new (g.moment new) ≡ g.told new = time.newest (omega (arith, later, short)) in
        let same : t ≡ g.moment new = omega (arith, clock, later, after, until, short) in
        subst (StaysOff paths (g.told old)) (sym (ap (g.past new) same ∙ now_is)) off;
  }

  pub touches_then : {paths : Paths} {a b c : D} → Touches g paths a b → Touches g paths b c → Touches g paths a c
  touches_then {paths} {a} {b} {c} one two = record {
    goes = advances_then one.goes two.goes;
    now = off_then paths (g.told a) (g.told b) (g.told c) one.now two.now;
    each = λ short t after up_to.
        let later = two.goes.later in
        elim (cases_lt (g.moment b) t) [
          | inr le ↦ subst (StaysOff paths (g.told a)) (sym (two.goes.keeps t le short)) (one.each (omega (arith, later, short)) t after le)
          | inl lt ↦ off_then paths (g.told a) (g.told b) (g.past c t) one.now (two.each short t lt up_to)
        ];
  }

  pub touches_more : {few many : Paths} {a b : D} → ((q : List ℕ) → IsTrue (is_one few q) → IsTrue (is_one many q)) → Touches g few a b → Touches g many a b
  touches_more {few} {many} {a} {b} more only = record {
    goes = only.goes;
    now = off_more few many (g.told a) (g.told b) more only.now;
    each = λ short t after up_to. off_more few many (g.told a) (g.past b t) more (only.each short t after up_to);
  }

  -- nothing more is touched
  pub touches_still : {paths : Paths} {a b c : D} → Touches g paths a b → Touches g [] b c → Touches g paths a c
  touches_still one two = touches_then one (touches_more (λ q is. absurd (cc)) two)

  -- more may be touched
  pub touches_front : {few : Paths} (more : Paths) {a b : D} → Touches g few a b → Touches g (few ++ more) a b
  touches_front {few} more one = touches_more (λ q is. any_front (bytes_eq q) few more is) one

  pub touches_back : (few : Paths) {more : Paths} {a b : D} → Touches g more a b → Touches g (few ++ more) a b
  touches_back few {more} one = touches_more (λ q is. any_back (bytes_eq q) few more is) one

  pub touches_both : {few more : Paths} {a b c : D} → Touches g few a b → Touches g more b c → Touches g (few ++ more) a c
  touches_both {few} {more} one two = touches_then (touches_front more one) (touches_back few two)

  -- one of these paths
  pub touches_one_of : {paths : Paths} {path : List ℕ} {a b : D} → IsTrue (is_one paths path) → Touches g (path ∷ []) a b → Touches g paths a b
  touches_one_of {paths} {path} at one =
      touches_more (λ q is. subst (λ (p : List ℕ). IsTrue (is_one paths p)) (sym ((bytes_eq-Decides q path).0 (either_is (bytes_eq q path) is))) at) one

module _ {D : Type 0} (g : Ghosts D) where
  -- ---- what is left

  pub becomes_none : (d : D) → Becomes g (λ tree. tree) d d
  becomes_none d = whole (tree_told (g.told d))
    where
      whole : (o : Option Tree) → o ≡ option_map (λ tree. tree) o
      whole None = refl
      whole (Some tree) = refl

  pub becomes_then : (f h : Tree → Tree) (a b c : D) → Becomes g f a b → Becomes g h b c → Becomes g (λ tree. h (f tree)) a c
  becomes_then f h a b c one two = two ∙ ap (option_map h) one ∙ twice (tree_told (g.told a))
    where
      twice : (o : Option Tree) → option_map h (option_map f o) ≡ option_map (λ tree. h (f tree)) o
      twice None = refl
      twice (Some tree) = refl

  pub change_becomes : {T : Type 0} (path : List ℕ) (file : Option Kept) (old new : D) (x : T) → TellsChange path file (g.told old) (g.told new) (Ok x) → Becomes g (λ tree. with_file tree path file) old new
  change_becomes path file old new x change = by_told path file (g.told old) (g.told new) x change

  pub becomes_synced : {T : Type 0} (change : Tree → Tree) (a b c : D) (result : Result T Failed) → Becomes g change a b → TellsSync (g.told b) (g.told c) result → OnOk result (Leaves g change a c)
  becomes_synced change a b c (Ok x) so_far sync = by_sync change (g.told a) (g.told b) (g.told c) x so_far sync
  becomes_synced change a b c (Err e) so_far sync = tt

  pub sync_leaves : {T : Type 0} (a b : D) (result : Result T Failed) → TellsSync (g.told a) (g.told b) result → OnOk result (Leaves g (λ tree. tree) a b)
  sync_leaves a b result sync = becomes_synced (λ tree. tree) a a b result (becomes_none a) sync

  pub becomes_leaves : (f h : Tree → Tree) (a b c : D) → Becomes g f a b → Leaves g h b c → Leaves g (λ tree. h (f tree)) a c
  becomes_leaves f h a b c one two = two ∙ split (g.told b) ∙ ap (option_map (λ tree. at_rest (h tree))) one ∙ twice (g.told a)
    where
      split : (o : Option State) → option_map (rested h) o ≡ option_map (λ tree. at_rest (h tree)) (tree_told o)
      split None = refl
      split (Some s) = refl

      twice : (o : Option State) → option_map (λ tree. at_rest (h tree)) (option_map f (tree_told o)) ≡ option_map (rested (λ tree. h (f tree))) o
      twice None = refl
      twice (Some s) = refl

  pub leaves_then : (f h : Tree → Tree) (a b c : D) → Leaves g f a b → Leaves g h b c → Leaves g (λ tree. h (f tree)) a c
  leaves_then f h a b c one two = two ∙ ap (option_map (rested h)) one ∙ twice (g.told a)
    where
      twice : (o : Option State) → option_map (rested h) (option_map (rested f) o) ≡ option_map (rested (λ tree. h (f tree))) o
      twice None = refl
      twice (Some s) = refl

-- one call
pub ruleset call_steps = (reads_one, touches_one, off_change, off_sync, change_becomes, sync_leaves)

-- one word after another. Each set is small: a tactic gives up where a set has a few lemmas more
pub ruleset read_steps = (reads_none, reads_then)

pub ruleset write_steps = (touches_none, touches_then, touches_still, becomes_none, becomes_then, leaves_then, becomes_leaves)
