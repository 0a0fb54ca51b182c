-- What files and keys hold, in whatever order they stand.
use Rattle.std.proofs.Common.{◌≡◌, ◌⊎◌, inl, inr, ℕ, List, [], ◌∷◌, Bool, true, false, IsSome, refl, sym, ◌∙◌, ap}
use Rattle.std.specs.Prelude.{◌||◌, if◌then◌else◌}
use Rattle.std.specs.List.{list_any}
use Rattle.std.specs.Ordering.{nat_cmp, eq_by_cmp}
use Rattle.std.specs.Cmp.Lexicographic.{slice_cmp}
use Rattle.std.specs.FinMap.{get, keys, contains_key-keys}
use Rattle.std.proofs.lemmas.Map.Text.{is_eq-slice_cmp}
use Rattle.std.proofs.lemmas.Slice.Eq.{bytes_eq-Decides}
use Rattle.opam_names.specs.ByteOrders.{precedes, put_by}
use Rattle.journal_text.specs.Parts.{paths_of}
use Rattle.journal_text.specs.declared.record.Placed.{Placed}
use Rattle.crash_disk.specs.Disks.{Tree}
use Rattle.change_verdict.specs.Verdicts.{in_path_order}

abbrev at : Placed → List ℕ
at file = file.path

pub or_swap : (a b c : Bool) → (a || (b || c)) ≡ (b || (a || c))
or_swap true true c = refl
or_swap true false c = refl
or_swap false b c = refl

any_put : (test : List ℕ → Bool) (file : Placed) (files : List Placed) → list_any test (paths_of (put_by at file files)) ≡ (test file.path || list_any test (paths_of files))
any_put test file [] = refl
any_put test file (first ∷ files) = by (precedes first.path file.path) (any_put test file files)
  where
    by : (b : Bool) → list_any test (paths_of (put_by at file files)) ≡ (test file.path || list_any test (paths_of files))
        → list_any test (paths_of (if b then first ∷ put_by at file files else file ∷ first ∷ files)) ≡ (test file.path || (test first.path || list_any test (paths_of files)))
    by true later = ap (λ x. test first.path || x) later ∙ or_swap (test first.path) (test file.path) (list_any test (paths_of files))
    by false later = refl

pub any_ordered : (test : List ℕ → Bool) (files : List Placed) → list_any test (paths_of (in_path_order files)) ≡ list_any test (paths_of files)
any_ordered test [] = refl
any_ordered test (file ∷ files) = any_put test file (in_path_order files) ∙ ap (λ x. test file.path || x) (any_ordered test files)

-- ---- keys

abbrev same_key : List ℕ → List ℕ → Bool
same_key = eq_by_cmp (slice_cmp nat_cmp)

either : (a b : Bool) → (a || b) ≡ true → (a ≡ true) ⊎ (b ≡ true)
either true b is = inl refl
either false b is = inr is

left : (a b : Bool) → a ≡ true → (a || b) ≡ true
left true b is = refl
left false b is = absurd (cc)

right : (a b : Bool) → b ≡ true → (a || b) ≡ true
right true b is = refl
right false b is = is

passes : (test : List ℕ → Bool) (q : List ℕ) (ks : List (List ℕ)) → test q ≡ true → list_any (same_key q) ks ≡ true → list_any test ks ≡ true
passes test q [] here is = absurd (cc)
passes test q (k ∷ ks) here is =
    elim (either (same_key q k) (list_any (same_key q) ks) is) [
      | inl first ↦ left (test k) (list_any test ks) (ap test (sym ((bytes_eq-Decides q k).0 (sym (is_eq-slice_cmp q k) ∙ first))) ∙ here)
      | inr later ↦ right (test k) (list_any test ks) (passes test q ks here later)
    ]

-- a key that passes is one that the list has
passing : (test : List ℕ → Bool) (ks : List (List ℕ)) → list_any test ks ≡ true → (q : List ℕ) × (test q ≡ true) × (list_any (same_key q) ks ≡ true)
passing test [] is = absurd (cc)
passing test (k ∷ ks) is =
    elim (either (test k) (list_any test ks) is) [
      | inl here ↦ (k, here, left (same_key k k) (list_any (same_key k) ks) (is_eq-slice_cmp k k ∙ (bytes_eq-Decides k k).1 refl))
      | inr there ↦ let later = passing test ks there in (later.0, later.1, right (same_key later.0 k) (list_any (same_key later.0) ks) later.2)
    ]

-- a key that passes, and a file there
pub any_key : (m : Tree) (test : List ℕ → Bool) → list_any test (keys m) ≡ true → (q : List ℕ) × (test q ≡ true) × IsSome (get m q)
any_key m test is = let found = passing test (keys m) is in (found.0, found.1, contains_key-keys m found.0 ∙ found.2)

pub some_key : (m : Tree) (test : List ℕ → Bool) (q : List ℕ) → IsSome (get m q) → test q ≡ true → list_any test (keys m) ≡ true
some_key m test q there here = passes test q (keys m) here (sym (contains_key-keys m q) ∙ there)
