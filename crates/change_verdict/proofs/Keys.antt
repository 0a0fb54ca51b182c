-- What the keys of a tree say of what stands in it.
use Rattle.std.proofs.Common.{◌≡◌, ◌⊎◌, inl, inr, ℕ, List, [], ◌∷◌, Bool, true, false, IsSome, Option, None, refl, sym, ◌∙◌, ap}
use Rattle.std.specs.Prelude.{◌||◌, is_some}
use Rattle.std.specs.List.{list_any}
use Rattle.std.specs.Ordering.{nat_cmp, eq_by_cmp}
use Rattle.std.specs.Cmp.Lexicographic.{slice_cmp}
use Rattle.std.specs.FinMap.{get, keys, contains_key-keys}
use Rattle.std.proofs.lemmas.Map.Text.{is_eq-slice_cmp}
use Rattle.std.proofs.lemmas.Slice.Eq.{bytes_eq-Decides}
use Rattle.std.proofs.lemmas.Bool.{cases_Bool}
use Rattle.crash_disk.specs.Disks.{Tree}

abbrev same_key : List ℕ → List ℕ → Bool
same_key = eq_by_cmp (slice_cmp nat_cmp)

same : (q k : List ℕ) → same_key q k ≡ true → q ≡ k
same q k is = (bytes_eq-Decides q k).0 (sym (is_eq-slice_cmp q k) ∙ is)

itself : (q : List ℕ) → same_key q q ≡ true
itself q = is_eq-slice_cmp q q ∙ (bytes_eq-Decides q q).1 refl

pub either : (a b : Bool) → (a || b) ≡ true → (a ≡ true) ⊎ (b ≡ true)
either true b is = inl refl
either false b is = inr is

pub left : (a b : Bool) → a ≡ true → (a || b) ≡ true
left true b is = refl
left false b is = absurd (cc)

pub right : (a b : Bool) → b ≡ true → (a || b) ≡ true
right true b is = refl
right false b is = is

-- a key that passes is one that the list has
passing : (test : List ℕ → Bool) (ks : List (List ℕ)) → list_any test ks ≡ true → (q : List ℕ) × (test q ≡ true) × (list_any (same_key q) ks ≡ true)
passing test [] is = absurd (cc)
passing test (k ∷ ks) is =
    elim (either (test k) (list_any test ks) is) [
      | inl here ↦ (k, here, left (same_key k k) (list_any (same_key k) ks) (itself k))
      | inr there ↦ let later = passing test ks there in (later.0, later.1, right (same_key later.0 k) (list_any (same_key later.0) ks) later.2)
    ]

passes : (test : List ℕ → Bool) (q : List ℕ) (ks : List (List ℕ)) → test q ≡ true → list_any (same_key q) ks ≡ true → list_any test ks ≡ true
passes test q [] at is = absurd (cc)
passes test q (k ∷ ks) at is =
    elim (either (same_key q k) (list_any (same_key q) ks) is) [
      | inl here ↦ left (test k) (list_any test ks) (ap test (sym (same q k here)) ∙ at)
      | inr there ↦ right (test k) (list_any test ks) (passes test q ks at there)
    ]

-- a key that passes, and a file there
pub any_key : (m : Tree) (test : List ℕ → Bool) → list_any test (keys m) ≡ true → (q : List ℕ) × (test q ≡ true) × IsSome (get m q)
any_key m test is = let found = passing test (keys m) is in (found.0, found.1, contains_key-keys m found.0 ∙ found.2)

pub some_key : (m : Tree) (test : List ℕ → Bool) (q : List ℕ) → IsSome (get m q) → test q ≡ true → list_any test (keys m) ≡ true
some_key m test q there at = passes test q (keys m) at (sym (contains_key-keys m q) ∙ there)

not_some : {X : Type 0} (o : Option X) → o ≡ None → IsSome o → ⊥
not_some o none some = let e : is_some o ≡ false = ap is_some none in cc

-- where nothing stands at a path that passes, no key does
pub no_key : (m : Tree) (test : List ℕ → Bool) → ((q : List ℕ) → test q ≡ true → get m q ≡ None) → list_any test (keys m) ≡ false
no_key m test none =
    elim (cases_Bool (list_any test (keys m))) [
      | inl is ↦ let found = any_key m test is in absurd (not_some (get m found.0) (none found.0 found.1) found.2)
      | inr is ↦ is
    ]
