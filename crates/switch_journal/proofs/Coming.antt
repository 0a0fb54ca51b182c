-- The paths of a package that comes go to it one by one.
use Rattle.std.proofs.Common.{◌≡◌, ◌∙◌, ℕ, suc, ◌+◌, ◌<◌, ◌≤◌, List, [], ◌∷◌, length, drop, fold, get_or, Bool, true, false, refl, sym, subst, ap, arith}
use Rattle.std.specs.Prelude.{◌||◌, bytes_eq}
use Rattle.std.specs.List.{AllByRecursion, IsDistinct, list_any}
use Rattle.std.specs.List.Sorted.{IsStrictlySortedBy}
use Rattle.std.specs.declared.cmp.Ordering.TheVariants.{Less}
use Rattle.std.proofs.Math.Seq.{drop-cons}
use Rattle.std.proofs.lemmas.Slice.Eq.{bytes_eq-Decides}
use Rattle.opam_names.specs.Paths.{is_above}
use Rattle.opam_names.specs.declared.packages.Pkg.{Pkg}
use Rattle.path_order.specs.Apart.{AreApart, meets}
use Rattle.path_order.proofs.Fronts.{C, is_false, not_above, not_back, not_itself}
use Rattle.journal_text.specs.Parts.{paths_of}
use Rattle.journal_text.specs.declared.record.Placed.{Placed}
use Rattle.owner_map.specs.Owning as owning
use Rattle.owner_map.specs.Owning.{owned_by}
use Rattle.owner_map.specs.OwningLaws.{AdditionsAreMet}
use Rattle.owner_map.specs.declared.owned.OwnedPath.{OwnedPath}
use Rattle.switch_journal.specs.Applying.{own}
use Rattle.switch_journal.specs.Keeping.{meets_any}

abbrev Paths : Type 0
Paths = List (List ℕ)

left_false : (a b : Bool) → (a || b) ≡ false → a ≡ false
left_false true b is = absurd (cc)
left_false false b is = refl

right_false : (a b : Bool) → (a || b) ≡ false → b ≡ false
right_false true b is = absurd (cc)
right_false false b is = is

pub both_false : (a b : Bool) → a ≡ false → b ≡ false → (a || b) ≡ false
both_false a b p q = rw (p, q) refl

-- a later path does not meet this one
pub apart_free : (p q : List ℕ) → C p q ≡ Less → is_above p q ≡ false → meets q p ≡ false
apart_free p q less above =
    both_false (bytes_eq q p || is_above q p) (is_above p q)
    (both_false (bytes_eq q p) (is_above q p)
    (is_false (bytes_eq q p) (λ same. not_itself p (subst (λ (r : List ℕ). C p r ≡ Less) ((bytes_eq-Decides q p).0 same) less)))
    (not_above q p (λ back. not_back p q less back)))
    above

-- the others stay free once this path is owned
still_free : AdditionsAreMet → (pkg : Pkg) (path : List ℕ) (owned : List OwnedPath) (paths : Paths) → AllByRecursion (λ q. C path q ≡ Less) paths → AllByRecursion (λ q. is_above path q ≡ false) paths
    → meets_any owned paths ≡ false → meets_any (own pkg owned path) paths ≡ false
still_free law pkg path owned [] rise apart free = refl
still_free law pkg path owned (q ∷ paths) rise apart free =
    both_false (list_any (meets q) (owning.paths_of (own pkg owned path))) (meets_any (own pkg owned path) paths)
    (law q (owned_by path pkg) owned ∙ both_false (meets q path) (list_any (meets q) (owning.paths_of owned)) (apart_free path q rise.0 apart.0) (left_false (list_any (meets q) (owning.paths_of owned)) (meets_any owned paths) free))
    (still_free law pkg path owned paths rise.1 apart.1 (right_false (list_any (meets q) (owning.paths_of owned)) (meets_any owned paths) free))

-- the paths from this one on are still to come
pub record ComesFrom (pkg : Pkg) (start : List OwnedPath) (files : List Placed) (i : ℕ) (owned : List OwnedPath) (spare : ℕ) : Type 0 where
  pub same : fold (own pkg) owned (paths_of (drop i files)) ≡ fold (own pkg) start (paths_of files)
  pub room : length files ≤ i + spare
  pub free : meets_any owned (paths_of (drop i files)) ≡ false
  pub apart : AreApart (paths_of (drop i files))

pub first_free : {pkg : Pkg} {start owned : List OwnedPath} {files : List Placed} {i spare : ℕ} (file : Placed) → drop i files ≡ file ∷ drop (i + 1) files → ComesFrom pkg start files i owned spare → list_any (meets file.path) (owning.paths_of owned) ≡ false
first_free {owned = owned} {files = files} {i = i} file next comes =
    left_false (list_any (meets file.path) (owning.paths_of owned)) (meets_any owned (paths_of (drop (i + 1) files))) (subst (λ (l : List Placed). meets_any owned (paths_of l) ≡ false) next comes.free)

pub comes_next : AdditionsAreMet → (pkg : Pkg) (start owned : List OwnedPath) (files : List Placed) (i spare later : ℕ) (file : Placed) → drop i files ≡ file ∷ drop (i + 1) files → later + 1 ≡ spare → ComesFrom pkg start files i owned spare
    → ComesFrom pkg start files (i + 1) (own pkg owned file.path) later
unfolding IsStrictlySortedBy IsDistinct
comes_next law pkg start owned files i spare later file next fewer comes =
    let apart : AreApart (file.path ∷ paths_of (drop (i + 1) files)) = subst (λ (l : List Placed). AreApart (paths_of l)) next comes.apart in
    record {
      same = sym (ap (λ (l : List Placed). fold (own pkg) owned (paths_of l)) next) ∙ comes.same;
      room = omega (arith, fewer, comes.room);
      free = still_free law pkg file.path owned (paths_of (drop (i + 1) files)) apart.rise.0 apart.apart.0
          (right_false (list_any (meets file.path) (owning.paths_of owned)) (meets_any owned (paths_of (drop (i + 1) files))) (subst (λ (l : List Placed). meets_any owned (paths_of l) ≡ false) next comes.free));
      apart = record { rise = apart.rise.1; apart = apart.apart.1 };
    }

-- the file at this place
pub next_at : (files : List Placed) (i : ℕ) (file : Placed) → i < length files → file ≡ get_or files i file → drop i files ≡ file ∷ drop (i + 1) files
next_at files i file within is = let one : suc i ≡ i + 1 = omega arith in drop-cons files i file within ∙ (λ j. sym is j ∷ drop (one j) files)
