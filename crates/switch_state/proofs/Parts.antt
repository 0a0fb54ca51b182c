-- Some of the paths of a list, in their order, stand as these do.
use Rattle.std.proofs.Common.{◌≡◌, ◌∙◌, ℕ, Bool, true, false, List, [], ◌∷◌, ◌++◌, map, filter, cond, refl, sym, ap, subst, Some}
use Rattle.std.specs.Prelude.{bytes_eq, ◌&&◌, ◌||◌}
use Rattle.std.specs.List.{AllByRecursion, IsDistinct, list_all, list_any}
use Rattle.std.specs.List.Sorted.{IsStrictlySortedBy}
use Rattle.std.specs.declared.cmp.Ordering.TheVariants.{Less}
use Rattle.opam_names.specs.ByteOrders.{byte_order}
use Rattle.opam_names.specs.Paths.{is_above}
use Rattle.opam_names.specs.declared.packages.Pkg.{Pkg}
use Rattle.path_order.specs.Apart.{AreApart}
use Rattle.path_order.proofs.Fronts.{not_itself}
use Rattle.owner_map.specs.Owning.{is_owned_by, is_same_pkg, owner_of, path_of, paths_owned_by}
use Rattle.owner_map.specs.Owning as owning
use Rattle.owner_map.specs.declared.owned.OwnedPath.{OwnedPath}
use Rattle.journal_text.specs.Parts.{AreFree, is_own}
use Rattle.switch_journal.specs.Applying.{is_owner}
use Rattle.switch_state.specs.Gathering.{IsPart, no_path, with_path, without_path}
use Rattle.switch_state.proofs.Adding.{same_bytes}
use Rattle.switch_state.proofs.Aparts.{chosen_apart}
use Rattle.switch_state.proofs.SoundKept.{bytes_self, is_false, or_left, or_right, neither}

-- ---- one path more

pub part_more : (path : List ℕ) {few all : List (List ℕ)} → IsPart few all → IsPart (few ++ path ∷ []) (all ++ path ∷ [])
part_more path no_path = with_path path no_path
part_more path (with_path p part) = with_path p (part_more path part)
part_more path (without_path p part) = without_path p (part_more path part)

pub part_less : (path : List ℕ) {few all : List (List ℕ)} → IsPart few all → IsPart few (all ++ path ∷ [])
part_less path no_path = without_path path no_path
part_less path (with_path p part) = with_path p (part_less path part)
part_less path (without_path p part) = without_path p (part_less path part)

-- ---- what is true of all is true of some

pub all_part : (P : List ℕ → Type 0) {few all : List (List ℕ)} → IsPart few all → AllByRecursion P all → AllByRecursion P few
all_part P no_path all = tt
all_part P (with_path p part) all = (all.0, all_part P part all.1)
all_part P (without_path p part) all = all_part P part all.1

none_part : (t : List ℕ → Bool) {few all : List (List ℕ)} → IsPart few all → list_any t all ≡ false → list_any t few ≡ false
none_part t no_path none = refl
none_part t (with_path p {few} {all} part) none = neither (t p) (list_any t few) (or_left (t p) (list_any t all) none) (none_part t part (or_right (t p) (list_any t all) none))
none_part t (without_path p {few} {all} part) none = none_part t part (or_right (t p) (list_any t all) none)

rise_part : {few all : List (List ℕ)} → IsPart few all → IsStrictlySortedBy byte_order all → IsStrictlySortedBy byte_order few
unfolding IsStrictlySortedBy
rise_part no_path rise = tt
rise_part (with_path p part) rise = (all_part (λ q. byte_order p q ≡ Less) part rise.0, rise_part part rise.1)
rise_part (without_path p part) rise = rise_part part rise.1

distinct_part : {few all : List (List ℕ)} → IsPart few all → IsDistinct is_above all → IsDistinct is_above few
unfolding IsDistinct
distinct_part no_path apart = tt
distinct_part (with_path p part) apart = (all_part (λ q. is_above p q ≡ false) part apart.0, distinct_part part apart.1)
distinct_part (without_path p part) apart = distinct_part part apart.1

pub free_part : {few all : List (List ℕ)} → IsPart few all → AreFree all → AreFree few
free_part part free = record { apart = record { rise = rise_part part free.apart.rise; apart = distinct_part part free.apart.apart }; free = none_part is_own part free.free }

-- ---- the paths of a package

none_chosen : (t : List ℕ → Bool) (test : OwnedPath → Bool) (owned : List OwnedPath) → list_any t (owning.paths_of owned) ≡ false → list_any t (owning.paths_of (filter test owned)) ≡ false
none_chosen t test [] none = refl
none_chosen t test (o ∷ owned) none = by (test o) (none_chosen t test owned (or_right (t o.path) (list_any t (owning.paths_of owned)) none))
  where
    by : (b : Bool) → list_any t (owning.paths_of (filter test owned)) ≡ false → list_any t (owning.paths_of (cond b (o ∷ filter test owned) (filter test owned))) ≡ false
    by true later = neither (t o.path) (list_any t (owning.paths_of (filter test owned))) (or_left (t o.path) (list_any t (owning.paths_of owned)) none) later
    by false later = later

pub owned_free : (pkg : Pkg) (owned : List OwnedPath) → AreFree (owning.paths_of owned) → AreFree (paths_owned_by pkg owned)
owned_free pkg owned free = record { apart = chosen_apart path_of (is_owned_by pkg) owned free.apart; free = none_chosen is_own (is_owned_by pkg) owned free.free }

-- each of them has this owner
abbrev IsIts : Pkg → List OwnedPath → List ℕ → Type 0
IsIts pkg owned path = is_owner pkg (owner_of path owned) ≡ true

module _ (pkg : Pkg) where
  further : (o : OwnedPath) (owned : List OwnedPath) (path : List ℕ) → byte_order o.path path ≡ Less → IsIts pkg owned path → IsIts pkg (o ∷ owned) path
  further o owned path less is =
      let other = is_false (bytes_eq o.path path) (λ same. not_itself o.path (ap (byte_order o.path) (same_bytes o.path path same) ∙ less)) in
      rw other is

  all_further : (o : OwnedPath) (owned : List OwnedPath) (test : OwnedPath → Bool) (more : List OwnedPath) → AllByRecursion (λ q. byte_order o.path q ≡ Less) (owning.paths_of more) → AllByRecursion (IsIts pkg owned) (owning.paths_of (filter test more)) → AllByRecursion (IsIts pkg (o ∷ owned)) (owning.paths_of (filter test more))
  all_further o owned test [] less all = tt
  all_further o owned test (m ∷ more) less all = by (test m) all (all_further o owned test more less.1)
    where
      by : (b : Bool) → AllByRecursion (IsIts pkg owned) (owning.paths_of (cond b (m ∷ filter test more) (filter test more))) → (AllByRecursion (IsIts pkg owned) (owning.paths_of (filter test more)) → AllByRecursion (IsIts pkg (o ∷ owned)) (owning.paths_of (filter test more)))
          → AllByRecursion (IsIts pkg (o ∷ owned)) (owning.paths_of (cond b (m ∷ filter test more) (filter test more)))
      by true all later = (further o owned m.path less.0 all.0, later all.1)
      by false all later = later all

  all_its : (owned : List OwnedPath) → IsStrictlySortedBy byte_order (owning.paths_of owned) → AllByRecursion (IsIts pkg owned) (paths_owned_by pkg owned)
  unfolding IsStrictlySortedBy
  all_its [] rise = tt
  all_its (o ∷ owned) rise = by (is_owned_by pkg o) refl (all_further o owned (is_owned_by pkg) owned rise.0 (all_its owned rise.1))
    where
      here : is_same_pkg o.owner pkg ≡ true → IsIts pkg (o ∷ owned) o.path
      here same = rw (bytes_self o.path) same

      by : (b : Bool) → is_owned_by pkg o ≡ b → AllByRecursion (IsIts pkg (o ∷ owned)) (owning.paths_of (filter (is_owned_by pkg) owned)) → AllByRecursion (IsIts pkg (o ∷ owned)) (owning.paths_of (cond b (o ∷ filter (is_owned_by pkg) owned) (filter (is_owned_by pkg) owned)))
      by true same later = (here same, later)
      by false other later = later

  all_true : (t : List ℕ → Bool) (paths : List (List ℕ)) → AllByRecursion (λ p. t p ≡ true) paths → list_all t paths ≡ true
  all_true t [] all = refl
  all_true t (p ∷ paths) all = let here = all.0 in let later = all_true t paths all.1 in rw (here, later) refl

  pub part_owned : (owned : List OwnedPath) (few : List (List ℕ)) → IsStrictlySortedBy byte_order (owning.paths_of owned) → IsPart few (paths_owned_by pkg owned) → list_all (λ path. is_owner pkg (owner_of path owned)) few ≡ true
  part_owned owned few rise part = all_true (λ path. is_owner pkg (owner_of path owned)) few (all_part (IsIts pkg owned) part (all_its owned rise))
