-- Files of which no path meets an owned one can be owned one after another.
use Rattle.std.proofs.Common.{◌≡◌, ◌∙◌, ℕ, ◌+◌, ◌<◌, ◌≤◌, List, [], ◌∷◌, fold, length, Bool, true, false, refl, sym, ap, subst, arith}
use Rattle.std.specs.Prelude.{bytes_eq, ◌||◌}
use Rattle.std.specs.List.{AllByRecursion, IsDistinct, list_any}
use Rattle.std.specs.List.Sorted.{IsStrictlySortedBy}
use Rattle.std.specs.declared.cmp.Ordering.TheVariants.{Less}
use Rattle.std.proofs.lemmas.Bool.{false≢true}
use Rattle.std.proofs.lemmas.Slice.Eq.{bytes_eq-Decides}
use Rattle.opam_names.specs.ByteOrders.{byte_order}
use Rattle.opam_names.specs.Paths.{is_above}
use Rattle.opam_names.specs.declared.packages.Pkg.{Pkg}
use Rattle.path_order.specs.Apart.{AreApart, meets}
use Rattle.path_order.proofs.Fronts.{above_less, is_false, not_back, not_itself}
use Rattle.owner_map.specs.Owning.{Owning, owned_by}
use Rattle.owner_map.specs.Owning as owning
use Rattle.owner_map.specs.OwningLaws.{AdditionsAreMet}
use Rattle.owner_map.specs.declared.owned.OwnedPath.{OwnedPath}
use Rattle.journal_text.specs.Parts.{paths_of}
use Rattle.journal_text.specs.declared.record.Placed.{Placed}
use Rattle.switch_journal.specs.Applying.{own}
use Rattle.switch_state.specs.Prepares.{CanAdd, and_owned, owned_files}

or_left : (a b : Bool) → (a || b) ≡ false → a ≡ false
or_left true b is = absurd (false≢true (sym is))
or_left false b is = refl

or_right : (a b : Bool) → (a || b) ≡ false → b ≡ false
or_right true b is = absurd (false≢true (sym is))
or_right false b is = is

neither : (a b c : Bool) → a ≡ false → b ≡ false → c ≡ false → (a || b || c) ≡ false
neither a b c one two three = rw (one, two, three) refl

pub same_bytes : (p q : List ℕ) → bytes_eq p q ≡ true → p ≡ q
same_bytes p q is = (bytes_eq-Decides p q).0 is

-- a later path does not meet an earlier one
apart_meets : (p q : List ℕ) → byte_order p q ≡ Less → is_above p q ≡ false → meets q p ≡ false
apart_meets p q less not_above =
    neither (bytes_eq q p) (is_above q p) (is_above p q)
    (is_false (bytes_eq q p) (λ same. not_itself p (ap (byte_order p) (sym (same_bytes q p same)) ∙ less)))
    (is_false (is_above q p) (λ above. not_back p q less (above_less q p above)))
    not_above

-- ---- paths that stand apart

abbrev pub FreeOf : List OwnedPath → List (List ℕ) → Type 0
FreeOf owned paths = list_any (λ path. list_any (meets path) (owning.paths_of owned)) paths ≡ false

free_more : AdditionsAreMet → (entry : OwnedPath) (owned : List OwnedPath) (paths : List (List ℕ)) → AllByRecursion (λ q. byte_order entry.path q ≡ Less) paths → AllByRecursion (λ q. is_above entry.path q ≡ false) paths → FreeOf owned paths → FreeOf (and_owned owned entry) paths
free_more met entry owned [] later apart free = refl
free_more met entry owned (q ∷ paths) later apart free =
    let here : list_any (meets q) (owning.paths_of (and_owned owned entry)) ≡ false =
    met q entry owned ∙ (λ i. apart_meets entry.path q later.0 apart.0 i || or_left (list_any (meets q) (owning.paths_of owned)) (list_any (λ path. list_any (meets path) (owning.paths_of owned)) paths) free i) in
    let there = free_more met entry owned paths later.1 apart.1 (or_right (list_any (meets q) (owning.paths_of owned)) (list_any (λ path. list_any (meets path) (owning.paths_of owned)) paths) free) in
    rw (here, there) refl

can_all : AdditionsAreMet → (pkg : Pkg) (files : List Placed) (owned : List OwnedPath) → IsStrictlySortedBy byte_order (paths_of files) → IsDistinct is_above (paths_of files) → FreeOf owned (paths_of files) → CanAdd owned (owned_files pkg files)
unfolding IsStrictlySortedBy IsDistinct
can_all met pkg [] owned rise apart free = tt
can_all met pkg (file ∷ files) owned rise apart free =
    let rest = or_right (list_any (meets file.path) (owning.paths_of owned)) (list_any (λ path. list_any (meets path) (owning.paths_of owned)) (paths_of files)) free in (
      or_left (list_any (meets file.path) (owning.paths_of owned)) (list_any (λ path. list_any (meets path) (owning.paths_of owned)) (paths_of files)) free,
      can_all met pkg files (and_owned owned (owned_by file.path pkg)) rise.1 apart.1 (free_more met (owned_by file.path pkg) owned (paths_of files) rise.0 apart.0 rest),
    )

pub can_add : AdditionsAreMet → (pkg : Pkg) (files : List Placed) (owned : List OwnedPath) → AreApart (paths_of files) → FreeOf owned (paths_of files) → CanAdd owned (owned_files pkg files)
can_add met pkg files owned apart free = can_all met pkg files owned apart.rise apart.apart free

-- the paths of files, one after another
pub folds : (pkg : Pkg) (files : List Placed) (owned : List OwnedPath) → fold and_owned owned (owned_files pkg files) ≡ fold (own pkg) owned (paths_of files)
folds pkg [] owned = refl
folds pkg (file ∷ files) owned = folds pkg files (own pkg owned file.path)

-- paths that are owned one after another, while some are left
pub record IsAdding (start all left : List OwnedPath) (now : Owning) : Type 0 where
  pub can : CanAdd now.owned left
  pub room : length left ≤ now.spare
  pub folds_on : fold and_owned now.owned left ≡ fold and_owned start all

pub adding_first : (start : Owning) (all left : List OwnedPath) → left ≡ all → CanAdd start.owned all → length all ≤ start.spare → IsAdding start.owned all left start
adding_first start all left is can room = subst (λ (l : List OwnedPath). IsAdding start.owned all l start) (sym is) (record { can = can; room = room; folds_on = refl })

pub adding_spare : (start all left more : List OwnedPath) (entry : OwnedPath) (now : Owning) → left ≡ entry ∷ more → IsAdding start all left now → 0 < now.spare
adding_spare start all left more entry now is adding = let long = ap length is in let room = adding.room in omega (arith, long, room)

pub adding_free : (start all left more : List OwnedPath) (entry : OwnedPath) (now : Owning) → left ≡ entry ∷ more → IsAdding start all left now → list_any (meets entry.path) (owning.paths_of now.owned) ≡ false
adding_free start all left more entry now is adding = (subst (λ (l : List OwnedPath). IsAdding start all l now) is adding).can.0

pub adding_more : (start all left more : List OwnedPath) (entry : OwnedPath) (now next : Owning) → left ≡ entry ∷ more → IsAdding start all left now → next.owned ≡ and_owned now.owned entry → next.spare + 1 ≡ now.spare → IsAdding start all more next
adding_more start all left more entry now next is adding owned spare =
    let on = subst (λ (l : List OwnedPath). IsAdding start all l now) is adding in
    record {
      can = subst (λ (o : List OwnedPath). CanAdd o more) (sym owned) on.can.1;
      room = let room = on.room in omega (arith, room, spare);
      folds_on = ap (λ (o : List OwnedPath). fold and_owned o more) owned ∙ on.folds_on;
    }

pub adding_last : (start all left : List OwnedPath) (now : Owning) (count : ℕ) → count ≡ length left → count ≡ 0 → IsAdding start all left now → now.owned ≡ fold and_owned start all
adding_last start all [] now count is none adding = adding.folds_on
adding_last start all (entry ∷ left) now count is none adding = absurd (omega (arith, is, none))
