-- Whose a path is, and what more files of a package change.
use Rattle.std.proofs.Common.{◌≡◌, ℕ, suc, ◌+◌, List, [], ◌∷◌, ◌++◌, length, take, drop, get_or, ◌<◌, Bool, true, false, not, cond, IsSome, Option, Some, None, refl, sym, ◌∙◌, ap, subst, arith, append_assoc, length-append}
use Rattle.std.specs.Prelude.{bytes_eq, is_none, is_some, ◌||◌}
use Rattle.std.specs.List.{list_all}
use Rattle.std.specs.Ordering.{nat_cmp}
use Rattle.std.specs.Cmp.Lexicographic.{slice_cmp}
use Rattle.std.specs.FinMap.{find, get, insert, len, from_entries_push, get-empty, get-insert, get-from_entries, len-insert, nat_cmp-IsAntisymmetric, slice_cmp-IsAntisymmetric}
use Rattle.std.proofs.lemmas.Cmp.{nat_list_cmp_total}
use Rattle.std.proofs.lemmas.List.{append-nil, take-append-drop}
use Rattle.std.proofs.lemmas.List.Folds.{list_all-append, list_all_more}
use Rattle.std.proofs.lemmas.Map.Text.{is_eq-slice_cmp}
use Rattle.std.proofs.lemmas.Slice.Eq.{bytes_eq-Decides}
use Rattle.opam_names.specs.declared.packages.Pkg.{Pkg}
use Rattle.outside_io.specs.Counts.{ByPath}
use Rattle.opam_top.specs.Commits.{is_among, is_at, paths_differ}
use Rattle.opam_top.specs.Owners.{is_owned_in_bin, is_unowned, owned_by, owners_of}
use Rattle.opam_top.specs.Placements.{in_byte_order, is_bin_path, is_in_bin}
use Rattle.opam_top.specs.Switches.{with_owner}
use Rattle.opam_top.specs.declared.records.Placed.{Placed}
use Rattle.opam_top.proofs.Apart.{differ_order, neither_left, neither_right, not_true, turned}
use Rattle.opam_top.proofs.Orders.{order_keeps}
use Rattle.opam_top.proofs.Tests.{both, both_left, both_right}

-- the list of owners is read as the map that it stands for
pub get_owner : (owners : List (List ℕ × Pkg)) (path : List ℕ) → get (owners_of owners) path ≡ find (slice_cmp nat_cmp) path owners
get_owner owners path = get-from_entries nat_list_cmp_total owners path

get_put : (owners : ByPath Pkg) (p q : List ℕ) (pkg : Pkg) → get (insert owners p pkg) q ≡ cond (bytes_eq q p) (Some pkg) (get owners q)
get_put owners p q pkg = get-insert nat_list_cmp_total owners p pkg q ∙ ap (λ (b : Bool). cond b (Some pkg) (get owners q)) (is_eq-slice_cmp q p)

-- one of the package's files has the path, or it is owned as before
one_more : (first later : Bool) (new old : Option Pkg) → cond later new (cond first new old) ≡ cond (first || later) new old
one_more true true new old = refl
one_more true false new old = refl
one_more false true new old = refl
one_more false false new old = refl

pub get_with_owner : (owners : ByPath Pkg) (pkg : Pkg) (files : List Placed) (path : List ℕ) → get (with_owner owners pkg files) path ≡ cond (is_among files path) (Some pkg) (get owners path)
get_with_owner owners pkg [] path = refl
get_with_owner owners pkg (file ∷ files) path =
    get_with_owner (insert owners file.path pkg) pkg files path
    ∙ ap (λ (o : Option Pkg). cond (is_among files path) (Some pkg) o) (get_put owners file.path path pkg)
    ∙ one_more (is_at path file) (is_among files path) (Some pkg) (get owners path)

pub owned_if_among : (owners : ByPath Pkg) (pkg : Pkg) (files : List Placed) (path : List ℕ) → is_among files path ≡ true → Some pkg ≡ get (with_owner owners pkg files) path
owned_if_among owners pkg files path is = sym (get_with_owner owners pkg files path ∙ ap (λ (b : Bool). cond b (Some pkg) (get owners path)) is)

pub owned_as_before : (owners : ByPath Pkg) (pkg : Pkg) (files : List Placed) (path : List ℕ) → is_among files path ≡ false → get owners path ≡ get (with_owner owners pkg files) path
owned_as_before owners pkg files path is = sym (get_with_owner owners pkg files path ∙ ap (λ (b : Bool). cond b (Some pkg) (get owners path)) is)

-- a path that nobody owns then
not_chosen : (b : Bool) (pkg : Pkg) (old : Option Pkg) → cond b (Some pkg) old ≡ None → (b ≡ false) × (old ≡ None)
not_chosen true pkg old is = absurd (cc)
not_chosen false pkg old is = (refl, is)

pub not_among : (owners : ByPath Pkg) (pkg : Pkg) (files : List Placed) (path : List ℕ) → get (with_owner owners pkg files) path ≡ None → is_among files path ≡ false
not_among owners pkg files path is = (not_chosen (is_among files path) pkg (get owners path) (sym (get_with_owner owners pkg files path) ∙ is)).0

pub not_owned : (owners : ByPath Pkg) (pkg : Pkg) (files : List Placed) (path : List ℕ) → get (with_owner owners pkg files) path ≡ None → get owners path ≡ None
not_owned owners pkg files path is = (not_chosen (is_among files path) pkg (get owners path) (sym (get_with_owner owners pkg files path) ∙ is)).1

-- ---- all that is owned stands in `bin`
abbrev pub OwnsInBin : ByPath Pkg → Type 0
OwnsInBin owners = (q : List ℕ) → IsSome (get owners q) → is_bin_path q ≡ true

not_some : {X : Type 0} (o : Option X) → o ≡ None → IsSome o → ⊥
not_some o none some = let e : is_some o ≡ false = ap is_some none in cc

in_bin_by : (b : Bool) (q : List ℕ) (new old : Option Pkg) → (b ≡ true → is_bin_path q ≡ true) → (IsSome old → is_bin_path q ≡ true) → IsSome (cond b new old) → is_bin_path q ≡ true
in_bin_by true q new old here there some = here refl
in_bin_by false q new old here there some = there some

same_path : (p q : List ℕ) → bytes_eq p q ≡ true → is_bin_path q ≡ true → is_bin_path p ≡ true
same_path p q same is = ap is_bin_path ((bytes_eq-Decides p q).0 same) ∙ is

pub owned_in_bin : (owners : List (List ℕ × Pkg)) → list_all is_owned_in_bin owners ≡ true → OwnsInBin (owners_of owners)
owned_in_bin [] all q some = absurd (not_some (get (owners_of []) q) (get-empty (slice_cmp nat_cmp) q) some)
owned_in_bin (owned ∷ owners) all q some =
    in_bin_by (bytes_eq q owned.0) q (Some owned.1) (get (owners_of owners) q)
    (λ same. same_path q owned.0 same (both_left (is_owned_in_bin owned) (list_all is_owned_in_bin owners) all))
    (owned_in_bin owners (both_right (is_owned_in_bin owned) (list_all is_owned_in_bin owners) all) q)
    (subst (λ (o : Option Pkg). IsSome o) (get_put (owners_of owners) owned.0 q owned.1) some)

either : (a b : Bool) (P : Type 0) → (a ≡ true → P) → (b ≡ true → P) → (a || b) ≡ true → P
either true b P here there is = here refl
either false b P here there is = there is

among_in_bin : (files : List Placed) (q : List ℕ) → list_all is_in_bin files ≡ true → is_among files q ≡ true → is_bin_path q ≡ true
among_in_bin [] q all is = absurd (cc)
among_in_bin (file ∷ files) q all is =
    either (is_at q file) (is_among files q) (is_bin_path q ≡ true)
    (λ same. same_path q file.path same (both_left (is_in_bin file) (list_all is_in_bin files) all))
    (among_in_bin files q (both_right (is_in_bin file) (list_all is_in_bin files) all)) is

pub more_in_bin : (owners : ByPath Pkg) (pkg : Pkg) (files : List Placed) → OwnsInBin owners → list_all is_in_bin files ≡ true → OwnsInBin (with_owner owners pkg files)
more_in_bin owners pkg files old all q some =
    in_bin_by (is_among files q) q (Some pkg) (get owners q) (among_in_bin files q all) (old q) (subst (λ (o : Option Pkg). IsSome o) (get_with_owner owners pkg files q) some)

pub first_in_bin : (files : List Placed) (i : ℕ) → list_all is_in_bin files ≡ true → list_all is_in_bin (take i files) ≡ true
first_in_bin files i all =
    both_left (list_all is_in_bin (take i files)) (list_all is_in_bin (drop i files)) (sym (list_all-append is_in_bin (take i files) (drop i files)) ∙ ap (list_all is_in_bin) (take-append-drop i files) ∙ all)

-- ---- one more file
pub owner_last : (owners : ByPath Pkg) (pkg : Pkg) (files : List Placed) (file : Placed) → with_owner owners pkg (files ++ file ∷ []) ≡ insert (with_owner owners pkg files) file.path pkg
owner_last owners pkg [] file = refl
owner_last owners pkg (first ∷ files) file = owner_last (insert owners first.path pkg) pkg files file

pub unowned_next : (owners : ByPath Pkg) (files : List Placed) (i : ℕ) (file : Placed) → file ≡ get_or files i file → i < length files → get owners file.path ≡ None → list_all (is_unowned owners) (take i files) ≡ true → list_all (is_unowned owners) (take (i + 1) files) ≡ true
unowned_next owners files i file here within none so_far =
    list_all_more (is_unowned owners) files i file within
    ∙ both (list_all (is_unowned owners) (take i files)) (is_unowned owners (get_or files i file)) so_far (ap (is_unowned owners) (sym here) ∙ ap (λ (o : Option Pkg). is_none o) none)

-- a path that is new and not among these is new to those as well
still_unowned : (owners : ByPath Pkg) (pkg : Pkg) (path : List ℕ) (files : List Placed) → is_among files path ≡ false → list_all (is_unowned owners) files ≡ true → list_all (is_unowned (insert owners path pkg)) files ≡ true
still_unowned owners pkg path [] apart new = refl
still_unowned owners pkg path (file ∷ files) apart new =
    let here : bytes_eq file.path path ≡ false = turned file.path path ∙ neither_left (is_at path file) (is_among files path) apart in
    both (is_unowned (insert owners path pkg) file) (list_all (is_unowned (insert owners path pkg)) files)
    (ap (λ (o : Option Pkg). is_none o) (get_put owners path file.path pkg ∙ ap (λ (b : Bool). cond b (Some pkg) (get owners file.path)) here) ∙ both_left (is_unowned owners file) (list_all (is_unowned owners) files) new)
    (still_unowned owners pkg path files (neither_right (is_at path file) (is_among files path) apart) (both_right (is_unowned owners file) (list_all (is_unowned owners) files) new))

-- and the other way round
new_by : (same : Bool) (pkg : Pkg) (old : Option Pkg) → is_none (cond same (Some pkg) old) ≡ true → (same ≡ false) × (is_none old ≡ true)
new_by true pkg old is = absurd (cc)
new_by false pkg old is = (refl, is)

neither : (a b : Bool) → a ≡ false → b ≡ false → (a || b) ≡ false
neither a b p q = rw (p, q) refl

pub unowned_before : (owners : ByPath Pkg) (pkg : Pkg) (path : List ℕ) (files : List Placed) → list_all (is_unowned (insert owners path pkg)) files ≡ true → (list_all (is_unowned owners) files ≡ true) × (is_among files path ≡ false)
unowned_before owners pkg path [] new = (refl, refl)
unowned_before owners pkg path (file ∷ files) new =
    let here = new_by (bytes_eq file.path path) pkg (get owners file.path)
    (ap (λ (o : Option Pkg). is_none o) (sym (get_put owners path file.path pkg)) ∙ both_left (is_unowned (insert owners path pkg) file) (list_all (is_unowned (insert owners path pkg)) files) new) in
    let later = unowned_before owners pkg path files (both_right (is_unowned (insert owners path pkg) file) (list_all (is_unowned (insert owners path pkg)) files) new) in (
      both (is_unowned owners file) (list_all (is_unowned owners) files) here.1 later.0,
      neither (is_at path file) (is_among files path) (turned path file.path ∙ here.0) later.1,
    )

none_there : {X : Type 0} (o : Option X) → is_none o ≡ true → o ≡ None
none_there None is = refl
none_there (Some x) is = absurd (cc)

-- the pair of a path that nobody owns comes last
push_owned : (owners : List (List ℕ × Pkg)) (path : List ℕ) (pkg : Pkg) → get (owners_of owners) path ≡ None → owners_of (owners ++ (path, pkg) ∷ []) ≡ insert (owners_of owners) path pkg
push_owned owners path pkg none = from_entries_push nat_list_cmp_total (slice_cmp-IsAntisymmetric nat_cmp-IsAntisymmetric) owners path pkg (sym (get_owner owners path) ∙ none)

one_counted : (owners : ByPath Pkg) (path : List ℕ) (pkg : Pkg) → get owners path ≡ None → len (insert owners path pkg) ≡ len owners + 1
one_counted owners path pkg none = len-insert nat_list_cmp_total owners path pkg ∙ ap (λ (o : Option Pkg). cond (is_some o) (len owners) (len owners + 1)) none

-- files whose paths are new, and differ: their pairs say that they are the package's own
pub owns_more : (owners : List (List ℕ × Pkg)) (pkg : Pkg) (files : List Placed) → list_all (is_unowned (owners_of owners)) files ≡ true → paths_differ files ≡ true
    → owners_of (owners ++ owned_by pkg files) ≡ with_owner (owners_of owners) pkg files
owns_more owners pkg [] new apart = ap owners_of (append-nil owners)
owns_more owners pkg (file ∷ files) new apart =
    let grown = owners ++ (file.path, pkg) ∷ [] in
    let first = none_there (get (owners_of owners) file.path) (both_left (is_unowned (owners_of owners) file) (list_all (is_unowned (owners_of owners)) files) new) in
    let pushed = push_owned owners file.path pkg first in
    let alone = not_true (is_among files file.path) (both_left (not (is_among files file.path)) (paths_differ files) apart) in
    let others = still_unowned (owners_of owners) pkg file.path files alone (both_right (is_unowned (owners_of owners) file) (list_all (is_unowned (owners_of owners)) files) new) in
    ap owners_of (sym (append_assoc owners ((file.path, pkg) ∷ []) (owned_by pkg files)))
    ∙ owns_more grown pkg files (ap (λ (m : ByPath Pkg). list_all (is_unowned m) files) pushed ∙ others) (both_right (not (is_among files file.path)) (paths_differ files) apart)
    ∙ ap (λ (m : ByPath Pkg). with_owner m pkg files) pushed

-- and they own as many paths more
pub counts_more : (owners : ByPath Pkg) (pkg : Pkg) (files : List Placed) → list_all (is_unowned owners) files ≡ true → paths_differ files ≡ true → len (with_owner owners pkg files) ≡ len owners + length files
counts_more owners pkg [] new apart = omega arith
counts_more owners pkg (file ∷ files) new apart =
    let first = none_there (get owners file.path) (both_left (is_unowned owners file) (list_all (is_unowned owners) files) new) in
    let alone = not_true (is_among files file.path) (both_left (not (is_among files file.path)) (paths_differ files) apart) in
    let others = still_unowned owners pkg file.path files alone (both_right (is_unowned owners file) (list_all (is_unowned owners) files) new) in
    let later = counts_more (insert owners file.path pkg) pkg files others (both_right (not (is_among files file.path)) (paths_differ files) apart) in
    let one = one_counted owners file.path pkg first in
    omega (arith, later, one)

-- ---- the same of the files in the order of their paths
pub owns_in_order : (owners : List (List ℕ × Pkg)) (pkg : Pkg) (files : List Placed) → list_all (is_unowned (owners_of owners)) files ≡ true → paths_differ files ≡ true
    → owners_of (owners ++ owned_by pkg (in_byte_order files)) ≡ with_owner (owners_of owners) pkg (in_byte_order files)
owns_in_order owners pkg files new apart = owns_more owners pkg (in_byte_order files) (order_keeps (is_unowned (owners_of owners)) files ∙ new) (differ_order files ∙ apart)

-- ---- what the next package finds
length_owned : (pkg : Pkg) (files : List Placed) → length (owned_by pkg files) ≡ length files
length_owned pkg [] = refl
length_owned pkg (file ∷ files) = ap suc (length_owned pkg files)

-- as many paths more are owned
pub owns_as_many : (owners : List (List ℕ × Pkg)) (pkg : Pkg) (files : List Placed) → list_all (is_unowned (owners_of owners)) files ≡ true → paths_differ files ≡ true
    → len (owners_of (owners ++ owned_by pkg files)) ≡ len (owners_of owners) + length files
owns_as_many owners pkg files new apart = ap (λ (m : ByPath Pkg). len m) (owns_more owners pkg files new apart) ∙ counts_more (owners_of owners) pkg files new apart

-- each pair still counts
pub count_more : (owners : List (List ℕ × Pkg)) (pkg : Pkg) (files : List Placed) → list_all (is_unowned (owners_of owners)) files ≡ true → paths_differ files ≡ true → len (owners_of owners) ≡ length owners
    → len (owners_of (owners ++ owned_by pkg files)) ≡ length (owners ++ owned_by pkg files)
count_more owners pkg files new apart counted =
    owns_as_many owners pkg files new apart ∙ ap (λ n. n + length files) counted ∙ ap (λ n. length owners + n) (sym (length_owned pkg files)) ∙ sym (length-append owners (owned_by pkg files))

own_in_bin : (pkg : Pkg) (files : List Placed) → list_all is_in_bin files ≡ true → list_all is_owned_in_bin (owned_by pkg files) ≡ true
own_in_bin pkg [] all = refl
own_in_bin pkg (file ∷ files) all =
    both (is_in_bin file) (list_all is_owned_in_bin (owned_by pkg files)) (both_left (is_in_bin file) (list_all is_in_bin files) all) (own_in_bin pkg files (both_right (is_in_bin file) (list_all is_in_bin files) all))

-- and all that is owned stands in `bin` still
pub in_bin_more : (owners : List (List ℕ × Pkg)) (pkg : Pkg) (files : List Placed) → list_all is_owned_in_bin owners ≡ true → list_all is_in_bin files ≡ true → list_all is_owned_in_bin (owners ++ owned_by pkg files) ≡ true
in_bin_more owners pkg files old new = list_all-append is_owned_in_bin owners (owned_by pkg files) ∙ both (list_all is_owned_in_bin owners) (list_all is_owned_in_bin (owned_by pkg files)) old (own_in_bin pkg files new)
