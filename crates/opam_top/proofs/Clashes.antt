-- Which files of a tree stand in the way of a file below `bin`.
use Rattle.std.proofs.Common.{◌≡◌, ◌≢◌, ◌⊎◌, inl, inr, ℕ, ◌+◌, ◌<◌, List, [], ◌∷◌, ◌++◌, take, drop, get_or, length, Bool, true, false, not, cond, IsSome, Option, Some, None, refl, sym, ◌∙◌, ap, arith}
use Rattle.std.specs.Prelude.{bytes_eq, codes, is_none, is_some, ◌==◌, ◌&&◌, ◌||◌}
use Rattle.std.specs.List.{list_all}
use Rattle.std.specs.FinMap.{get, insert}
use Rattle.std.proofs.lemmas.Bool.Decides.{nat_tests}
use Rattle.std.proofs.lemmas.List.{drop_more, take-append-drop, take_more}
use Rattle.std.proofs.lemmas.Slice.Eq.{bytes_eq-Decides}
use Rattle.opam_names.specs.Paths.{is_above, is_more_after_slash}
use Rattle.opam_names.specs.declared.packages.Pkg.{Pkg}
use Rattle.opam_top.specs.declared.decision.Reason.{Reason}
use Rattle.opam_top.specs.declared.decision.Reason.TheVariants.{Owned}
use Rattle.outside_io.specs.Counts.{ByPath}
use Rattle.opam_top.proofs.Tests.{both, both_left, both_right}
use Rattle.crash_disk.specs.Disks.{Tree}
use Rattle.opam_top.specs.InstallTexts.{is_item, is_item_byte}
use Rattle.opam_top.specs.Commits.{is_among, paths_differ}
use Rattle.opam_top.specs.Journals.{stands}
use Rattle.opam_top.specs.Owners.{is_unowned}
use Rattle.opam_top.specs.Installs.{is_vacant}
use Rattle.opam_top.specs.Placements.{bin_path, first_clash, first_of, in_the_way, is_bin_path, is_in_bin, meets, meets_foreign, way_barred}
use Rattle.opam_top.specs.Switches.{with_owner}
use Rattle.opam_top.specs.declared.records.Placed.{Placed}
use Rattle.opam_top.proofs.ItemPaths.{item_bytes, item_byte_no_slash}
use Rattle.opam_top.proofs.Keys.{any_key, some_key}
use Rattle.opam_top.proofs.Owned.{OwnsInBin, owner_last, unowned_before}

abbrev bin : List ℕ
bin = codes "bin"

first_of_two : (a b : Bool) → a ≡ true → (a || b) ≡ true
first_of_two true b is = refl
first_of_two false b is = absurd (cc)

second_of_two : (a b : Bool) → b ≡ true → (a || b) ≡ true
second_of_two true b is = refl
second_of_two false b is = is

pub one_of_two : (a b : Bool) → (a || b) ≡ true → (a ≡ true) ⊎ (b ≡ true)
one_of_two true b is = inl refl
one_of_two false b is = inr is

-- nothing stands above a text without a slash
more_by : (b c : ℕ) (bytes : List ℕ) → is_item_byte b ≡ true → is_more_after_slash (b ∷ c ∷ bytes) ≡ false
more_by b c bytes is = item_byte_no_slash b is

no_more : (item : List ℕ) → list_all is_item_byte item ≡ true → is_more_after_slash item ≡ false
no_more [] is = refl
no_more (b ∷ []) is = refl
no_more (b ∷ c ∷ bytes) is = more_by b c bytes (both_left (is_item_byte b) (list_all is_item_byte (c ∷ bytes)) is)

neither : (same above : Bool) → above ≡ false → (cond same above false) ≡ false
neither true above is = is
neither false above is = refl

none_above : (q item : List ℕ) → list_all is_item_byte item ≡ true → is_above q item ≡ false
none_above [] item is = no_more item is
none_above (x ∷ xs) [] is = refl
none_above (x ∷ xs) (b ∷ bytes) is = neither (x == b) (is_above xs bytes) (none_above xs bytes (both_right (is_item_byte b) (list_all is_item_byte bytes) is))

-- one byte on
pub same_first : (x y : ℕ) (xs ys : List ℕ) → is_above (x ∷ xs) (y ∷ ys) ≡ true → x ≡ y
same_first x y xs ys is = grind (arith, nat_tests)

above_rest : (same above : Bool) → (cond same above false) ≡ true → above ≡ true
above_rest true above is = is
above_rest false above is = absurd (cc)

one_on : (x y : ℕ) (xs ys : List ℕ) → is_above (x ∷ xs) (y ∷ ys) ≡ true → is_above xs ys ≡ true
one_on x y xs ys is = above_rest (x == y) (is_above xs ys) is

three_bytes : (a b c : ℕ) → a ≡ 98 → b ≡ 105 → c ≡ 110 → a ∷ b ∷ c ∷ [] ≡ bin
three_bytes a b c p q r = rw (p, q, r) refl

-- above `bin/ITEM` stands `bin` alone
above_item : (q item : List ℕ) → list_all is_item_byte item ≡ true → is_above q (bin_path item) ≡ true → q ≡ bin
above_item [] item is above = absurd (cc)
above_item (a ∷ []) item is above = let e = one_on a 98 [] (codes "in/" ++ item) above in absurd (cc)
above_item (a ∷ b ∷ []) item is above = let e = one_on b 105 [] (codes "n/" ++ item) (one_on a 98 (b ∷ []) (codes "in/" ++ item) above) in absurd (cc)
above_item (a ∷ b ∷ c ∷ []) item is above =
    let second = one_on a 98 (b ∷ c ∷ []) (codes "in/" ++ item) above in
    let third = one_on b 105 (c ∷ []) (codes "n/" ++ item) second in
    three_bytes a b c (same_first a 98 (b ∷ c ∷ []) (codes "in/" ++ item) above) (same_first b 105 (c ∷ []) (codes "n/" ++ item) second) (same_first c 110 [] (codes "/" ++ item) third)
above_item (a ∷ b ∷ c ∷ d ∷ q) item is above =
    let second = one_on a 98 (b ∷ c ∷ d ∷ q) (codes "in/" ++ item) above in
    let third = one_on b 105 (c ∷ d ∷ q) (codes "n/" ++ item) second in
    let fourth = one_on c 110 (d ∷ q) (codes "/" ++ item) third in
    let there : is_above q item ≡ true = one_on d 47 q item fourth in
    let none : is_above q item ≡ false = none_above q item is in absurd (cc)

bin_above : (item : List ℕ) → is_item item ≡ true → is_above bin (bin_path item) ≡ true
bin_above [] is = absurd (cc)
bin_above (b ∷ bytes) is = refl

-- such a path is `bin/` and an item
item_of : (path : List ℕ) → is_bin_path path ≡ true → is_item (drop 4 path) ≡ true
item_of path is = both_right (bytes_eq (take 4 path) (codes "bin/")) (is_item (drop 4 path)) is

pub whole_path : (path : List ℕ) → is_bin_path path ≡ true → path ≡ bin_path (drop 4 path)
whole_path path is =
    let begins : take 4 path ≡ codes "bin/" = (bytes_eq-Decides (take 4 path) (codes "bin/")).0 (both_left (bytes_eq (take 4 path) (codes "bin/")) (is_item (drop 4 path)) is) in
    sym (take-append-drop 4 path) ∙ ap (λ (l : List ℕ). l ++ drop 4 path) begins

pub above_path : (q path : List ℕ) → is_bin_path path ≡ true → is_above q path ≡ true → q ≡ bin
above_path q path is above =
    above_item q (drop 4 path) (item_bytes (drop 4 path) (item_of path is)) (ap (is_above q) (sym (whole_path path is)) ∙ above)

bin_above_path : (path : List ℕ) → is_bin_path path ≡ true → is_above bin path ≡ true
bin_above_path path is = ap (is_above bin) (whole_path path is) ∙ bin_above (drop 4 path) (item_of path is)

not_there : {X : Type 0} (o : Option X) → o ≡ None → IsSome o → ⊥
not_there o none some = let e : is_some o ≡ false = ap is_some none in cc

-- a file at the path or below it meets the path
abbrev at_or_below : List ℕ → List ℕ → Bool
at_or_below path q = bytes_eq q path || is_above path q

same_bytes : (p q : List ℕ) → p ≡ q → bytes_eq p q ≡ true
same_bytes p q is = (bytes_eq-Decides p q).1 is

below_meets : (path q : List ℕ) → at_or_below path q ≡ true → meets path q ≡ true
below_meets path q at =
    first_of_two (bytes_eq path q || is_above path q) (is_above q path) (elim (one_of_two (bytes_eq q path) (is_above path q) at) [
      | inl here ↦ first_of_two (bytes_eq path q) (is_above path q) (same_bytes path q (sym ((bytes_eq-Decides q path).0 here)))
      | inr below ↦ second_of_two (bytes_eq path q) (is_above path q) below
    ])

turned : (path q : List ℕ) → (bytes_eq path q || is_above path q) ≡ true → at_or_below path q ≡ true
turned path q at =
    elim (one_of_two (bytes_eq path q) (is_above path q) at) [
      | inl here ↦ first_of_two (bytes_eq q path) (is_above path q) (same_bytes q path (sym ((bytes_eq-Decides path q).0 here)))
      | inr below ↦ second_of_two (bytes_eq q path) (is_above path q) below
    ]

meets_below : (path q : List ℕ) → is_bin_path path ≡ true → q ≢ bin → meets path q ≡ true → at_or_below path q ≡ true
meets_below path q is apart meet =
    elim (one_of_two (bytes_eq path q || is_above path q) (is_above q path) meet) [
      | inl at ↦ turned path q at
      | inr above ↦ absurd (apart (above_path q path is above))
    ]

apart_from_bin : (files : Tree) (q : List ℕ) → get files bin ≡ None → IsSome (get files q) → q ≢ bin
apart_from_bin files q none some is = not_there (get files q) (ap (get files) is ∙ none) some

pub both_by : (a b : Bool) → (a ≡ true → b ≡ true) → (b ≡ true → a ≡ true) → a ≡ b
both_by true b there back = sym (there refl)
both_by false true there back = back refl
both_by false false there back = refl

-- ---- what nobody owns
bin_no_path : is_bin_path bin ≡ false
bin_no_path = refl

none_by : {X : Type 0} (o : Option X) → (IsSome o → ⊥) → o ≡ None
none_by None apart = refl
none_by (Some x) apart = absurd (apart refl)

nobody : {X : Type 0} (o : Option X) → o ≡ None → is_none o ≡ true
nobody o is = ap (λ (l : Option _). is_none l) is

not_in_bin : (q : List ℕ) → q ≡ bin → is_bin_path q ≡ true → ⊥
not_in_bin q is in_bin = let e : is_bin_path q ≡ false = ap is_bin_path is in cc

bin_unowned : (owners : ByPath Pkg) → OwnsInBin owners → get owners bin ≡ None
bin_unowned owners all = none_by (get owners bin) (λ some. not_in_bin bin refl (all bin some))

-- no such path stands below another
below_unowned : (owners : ByPath Pkg) (path q : List ℕ) → OwnsInBin owners → is_bin_path path ≡ true → is_above path q ≡ true → get owners q ≡ None
below_unowned owners path q all is below = none_by (get owners q) (λ some. not_in_bin path (above_path path q (all q some) below) is)

at_unowned : (owners : ByPath Pkg) (path q : List ℕ) → get owners path ≡ None → bytes_eq q path ≡ true → get owners q ≡ None
at_unowned owners path q none same = ap (get owners) ((bytes_eq-Decides q path).0 same) ∙ none

around_unowned : (owners : ByPath Pkg) (path q : List ℕ) → OwnsInBin owners → is_bin_path path ≡ true → get owners path ≡ None → at_or_below path q ≡ true → get owners q ≡ None
around_unowned owners path q all is none at =
    elim (one_of_two (bytes_eq q path) (is_above path q) at) [
      | inl here ↦ at_unowned owners path q none here
      | inr below ↦ below_unowned owners path q all is below
    ]

abbrev is_foreign : ByPath Pkg → List ℕ → List ℕ → Bool
is_foreign owners path q = meets path q && is_none (get owners q)

-- without a file at `bin`, only those at the path or below it meet it, and nobody owns them
pub foreign_stands : (tree : Tree) (owners : ByPath Pkg) (path : List ℕ) → OwnsInBin owners → get tree bin ≡ None → is_bin_path path ≡ true → get owners path ≡ None → meets_foreign tree owners path ≡ stands tree path
foreign_stands tree owners path all bare is none =
    both_by (meets_foreign tree owners path) (stands tree path)
    (λ met. let found = any_key tree (is_foreign owners path) met in
    some_key tree (at_or_below path) found.0 found.2 (meets_below path found.0 is (apart_from_bin tree found.0 bare found.2) (both_left (meets path found.0) (is_none (get owners found.0)) found.1)))
    (λ at. let found = any_key tree (at_or_below path) at in
    some_key tree (is_foreign owners path) found.0 found.2
    (both (meets path found.0) (is_none (get owners found.0)) (below_meets path found.0 found.1) (nobody (get owners found.0) (around_unowned owners path found.0 all is none found.1))))

-- a file at `bin` meets each, and nobody owns it
pub foreign_at_bin : (tree : Tree) (owners : ByPath Pkg) (path : List ℕ) → OwnsInBin owners → IsSome (get tree bin) → is_bin_path path ≡ true → meets_foreign tree owners path ≡ true
foreign_at_bin tree owners path all there is =
    some_key tree (is_foreign owners path) bin there
    (both (meets path bin) (is_none (get owners bin)) (second_of_two (bytes_eq path bin || is_above path bin) (is_above bin path) (bin_above_path path is)) (nobody (get owners bin) (bin_unowned owners all)))

-- ---- what stands in the way of one file
by_parts : (path : List ℕ) (owner : Option Pkg) (foreign : Bool) (o : Option Pkg) (f : Bool) → owner ≡ o → foreign ≡ f → way_barred path owner foreign ≡ way_barred path o f
by_parts path owner foreign o f p q = rw (p, q) refl

pub way_by_stands : (tree : Tree) (owners : ByPath Pkg) (path : List ℕ) (absent : Bool) → OwnsInBin owners → get tree bin ≡ None → is_bin_path path ≡ true → get owners path ≡ None → absent ≡ not (stands tree path)
    → in_the_way tree owners path ≡ way_barred path None (not absent)
way_by_stands tree owners path absent all bare is none seen =
    by_parts path (get owners path) (meets_foreign tree owners path) None (not absent) none
    (foreign_stands tree owners path all bare is none ∙ twice (stands tree path) ∙ ap not (sym seen))
  where
    twice : (b : Bool) → b ≡ not (not b)
    twice true = refl
    twice false = refl

pub way_at_bin : (tree : Tree) (owners : ByPath Pkg) (path : List ℕ) → OwnsInBin owners → IsSome (get tree bin) → is_bin_path path ≡ true → in_the_way tree owners path ≡ way_barred path (get owners path) true
way_at_bin tree owners path all there is = by_parts path (get owners path) (meets_foreign tree owners path) (get owners path) true refl (foreign_at_bin tree owners path all there is)

pub way_owned : (tree : Tree) (owners : ByPath Pkg) (path : List ℕ) (owner : Pkg) → get owners path ≡ Some owner → in_the_way tree owners path ≡ Some (Owned path owner)
way_owned tree owners path owner is = ap (λ (o : Option Pkg). way_barred path o (meets_foreign tree owners path)) is

-- where nothing does
pub free_by : (path : List ℕ) (owner : Option Pkg) (foreign : Bool) → way_barred path owner foreign ≡ None → (owner ≡ None) × (foreign ≡ false)
free_by path (Some owner) foreign is = absurd (cc)
free_by path None true is = absurd (cc)
free_by path None false is = (refl, refl)

met : (path : List ℕ) → meets path path ≡ true
met path = ap (λ b. b || is_above path path || is_above path path) ((bytes_eq-Decides path path).1 refl)

pub way_vacant : (tree : Tree) (owners : ByPath Pkg) (path : List ℕ) → in_the_way tree owners path ≡ None → is_none (get tree path) ≡ true
way_vacant tree owners path free =
    let parts = free_by path (get owners path) (meets_foreign tree owners path) free in
    nobody (get tree path) (none_by (get tree path) (λ some. met_free (meets_foreign tree owners path) parts.1
    (some_key tree (is_foreign owners path) path some (both (meets path path) (is_none (get owners path)) (met path) (nobody (get owners path) parts.0)))))
  where
    met_free : (b : Bool) → b ≡ false → b ≡ true → ⊥
    met_free true no_more more = cc
    met_free false no_more more = cc

-- ---- the first of the files
pub first_none : (one later : Option Reason) → first_of one later ≡ None → (one ≡ None) × (later ≡ None)
first_none None later is = (refl, is)
first_none (Some reason) later is = absurd (cc)

pub all_vacant : (tree : Tree) (owners : ByPath Pkg) (pkg : Pkg) (files : List Placed) → first_clash tree owners pkg files ≡ None → list_all (is_vacant tree) files ≡ true
all_vacant tree owners pkg [] free = refl
all_vacant tree owners pkg (file ∷ files) free =
    let parts = first_none (in_the_way tree owners file.path) (first_clash tree (insert owners file.path pkg) pkg files) free in
    both (is_vacant tree file) (list_all (is_vacant tree) files) (way_vacant tree owners file.path parts.0) (all_vacant tree (insert owners file.path pkg) pkg files parts.1)

pub all_unowned : (tree : Tree) (owners : ByPath Pkg) (pkg : Pkg) (files : List Placed) → first_clash tree owners pkg files ≡ None → list_all (is_unowned owners) files ≡ true
all_unowned tree owners pkg [] free = refl
all_unowned tree owners pkg (file ∷ files) free =
    let parts = first_none (in_the_way tree owners file.path) (first_clash tree (insert owners file.path pkg) pkg files) free in
    let here = free_by file.path (get owners file.path) (meets_foreign tree owners file.path) parts.0 in
    both (is_unowned owners file) (list_all (is_unowned owners) files) (nobody (get owners file.path) here.0)
    (unowned_before owners pkg file.path files (all_unowned tree (insert owners file.path pkg) pkg files parts.1)).0

pub all_apart : (tree : Tree) (owners : ByPath Pkg) (pkg : Pkg) (files : List Placed) → first_clash tree owners pkg files ≡ None → paths_differ files ≡ true
all_apart tree owners pkg [] free = refl
all_apart tree owners pkg (file ∷ files) free =
    let parts = first_none (in_the_way tree owners file.path) (first_clash tree (insert owners file.path pkg) pkg files) free in
    both (not (is_among files file.path)) (paths_differ files)
    (ap not (unowned_before owners pkg file.path files (all_unowned tree (insert owners file.path pkg) pkg files parts.1)).1)
    (all_apart tree (insert owners file.path pkg) pkg files parts.1)

-- one file on
pub clash_next : (tree : Tree) (owners : ByPath Pkg) (pkg : Pkg) (files : List Placed) (i : ℕ) (file : Placed) (reason whole : Option Reason) → file ≡ get_or files i file → i < length files
    → reason ≡ in_the_way tree (with_owner owners pkg (take i files)) file.path → first_clash tree (with_owner owners pkg (take i files)) pkg (drop i files) ≡ whole
    → first_of reason (first_clash tree (with_owner owners pkg (take (i + 1) files)) pkg (drop (i + 1) files)) ≡ whole
clash_next tree owners pkg files i file reason whole here within way so_far =
    let own = with_owner owners pkg (take i files) in
    let rest = drop (i + 1) files in
    let next : drop i files ≡ file ∷ rest = drop_more files i file within ∙ ap (λ (f : Placed). f ∷ rest) (sym here) in
    let grown : with_owner owners pkg (take (i + 1) files) ≡ insert own file.path pkg =
    ap (with_owner owners pkg) (take_more files i file within ∙ ap (λ (f : Placed). take i files ++ f ∷ []) (sym here)) ∙ owner_last owners pkg (take i files) file in
    ap (λ (o : Option Reason). first_of o (first_clash tree (with_owner owners pkg (take (i + 1) files)) pkg rest)) way
    ∙ ap (λ (m : ByPath Pkg). first_of (in_the_way tree own file.path) (first_clash tree m pkg rest)) grown
    ∙ ap (first_clash tree own pkg) (sym next) ∙ so_far

-- a file at `bin` stands in the way of the first
pub clash_at_bin : (tree : Tree) (owners : ByPath Pkg) (pkg : Pkg) (files : List Placed) (file : Placed) (reason : Reason) → OwnsInBin owners → IsSome (get tree bin) → list_all is_in_bin files ≡ true → 0 < length files → file ≡ get_or files 0 file
    → Some reason ≡ way_barred file.path (get owners file.path) true → Some reason ≡ first_clash tree owners pkg files
clash_at_bin tree owners pkg [] file reason all there in_bin some here is = absurd (omega (arith, some))
clash_at_bin tree owners pkg (first ∷ files) file reason all there in_bin some here is =
    let way = way_at_bin tree owners first.path all there (both_left (is_in_bin first) (list_all is_in_bin files) in_bin) in
    let barred : Some reason ≡ way_barred first.path (get owners first.path) true = is ∙ ap (λ (f : Placed). way_barred f.path (get owners f.path) true) here in
    ap (λ (o : Option Reason). first_of o (first_clash tree (insert owners first.path pkg) pkg files)) (barred ∙ sym way)
