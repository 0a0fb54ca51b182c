-- What an install comes to does not depend on the journal's folder.
use Rattle.std.proofs.Common.{◌≡◌, ℕ, List, [], ◌∷◌, ◌++◌, drop, Bool, true, false, IsFalse, IsSome, inl, inr, Option, Some, None, Result, Ok, Err, refl, sym, ◌∙◌, ap, subst}
use Rattle.std.specs.Prelude.{bytes_eq, codes, is_none, nat_le, length, ◌&&◌, ◌||◌, if◌then◌else◌}
use Rattle.std.specs.List.{list_all, list_any}
use Rattle.std.specs.FinMap.{get, insert, keys}
use Rattle.std.proofs.lemmas.Slice.Eq.{bytes_eq-Decides}
use Rattle.opam_names.specs.Paths.{is_above}
use Rattle.opam_names.specs.declared.packages.Pkg.{Pkg}
use Rattle.opam_top.specs.declared.decision.Reason.{Reason}
use Rattle.opam_top.specs.declared.decision.Reason.TheVariants.{InstallTooLong}
use Rattle.outside_io.specs.Counts.{ByPath}
use Rattle.outside_io.specs.Shops.{Told}
use Rattle.outside_io.specs.declared.workshop.Fate.{Fate}
use Rattle.outside_io.specs.declared.workshop.Fate.TheVariants.{Built, Stopped}
use Rattle.outside_io.specs.declared.workshop.Job.{Job}
use Rattle.crash_disk.specs.Disks.{Tree}
use Rattle.opam_top.specs.Holdings.{is_in_journal}
use Rattle.opam_top.specs.InstallTexts.{is_item, read_items}
use Rattle.opam_top.specs.Installs.{files_of_items, if_free, if_room, install_limit, install_name, items_of, items_read, placed_by, unless_barred}
use Rattle.opam_top.specs.Placements.{bin_path, first_clash, first_of, first_room, in_the_way, is_bin_path, is_in_bin, meets, meets_foreign, placed_from, way_barred}
use Rattle.opam_top.specs.declared.records.Placed.{Placed}
use Rattle.opam_top.proofs.Clashes.{above_path, both_by, one_of_two, same_first, whole_path}
use Rattle.opam_top.proofs.Keys.{any_key, some_key}
use Rattle.opam_top.proofs.Sourced.{placed_in_bin}
use Rattle.opam_top.proofs.Spelled.{read_are_items}
use Rattle.opam_top.proofs.Tests.{both_left, both_right}

-- two trees have the same files but for the journal
abbrev pub SameElsewhere : Tree → Tree → Type 0
SameElsewhere a b = (q : List ℕ) → IsFalse (is_in_journal q) → get a q ≡ get b q

-- ---- no path that meets one in `bin` lies in the journal
begins_with_b : (b : ℕ) (q : List ℕ) → 98 ≡ b → is_in_journal (b ∷ q) ≡ false
begins_with_b b q is = ap (λ (n : ℕ). is_in_journal (n ∷ q)) (sym is)

below_item : (item q : List ℕ) → is_above (bin_path item) q ≡ true → is_in_journal q ≡ false
below_item item [] below = refl
below_item item (b ∷ q) below = begins_with_b b q (same_first 98 b (codes "in/" ++ item) q below)

not_in_journal : (path q : List ℕ) → is_bin_path path ≡ true → meets path q ≡ true → is_in_journal q ≡ false
not_in_journal path q is met =
    let whole = whole_path path is in
    elim (one_of_two (bytes_eq path q || is_above path q) (is_above q path) met) [
      | inl at ↦ elim (one_of_two (bytes_eq path q) (is_above path q) at) [
        | inl same ↦ ap is_in_journal (sym ((bytes_eq-Decides path q).0 same) ∙ whole)
        | inr below ↦ below_item (drop 4 path) q (ap (λ (p : List ℕ). is_above p q) (sym whole) ∙ below)
      ]
      | inr above ↦ ap is_in_journal (above_path q path is above)
    ]

-- ---- the same stands in the way
same_key : (a b : Tree) (test : List ℕ → Bool) → ((q : List ℕ) → test q ≡ true → get a q ≡ get b q) → list_any test (keys a) ≡ true → list_any test (keys b) ≡ true
same_key a b test same is =
    let found = any_key a test is in
    some_key b test found.0 (subst (λ (o : Option _). IsSome o) (same found.0 found.1) found.2) found.1

same_foreign : (a b : Tree) (owners : ByPath Pkg) (path : List ℕ) → SameElsewhere a b → is_bin_path path ≡ true → meets_foreign a owners path ≡ meets_foreign b owners path
same_foreign a b owners path same is =
    let test = λ (q : List ℕ). meets path q && is_none (get owners q) in
    let at = λ (q : List ℕ) (passes : test q ≡ true). same q (not_in_journal path q is (both_left (meets path q) (is_none (get owners q)) passes)) in
    both_by (list_any test (keys a)) (list_any test (keys b)) (same_key a b test at) (same_key b a test (λ q passes. sym (at q passes)))

same_clash : (a b : Tree) (owners : ByPath Pkg) (pkg : Pkg) (files : List Placed) → SameElsewhere a b → list_all is_in_bin files ≡ true → first_clash a owners pkg files ≡ first_clash b owners pkg files
same_clash a b owners pkg [] same all = refl
same_clash a b owners pkg (file ∷ files) same all =
    ap (λ (foreign : Bool). first_of (way_barred file.path (get owners file.path) foreign) (first_clash a (insert owners file.path pkg) pkg files))
    (same_foreign a b owners file.path same (both_left (is_in_bin file) (list_all is_in_bin files) all))
    ∙ ap (first_of (in_the_way b owners file.path)) (same_clash a b (insert owners file.path pkg) pkg files same (both_right (is_in_bin file) (list_all is_in_bin files) all))

-- ---- what is placed stands in `bin`
read_good : (read : Option (List (List ℕ))) (items : List (List ℕ)) → items_read read ≡ Ok items → read ≡ Some items
read_good None items is = absurd (cc)
read_good (Some list) items is = cc

text_good : (short : Bool) (text : List ℕ) (items : List (List ℕ)) → (if short then items_read (read_items text) else Err InstallTooLong) ≡ Ok items → list_all is_item items ≡ true
text_good true text items is = read_are_items text items (read_good (read_items text) items is)
text_good false text items is = absurd (cc)

items_good : (stood : Option (Option (List ℕ))) (items : List (List ℕ)) → items_of stood ≡ Ok items → list_all is_item items ≡ true
items_good None items is = let none : items ≡ [] = cc in ap (list_all is_item) none
items_good (Some None) items is = absurd (cc)
items_good (Some (Some text)) items is = text_good (nat_le (length text) install_limit) text items is

free_same : (a b : Tree) (owners : ByPath Pkg) (pkg : Pkg) (files placed : Result (List Placed) Reason) → placed ≡ files → SameElsewhere a b → ((list : List Placed) → placed ≡ Ok list → list_all is_in_bin list ≡ true)
    → if_free a owners pkg files ≡ if_free b owners pkg files
free_same a b owners pkg (Err reason) placed is same all = refl
free_same a b owners pkg (Ok list) placed is same all = ap (λ (clash : Option Reason). unless_barred clash (if_room owners list)) (same_clash a b owners pkg list same (all list is))

items_same : (told : Told) (a b : Tree) (owners : ByPath Pkg) (job : Job) (items found : Result (List (List ℕ)) Reason) → found ≡ items → SameElsewhere a b → ((list : List (List ℕ)) → found ≡ Ok list → list_all is_item list ≡ true)
    → files_of_items told a owners job items ≡ files_of_items told b owners job items
items_same told a b owners job (Err reason) found is same good = refl
items_same told a b owners job (Ok items) found is same good =
    let placed = placed_from (told.files job) first_room items in
    free_same a b owners job.pkg placed placed refl same (λ list from. placed_in_bin (told.files job) first_room items list (good items is) from)

pub same_elsewhere : (told : Told) (a b : Tree) (owners : ByPath Pkg) (job : Job) (fate : Fate) → SameElsewhere a b → placed_by told a owners job fate ≡ placed_by told b owners job fate
same_elsewhere told a b owners job (Stopped step ending) same = refl
same_elsewhere told a b owners job Built same =
    let stood = get (told.files job) (install_name job.pkg) in
    items_same told a b owners job (items_of stood) (items_of stood) refl same (items_good stood)
