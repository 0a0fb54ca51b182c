-- What the files of items are.
use Rattle.std.proofs.Common.{◌≡◌, ℕ, suc, ◌+◌, ◌-◌, ◌<◌, ◌≤◌, List, [], ◌∷◌, ◌++◌, length, get_or, take, drop, map, arith, append_assoc, Bool, true, false, Option, Some, None, Result, Ok, Err, refl, sym, ◌∙◌, ap}
use Rattle.std.specs.Prelude.{nat_le, ◌&&◌, if◌then◌else◌}
use Rattle.std.specs.List.{list_all}
use Rattle.std.specs.FinMap.{get}
use Rattle.std.proofs.lemmas.List.{drop_more, length-map, map-append, take_more}
use Rattle.opam_top.proofs.Tests.{both_left, both_right}
use Rattle.opam_top.specs.declared.decision.Reason.{Reason}
use Rattle.opam_top.specs.declared.decision.Reason.TheVariants.{FilesTooLong}
use Rattle.outside_io.specs.Counts.{ByPath}
use Rattle.opam_top.specs.InstallTexts.{is_item}
use Rattle.opam_top.specs.Placements.{bin_path, is_in_bin, is_bin_path, paths_of, placed_at, placed_from, prepend, source, total_bytes, with_source}
use Rattle.opam_top.specs.declared.records.Placed.{Placed}

chosen : {X E : Type 0} (b : Bool) (x y : X) (e : E) → (if b then Ok x else Err e) ≡ Ok y → x ≡ y
chosen true x y e is = cc
chosen false x y e is = absurd (cc)

source_is : (item : List ℕ) (room : ℕ) (stood : Option (Option (List ℕ))) (file : Placed) → source item room stood ≡ Ok file → (bytes : List ℕ) × (placed_at item bytes ≡ file)
source_is item room None file is = absurd (cc)
source_is item room (Some None) file is = absurd (cc)
source_is item room (Some (Some bytes)) file is = (bytes, chosen (nat_le (length bytes) room) (placed_at item bytes) file FilesTooLong is)

prepended : (file : Placed) (more : Result (List Placed) Reason) (files : List Placed) → prepend (file ∷ []) more ≡ Ok files → (rest : List Placed) × (more ≡ Ok rest) × (file ∷ rest ≡ files)
prepended file (Err reason) files is = absurd (cc)
prepended file (Ok rest) files is = (rest, refl, cc)

-- the first file and the others
with_is : (first : Result Placed Reason) (room : ℕ) (later : ℕ → Result (List Placed) Reason) (files : List Placed) → with_source first room later ≡ Ok files
    → (file : Placed) × (first ≡ Ok file) × (left : ℕ) × (rest : List Placed) × (later left ≡ Ok rest) × (file ∷ rest ≡ files)
with_is (Err reason) room later files is = absurd (cc)
with_is (Ok file) room later files is =
    let found = prepended file (later (room - length file.bytes)) files is in
    (file, refl, room - length file.bytes, found.0, found.1, found.2)

-- each is at the place of its item
pub placed_paths : (sources : ByPath (Option (List ℕ))) (room : ℕ) (items : List (List ℕ)) (files : List Placed) → placed_from sources room items ≡ Ok files → paths_of files ≡ map bin_path items
placed_paths sources room [] files is = let none : files ≡ [] = cc in ap paths_of none
placed_paths sources room (item ∷ items) files is =
    let found = with_is (source item room (get sources item)) room (λ left. placed_from sources left items) files is in
    let first = source_is item room (get sources item) found.0 found.1 in
    let later = placed_paths sources found.2 items found.3 found.4 in
    ap paths_of (sym found.5)
    ∙ ap (λ (path : List ℕ). path ∷ paths_of found.3) (ap (λ (file : Placed). file.path) (sym first.1))
    ∙ ap (λ (paths : List (List ℕ)). bin_path item ∷ paths) later

in_bin : (item : List ℕ) → is_item item ≡ true → is_bin_path (bin_path item) ≡ true
in_bin item is = is

both : (a b : Bool) → a ≡ true → b ≡ true → (a && b) ≡ true
both a b p q = rw (p, q) refl

pub all_in_bin : (items : List (List ℕ)) (files : List Placed) → list_all is_item items ≡ true → paths_of files ≡ map bin_path items → list_all is_in_bin files ≡ true
all_in_bin items [] all is = refl
all_in_bin [] (file ∷ files) all is = absurd (cc)
all_in_bin (item ∷ items) (file ∷ files) all is =
    let here : file.path ≡ bin_path item = cc in
    let there : paths_of files ≡ map bin_path items = cc in
    both (is_in_bin file) (list_all is_in_bin files)
    (ap is_bin_path here ∙ in_bin item (both_left (is_item item) (list_all is_item items) all))
    (all_in_bin items files (both_right (is_item item) (list_all is_item items) all) there)

-- and so is `bin/` and an item
pub placed_in_bin : (sources : ByPath (Option (List ℕ))) (room : ℕ) (items : List (List ℕ)) (files : List Placed) → list_all is_item items ≡ true → placed_from sources room items ≡ Ok files → list_all is_in_bin files ≡ true
placed_in_bin sources room items files all is = all_in_bin items files all (placed_paths sources room items files is)

length_of_paths : (files : List Placed) → length (paths_of files) ≡ length files
length_of_paths [] = refl
length_of_paths (file ∷ files) = ap suc (length_of_paths files)

-- there are as many as items
pub as_many : (items : List (List ℕ)) (files : List Placed) → paths_of files ≡ map bin_path items → length files ≡ length items
as_many items files is = sym (length_of_paths files) ∙ ap length is ∙ length-map items bin_path

pub placed_length : (sources : ByPath (Option (List ℕ))) (room : ℕ) (items : List (List ℕ)) (files : List Placed) → placed_from sources room items ≡ Ok files → length files ≡ length items
placed_length sources room items files is = as_many items files (placed_paths sources room items files is)

-- one more file
paths_more : (files : List Placed) (file : Placed) → paths_of (files ++ file ∷ []) ≡ paths_of files ++ file.path ∷ []
paths_more [] file = refl
paths_more (first ∷ files) file = ap (λ (paths : List (List ℕ)). first.path ∷ paths) (paths_more files file)

pub paths_grow : (files grown : List Placed) (file : Placed) (items : List (List ℕ)) (i : ℕ) (item : List ℕ) → grown ≡ files ++ file ∷ [] → file.path ≡ bin_path item → item ≡ get_or items i item → i < length items
    → paths_of files ≡ map bin_path (take i items) → paths_of grown ≡ map bin_path (take (i + 1) items)
paths_grow files grown file items i item is at here within so_far =
    ap paths_of is ∙ paths_more files file ∙ ap (λ (l : List (List ℕ)). l ++ file.path ∷ []) so_far ∙ ap (λ (p : List ℕ). map bin_path (take i items) ++ p ∷ []) (at ∙ ap bin_path here)
    ∙ sym (map-append bin_path (take i items) (get_or items i item ∷ [])) ∙ ap (map bin_path) (sym (take_more items i item within))

total_more : (files : List Placed) (file : Placed) → total_bytes (files ++ file ∷ []) ≡ total_bytes files + length file.bytes
total_more [] file = omega arith
total_more (first ∷ files) file = let later = total_more files file in omega (arith, later)

pub total_grows : (files grown : List Placed) (file : Placed) (room whole : ℕ) → grown ≡ files ++ file ∷ [] → length file.bytes ≤ room → total_bytes files + room ≡ whole
    → total_bytes grown + (room - length file.bytes) ≡ whole
total_grows files grown file room whole is short so_far = let all = ap total_bytes is ∙ total_more files file in omega (arith, all)

prepend_twice : (files : List Placed) (file : Placed) (more : Result (List Placed) Reason) → prepend (files ++ file ∷ []) more ≡ prepend files (prepend (file ∷ []) more)
prepend_twice files file (Err reason) = refl
prepend_twice files file (Ok more) = ap (λ (l : List Placed). Ok l) (append_assoc files (file ∷ []) more)

pub told_more : (sources : ByPath (Option (List ℕ))) (room : ℕ) (files grown : List Placed) (file : Placed) (items : List (List ℕ)) (i : ℕ) (item : List ℕ) (whole : Result (List Placed) Reason) → grown ≡ files ++ file ∷ [] → source item room (get sources item) ≡ Ok file → item ≡ get_or items i item → i < length items
    → prepend files (placed_from sources room (drop i items)) ≡ whole → prepend grown (placed_from sources (room - length file.bytes) (drop (i + 1) items)) ≡ whole
told_more sources room files grown file items i item whole is found here within so_far =
    let rest = drop (i + 1) items in
    let next : drop i items ≡ item ∷ rest = drop_more items i item within ∙ ap (λ (l : List ℕ). l ∷ rest) (sym here) in
    let later = λ (left : ℕ). placed_from sources left rest in
    ap (λ (l : List Placed). prepend l (placed_from sources (room - length file.bytes) rest)) is
    ∙ prepend_twice files file (placed_from sources (room - length file.bytes) rest)
    ∙ ap (λ (first : Result Placed Reason). prepend files (with_source first room later)) (sym found)
    ∙ ap (λ (l : List (List ℕ)). prepend files (placed_from sources room l)) (sym next)
    ∙ so_far

-- the first item that gives no file
pub told_failed : (sources : ByPath (Option (List ℕ))) (room : ℕ) (files : List Placed) (items : List (List ℕ)) (i : ℕ) (item : List ℕ) (reason : Reason) (whole : Result (List Placed) Reason) → source item room (get sources item) ≡ Err reason → item ≡ get_or items i item → i < length items
    → prepend files (placed_from sources room (drop i items)) ≡ whole → Err reason ≡ whole
told_failed sources room files items i item reason whole found here within so_far =
    let rest = drop (i + 1) items in
    let next : drop i items ≡ item ∷ rest = drop_more items i item within ∙ ap (λ (l : List ℕ). l ∷ rest) (sym here) in
    let later = λ (left : ℕ). placed_from sources left rest in
    ap (λ (first : Result Placed Reason). prepend files (with_source first room later)) (sym found)
    ∙ ap (λ (l : List (List ℕ)). prepend files (placed_from sources room l)) (sym next)
    ∙ so_far
