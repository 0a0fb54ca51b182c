-- What is placed below a folder lies below it.
use Rattle.std.proofs.Common.{◌≡◌, ℕ, ◌==◌, ◌&&◌, nat_le, Bool, true, false, bytes_eq, codes, cond, if◌then◌else◌, List, [], ◌∷◌, ◌++◌, length, refl, sym, ap, ◌∙◌, arith, lit<, zero-lt-suc, lt_irrefl, ◌<◌}
use Rattle.std.proofs.lemmas.Bool.{eqb-true}
use Rattle.std.proofs.lemmas.Bool.Decides.{nat_tests}
use Rattle.std.proofs.lemmas.List.{append_assoc, append-nil}
use Rattle.std.proofs.lemmas.List.Folds.{list_all-append}
use Rattle.std.specs.List.{list_all}
use Rattle.std.specs.Str.{is_utf8}
use Rattle.opam_names.specs.Paths.{is_above, is_not_zero, is_part, is_relative, is_relative_path, joined, onto_first, parts}
use Rattle.install_sections.specs.declared.sections.Folder.{Folder}
use Rattle.install_sections.specs.declared.sections.Folder.TheVariants.{Lib, Toplevel, Stublibs, Bin, Sbin, Share, Etc, Doc, Man}
use Rattle.install_sections.specs.declared.sections.Layout.{Layout}
use Rattle.install_sections.specs.declared.sections.Layout.TheVariants.{Own, Shared, Pages}
use Rattle.install_sections.specs.Sections.{folder_text, laid}

pub and_left : (a b : Bool) → (a && b) ≡ true → a ≡ true
and_left true b h = refl
and_left false b h = absurd cc

pub and_right : (a b : Bool) → (a && b) ≡ true → b ≡ true
and_right true b h = h
and_right false b h = absurd cc

-- every part of a path is one
pub good_parts : (bytes : List ℕ) → is_relative_path bytes ≡ true → list_all is_part (parts bytes) ≡ true
good_parts bytes h =
    and_right (nat_le (length bytes) 1024 && list_all is_not_zero bytes) (list_all is_part (parts bytes)) (and_right (is_utf8 bytes) (is_relative bytes) h)

-- the parts of two texts around a slash
some_onto : (x : ℕ) (ps : List (List ℕ)) → 0 < length (onto_first x ps)
some_onto x [] = lit< tt
some_onto x (p ∷ ps) = zero-lt-suc _

parts_some : (xs : List ℕ) → 0 < length (parts xs)
parts_some [] = lit< tt
parts_some (x ∷ xs) =
    elim (x == 47) as (λ b. 0 < length (cond b ([] ∷ parts xs) (onto_first x (parts xs)))) [ true ↦ zero-lt-suc _ | false ↦ some_onto x (parts xs) ]

onto_front : (x : ℕ) (ps qs : List (List ℕ)) → 0 < length ps → onto_first x (ps ++ qs) ≡ onto_first x ps ++ qs
onto_front x [] qs l = absurd (lt_irrefl 0 l)
onto_front x (p ∷ ps) qs l = refl

pub parts_joined : (xs ys : List ℕ) → parts (xs ++ 47 ∷ ys) ≡ parts xs ++ parts ys
parts_joined [] ys = refl
parts_joined (x ∷ xs) ys =
    elim (x == 47) as (λ b. cond b ([] ∷ parts (xs ++ 47 ∷ ys)) (onto_first x (parts (xs ++ 47 ∷ ys))) ≡ cond b ([] ∷ parts xs) (onto_first x (parts xs)) ++ parts ys) [
      | true ↦ ap (λ ps. [] ∷ ps) (parts_joined xs ys)
      | false ↦ ap (onto_first x) (parts_joined xs ys) ∙ onto_front x (parts xs) (parts ys) (parts_some xs)
    ]

same : (x : ℕ) → (x == x) ≡ true
same x = grind (arith, nat_tests)

-- a folder stands above all that has a name in it
pub above_more : (folder : List ℕ) (b : ℕ) (more : List ℕ) → is_above folder (folder ++ 47 ∷ b ∷ more) ≡ true
above_more [] b more = refl
above_more (x ∷ xs) b more = ap (λ t. if t then is_above xs (xs ++ 47 ∷ b ∷ more) else false) (same x) ∙ above_more xs b more

-- a path does not end in a slash
no_end : (folder : List ℕ) → is_relative_path (joined folder []) ≡ true → ⊥
no_end folder h =
    let all : list_all is_part (parts folder ++ [] ∷ []) ≡ true = sym (ap (list_all is_part) (parts_joined folder [])) ∙ good_parts (joined folder []) h in
    let last : list_all is_part ([] ∷ []) ≡ true =
    and_right (list_all is_part (parts folder)) (list_all is_part ([] ∷ [])) (sym (list_all-append is_part (parts folder) ([] ∷ [])) ∙ all) in
    cc

pub above_joined : (folder below : List ℕ) → is_relative_path (joined folder below) ≡ true → is_above folder (joined folder below) ≡ true
above_joined folder [] h = absurd (no_end folder h)
above_joined folder (b ∷ below) h = above_more folder b below

-- the same where the folder has another one in it
pub above_twice : (folder below : List ℕ) (c : ℕ) (more : List ℕ) → is_above folder (joined (joined folder (c ∷ more)) below) ≡ true
above_twice folder below c more =
    ap (is_above folder) (append_assoc folder (47 ∷ c ∷ more) (47 ∷ below)) ∙ above_more folder c (more ++ 47 ∷ below)

-- where the first test decides, it holds
test_holds : (t rest : Bool) → (if t then rest else false) ≡ true → t ≡ true
test_holds true rest h = refl
test_holds false rest h = h

-- what lies below a folder that begins with another byte lies apart from the folder of the switch
apart_byte : (c : ℕ) (more path : List ℕ) → (c == 46) ≡ false → is_above (c ∷ more) path ≡ true
    → (is_above (codes ".opam-switch") path ≡ false) × (bytes_eq path (codes ".opam-switch") ≡ false)
apart_byte c more [] other h = absurd cc
apart_byte c more (d ∷ path) other h =
    let is : c ≡ d = eqb-true c d (test_holds (c == d) (is_above more path) h) in
    let left : (46 == d) ≡ false = grind (arith, nat_tests, other, is) in
    let right : (d == 46) ≡ false = sym (ap (λ x. x == 46) is) ∙ other in
    (ap (λ t. if t then is_above (codes "opam-switch") path else false) left, ap (λ t. t && bytes_eq path (codes "opam-switch")) right)

-- each folder begins with another byte
folder_apart : (folder : Folder) (tail path : List ℕ) → is_above (folder_text folder ++ tail) path ≡ true
    → (is_above (codes ".opam-switch") path ≡ false) × (bytes_eq path (codes ".opam-switch") ≡ false)
folder_apart Lib tail path h = apart_byte 108 (codes "ib" ++ tail) path refl h
folder_apart Toplevel tail path h = apart_byte 108 (codes "ib/toplevel" ++ tail) path refl h
folder_apart Stublibs tail path h = apart_byte 108 (codes "ib/stublibs" ++ tail) path refl h
folder_apart Bin tail path h = apart_byte 98 (codes "in" ++ tail) path refl h
folder_apart Sbin tail path h = apart_byte 115 (codes "bin" ++ tail) path refl h
folder_apart Share tail path h = apart_byte 115 (codes "hare" ++ tail) path refl h
folder_apart Etc tail path h = apart_byte 101 (codes "tc" ++ tail) path refl h
folder_apart Doc tail path h = apart_byte 100 (codes "oc" ++ tail) path refl h
folder_apart Man tail path h = apart_byte 109 (codes "an" ++ tail) path refl h

pub laid_apart : (folder : Folder) (layout : Layout) (name path : List ℕ) → is_above (laid layout (folder_text folder) name) path ≡ true
    → (is_above (codes ".opam-switch") path ≡ false) × (bytes_eq path (codes ".opam-switch") ≡ false)
laid_apart folder Own name path h = folder_apart folder (47 ∷ name) path h
laid_apart folder Shared name path h = folder_apart folder [] path (ap (λ f. is_above f path) (append-nil (folder_text folder)) ∙ h)
laid_apart folder Pages name path h = folder_apart folder [] path (ap (λ f. is_above f path) (append-nil (folder_text folder)) ∙ h)
