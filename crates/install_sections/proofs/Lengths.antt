-- Of valid names and texts that are not unsafe only the length of the whole path can be wrong.
use Rattle.std.proofs.Common.{◌≡◌, ℕ, zero, suc, ◌+◌, ◌-◌, ◌<◌, ◌≤◌, ◌==◌, ◌&&◌, not, nat_le, Bool, true, false, bytes_eq, codes, cond, if◌then◌else◌, List, [], ◌∷◌, ◌++◌, length, take, drop, get_or, refl, subst, sym, ap, ◌∙◌, arith, lit<}
use Rattle.std.proofs.Math.Bool.{and-true}
use Rattle.std.proofs.lemmas.Bool.{and_from, eqb-true}
use Rattle.std.proofs.lemmas.Bool.Decides.{nat_tests}
use Rattle.std.proofs.lemmas.List.{drop_more, take-append-drop, take_all}
use Rattle.std.proofs.lemmas.List.Folds.{list_all-append}
use Rattle.std.proofs.lemmas.List.Sums.{suffix_len-take_no, suffix_len-take_yes}
use Rattle.std.proofs.lemmas.Str.{IsCharBoundary-after_ascii, IsUtf8-append, IsUtf8-drop, IsUtf8-from_ascii, IsUtf8-from_is_utf8, is_utf8-from_IsUtf8}
use Rattle.std.specs.List.{after_last, list_all, list_any, suffix_len}
use Rattle.std.specs.Str.{IsUtf8, is_utf8}
use Rattle.std.specs.declared.option.Option.{Option}
use Rattle.std.specs.declared.option.Option.TheVariants.{None, Some}
use Rattle.opam_names.specs.Names.{IsName, is_letter, is_name_byte}
use Rattle.opam_names.specs.Paths.{is_not_zero, is_part, is_relative, is_relative_path, is_slash, joined, onto_first, parts}
use Rattle.install_sections.specs.declared.sections.Folder.{Folder}
use Rattle.install_sections.specs.declared.sections.Folder.TheVariants.{Lib, Toplevel, Stublibs, Bin, Sbin, Share, Etc, Doc, Man}
use Rattle.install_sections.specs.declared.sections.Layout.{Layout}
use Rattle.install_sections.specs.declared.sections.Layout.TheVariants.{Own, Shared, Pages}
use Rattle.install_sections.specs.InstallLaws.{OnlyLengthIsRefused, kept_path, target_path}
use Rattle.install_sections.specs.Sections.{folder_of, folder_text, laid}
use Rattle.install_sections.specs.Targets.{chapter_folder, chapter_of, default_folder, first_chapter, is_chapter, is_dot, laid_by_default, uncompressed}
use Rattle.install_sections.specs.WrittenPaths.{last_part}
use Rattle.install_sections.proofs.Below.{and_left, and_right, good_parts, parts_joined}

-- a path but for its length
pub record IsWhole (bytes : List ℕ) : Type 0 where
  pub text : IsUtf8 bytes
  pub no_zero : list_all is_not_zero bytes ≡ true
  pub good : list_all is_part (parts bytes) ≡ true

pub whole_path : (bytes : List ℕ) → is_relative_path bytes ≡ true → IsWhole bytes
whole_path bytes h = record {
  text = IsUtf8-from_is_utf8 bytes (and_left (is_utf8 bytes) (is_relative bytes) h);
  no_zero = and_right (nat_le (length bytes) 1024) (list_all is_not_zero bytes)
      (and_left (nat_le (length bytes) 1024 && list_all is_not_zero bytes) (list_all is_part (parts bytes)) (and_right (is_utf8 bytes) (is_relative bytes) h));
  good = good_parts bytes h;
}

-- then only the length is tested
pub length_alone : (bytes : List ℕ) → IsWhole bytes → is_relative_path bytes ≡ nat_le (length bytes) 1024
length_alone bytes w =
    ap (λ t. t && is_relative bytes) (is_utf8-from_IsUtf8 bytes w.text)
    ∙ ap (λ t. (nat_le (length bytes) 1024 && t) && list_all is_part (parts bytes)) w.no_zero
    ∙ ap (λ t. (nat_le (length bytes) 1024 && true) && t) w.good
    ∙ and-true (nat_le (length bytes) 1024 && true) ∙ and-true (nat_le (length bytes) 1024)

all_ascii : (p : ℕ → Bool) → ((b : ℕ) → p b ≡ true → b < 128) → (bytes : List ℕ) → list_all p bytes ≡ true → (i : ℕ) → get_or bytes i 0 < 128
all_ascii p low [] h i = lit< tt
all_ascii p low (x ∷ xs) h zero = low x (and_left (p x) (list_all p xs) h)
all_ascii p low (x ∷ xs) h (suc i) = all_ascii p low xs (and_right (p x) (list_all p xs) h) i

name_byte_low : (b : ℕ) → is_name_byte b ≡ true → b < 128
name_byte_low b h = grind (arith, nat_tests)

name_byte_some : (b : ℕ) → is_name_byte b ≡ true → is_not_zero b ≡ true
name_byte_some b h = grind (arith, nat_tests)

name_byte_plain : (b : ℕ) → is_name_byte b ≡ true → (b == 47) ≡ false
name_byte_plain b h = grind (arith, nat_tests)

name_byte_no_dot : (b : ℕ) → is_name_byte b ≡ true → (b == 46) ≡ false
name_byte_no_dot b h = grind (arith, nat_tests)

-- a name is one part
names_some : (bytes : List ℕ) → list_all is_name_byte bytes ≡ true → list_all is_not_zero bytes ≡ true
names_some [] h = refl
names_some (x ∷ xs) h =
    and_from (is_not_zero x) (list_all is_not_zero xs) (name_byte_some x (and_left (is_name_byte x) (list_all is_name_byte xs) h))
    (names_some xs (and_right (is_name_byte x) (list_all is_name_byte xs) h))

name_parts : (bytes : List ℕ) → list_all is_name_byte bytes ≡ true → parts bytes ≡ bytes ∷ []
name_parts [] h = refl
name_parts (x ∷ xs) h =
    ap (λ b. cond b ([] ∷ parts xs) (onto_first x (parts xs))) (name_byte_plain x (and_left (is_name_byte x) (list_all is_name_byte xs) h))
    ∙ ap (onto_first x) (name_parts xs (and_right (is_name_byte x) (list_all is_name_byte xs) h))

name_part : (bytes : List ℕ) → list_all is_name_byte bytes ≡ true → list_any is_letter bytes ≡ true → is_part bytes ≡ true
name_part [] h letter = absurd cc
name_part (x ∷ xs) h letter =
    ap (λ t. true && not (t && bytes_eq xs []) && not (t && bytes_eq xs (46 ∷ []))) (name_byte_no_dot x (and_left (is_name_byte x) (list_all is_name_byte xs) h))

pub whole_name : (bytes : List ℕ) → IsName bytes → IsWhole bytes
whole_name bytes name = record {
  text = IsUtf8-from_ascii bytes (all_ascii is_name_byte name_byte_low bytes name.all);
  no_zero = names_some bytes name.all;
  good = ap (list_all is_part) (name_parts bytes name.all) ∙ and-true (is_part bytes) ∙ name_part bytes name.all name.letter;
}

pub whole_joined : (one other : List ℕ) → IsWhole one → IsWhole other → IsWhole (joined one other)
whole_joined one other a b = record {
  text = IsUtf8-append one (47 ∷ other) a.text (IsUtf8-append (47 ∷ []) other (IsUtf8-from_ascii (47 ∷ []) (all_ascii (λ c. c == 47) (λ c h. grind (arith, nat_tests)) (47 ∷ []) refl)) b.text);
  no_zero = list_all-append is_not_zero one (47 ∷ other) ∙ and_from (list_all is_not_zero one) (list_all is_not_zero other) a.no_zero b.no_zero;
  good = ap (list_all is_part) (parts_joined one other) ∙ list_all-append is_part (parts one) (parts other)
      ∙ and_from (list_all is_part (parts one)) (list_all is_part (parts other)) a.good b.good;
}

-- a word of letters
fixed : (bytes : List ℕ) → list_all is_name_byte bytes ≡ true → list_any is_letter bytes ≡ true → length bytes ≤ 120 → IsWhole bytes
fixed bytes all letter short = whole_name bytes (record { all = all; letter = letter; short = short })

whole_folder : (folder : Folder) → IsWhole (folder_text folder)
whole_folder Lib = fixed (codes "lib") refl refl (omega arith)
whole_folder Toplevel = whole_joined (codes "lib") (codes "toplevel") (fixed (codes "lib") refl refl (omega arith)) (fixed (codes "toplevel") refl refl (omega arith))
whole_folder Stublibs = whole_joined (codes "lib") (codes "stublibs") (fixed (codes "lib") refl refl (omega arith)) (fixed (codes "stublibs") refl refl (omega arith))
whole_folder Bin = fixed (codes "bin") refl refl (omega arith)
whole_folder Sbin = fixed (codes "sbin") refl refl (omega arith)
whole_folder Share = fixed (codes "share") refl refl (omega arith)
whole_folder Etc = fixed (codes "etc") refl refl (omega arith)
whole_folder Doc = fixed (codes "doc") refl refl (omega arith)
whole_folder Man = fixed (codes "man") refl refl (omega arith)

whole_laid : (layout : Layout) (folder name : List ℕ) → IsWhole folder → IsWhole name → IsWhole (laid layout folder name)
whole_laid Own folder name f n = whole_joined folder name f n
whole_laid Shared folder name f n = f
whole_laid Pages folder name f n = f

-- the folder of a chapter is a name
chapter_name_byte : (c : ℕ) → is_chapter c ≡ true → is_name_byte c ≡ true
chapter_name_byte c h = grind (arith, nat_tests)

whole_chapter : (c : ℕ) → is_chapter c ≡ true → IsWhole (codes "man" ++ c ∷ [])
whole_chapter c h = whole_name (codes "man" ++ c ∷ []) (record {
  all = and-true (is_name_byte c) ∙ chapter_name_byte c h;
  letter = refl;
  short = omega arith;
})

first_by : (b c : ℕ) (t : Bool) → is_chapter b ≡ t → (if t then Some b else None) ≡ Some c → is_chapter c ≡ true
first_by b c false test is = absurd cc
first_by b c true test is = sym (ap (λ (o : Option ℕ). elim o [ None ↦ is_chapter b | Some d ↦ is_chapter d ]) is) ∙ test

first_is : (bytes : List ℕ) (c : ℕ) → first_chapter bytes ≡ Some c → is_chapter c ≡ true
first_is [] c is = absurd cc
first_is (b ∷ bytes) c is = first_by b c (is_chapter b) refl is

dotted_by : (bytes : List ℕ) (c : ℕ) (t : Bool) → (if t then first_chapter bytes else None) ≡ Some c → is_chapter c ≡ true
dotted_by bytes c true is = first_is bytes c is
dotted_by bytes c false is = absurd cc

chapter_is : (file : List ℕ) (c : ℕ) → chapter_of file ≡ Some c → is_chapter c ≡ true
chapter_is file c is = dotted_by (after_last is_dot (uncompressed file)) c (list_any is_dot (uncompressed file)) is

whole_pages : (folder file : List ℕ) (chapter : Option ℕ) → chapter_of file ≡ chapter → IsWhole folder → IsWhole (chapter_folder folder chapter)
whole_pages folder file None is f = f
whole_pages folder file (Some c) is f = whole_joined folder (codes "man" ++ c ∷ []) f (whole_chapter c (chapter_is file c is))

whole_default : (layout : Layout) (folder name file : List ℕ) → IsWhole folder → IsWhole name → IsWhole (laid_by_default layout folder name file)
whole_default Own folder name file f n = whole_joined folder name f n
whole_default Shared folder name file f n = f
whole_default Pages folder name file f n = whole_pages folder file (chapter_of file) refl f

-- where the last part begins: at the front, or behind a slash
abbrev pub is_plain : ℕ → Bool
is_plain b = not (is_slash b)

pub record Stops (bytes : List ℕ) (n rest : ℕ) : Type 0 where
  pub within : rest ≤ n
  pub slash : rest < n → is_slash (get_or bytes (n - rest - 1) 0) ≡ true

slash_there : (b : Bool) → not b ≡ false → b ≡ true
slash_there true h = refl
slash_there false h = absurd cc

stops : (bytes : List ℕ) (n : ℕ) → n ≤ length bytes → Stops bytes n (suffix_len is_plain (take n bytes))
stops bytes zero le = record { within = omega arith; slash = λ less. absurd (omega (arith, less)) }
stops bytes (suc n) le = by (is_plain (get_or bytes n 0)) refl (stops bytes n (omega (arith, le)))
  where
    back : suc n - 1 ≡ n
    back = omega arith

    by : (t : Bool) → is_plain (get_or bytes n 0) ≡ t → Stops bytes n (suffix_len is_plain (take n bytes))
        → Stops bytes (suc n) (suffix_len is_plain (take (suc n) bytes))
    by true test before =
        let here : is_plain (get_or bytes (suc n - 1) 0) ≡ true = ap (λ k. is_plain (get_or bytes k 0)) back ∙ test in
        let longer : suffix_len is_plain (take (suc n) bytes) ≡ 1 + suffix_len is_plain (take n bytes) =
        suffix_len-take_yes is_plain bytes (suc n) 0 (omega arith) le here ∙ ap (λ k. 1 + suffix_len is_plain (take k bytes)) back in
        subst (Stops bytes (suc n)) (sym longer) (record {
          within = omega (arith, before.within);
          slash = λ less.
              let earlier : suffix_len is_plain (take n bytes) < n = omega (arith, less) in
              let same : suc n - (1 + suffix_len is_plain (take n bytes)) - 1 ≡ n - suffix_len is_plain (take n bytes) - 1 = omega arith in
              ap (λ k. is_slash (get_or bytes k 0)) same ∙ before.slash earlier;
        })
    by false test before =
        let here : is_plain (get_or bytes (suc n - 1) 0) ≡ false = ap (λ k. is_plain (get_or bytes k 0)) back ∙ test in
        subst (Stops bytes (suc n)) (sym (suffix_len-take_no is_plain bytes (suc n) 0 (omega arith) le here)) (record {
          within = omega arith;
          slash = λ less.
              let same : suc n - 0 - 1 ≡ n = omega arith in
              ap (λ k. is_slash (get_or bytes k 0)) same ∙ slash_there (is_slash (get_or bytes n 0)) test;
        })

whole_behind : (bytes : List ℕ) (start : ℕ) → IsWhole bytes → 0 < start → start ≤ length bytes → is_slash (get_or bytes (start - 1) 0) ≡ true → IsWhole (drop start bytes)
whole_behind bytes start w some le slash =
    let at = start - 1 in
    let on : at + 1 ≡ start = omega (arith, some) in
    let within : at < length bytes = omega (arith, some, le) in
    let byte : get_or bytes at 0 ≡ 47 = eqb-true (get_or bytes at 0) 47 slash in
    let split : bytes ≡ joined (take at bytes) (drop (at + 1) bytes) =
    sym (take-append-drop at bytes) ∙ ap (λ xs. take at bytes ++ xs) (drop_more bytes at 0 within ∙ ap (λ b. b ∷ drop (at + 1) bytes) byte) in
    subst (λ k. IsWhole (drop k bytes)) on (record {
      text = IsUtf8-drop bytes (at + 1) w.text (IsCharBoundary-after_ascii bytes at w.text within (subst (λ b. b < 128) (sym byte) (lit< tt)));
      no_zero = and_right (list_all is_not_zero (take at bytes)) (list_all is_not_zero (drop (at + 1) bytes))
          (sym (ap (list_all is_not_zero) split ∙ list_all-append is_not_zero (take at bytes) (47 ∷ drop (at + 1) bytes)) ∙ w.no_zero);
      good = and_right (list_all is_part (parts (take at bytes))) (list_all is_part (parts (drop (at + 1) bytes)))
          (sym (ap (λ xs. list_all is_part (parts xs)) split ∙ ap (list_all is_part) (parts_joined (take at bytes) (drop (at + 1) bytes))
          ∙ list_all-append is_part (parts (take at bytes)) (parts (drop (at + 1) bytes))) ∙ w.good);
    })

whole_last : (bytes : List ℕ) → IsWhole bytes → IsWhole (last_part bytes)
whole_last bytes w = from (length bytes - suffix_len is_plain bytes) refl
  where
    end : Stops bytes (length bytes) (suffix_len is_plain bytes)
    end = subst (λ xs. Stops bytes (length bytes) (suffix_len is_plain xs)) (take_all (length bytes) bytes (omega arith)) (stops bytes (length bytes) (omega arith))

    from : (start : ℕ) → length bytes - suffix_len is_plain bytes ≡ start → IsWhole (drop start bytes)
    from zero same = w
    from (suc k) same =
        whole_behind bytes (suc k) w (omega arith) (omega (arith, same))
        (ap (λ i. is_slash (get_or bytes (i - 1) 0)) (sym same) ∙ end.slash (omega (arith, same)))

pub only_length_is_refused : OnlyLengthIsRefused
only_length_is_refused = record {
  targeted = λ section name below n b.
      length_alone (target_path section name below)
      (whole_joined (folder_of section name) below (whole_laid section.layout (folder_text section.folder) name (whole_folder section.folder) (whole_name name n)) (whole_path below b));
  kept = λ section name source n s.
      let last = whole_last source (whole_path source s) in
      length_alone (kept_path section name source)
      (whole_joined (default_folder section name (last_part source)) (last_part source)
      (whole_default section.layout (folder_text section.folder) name (last_part source) (whole_folder section.folder) (whole_name name n)) last);
}
