-- The files of a package are read one after another.
use Rattle.std.proofs.Common.{◌≡◌, ◌∙◌, ℕ, ◌+◌, ◌-◌, ◌<◌, ◌≤◌, List, [], ◌∷◌, ◌++◌, length, map, take, drop, get_or, nat_le, Bool, true, false, refl, sym, ap, subst, arith, Option, Some, None, if◌then◌else◌}
use Rattle.std.specs.Prelude.{IfSome}
use Rattle.std.specs.List.{filter_map}
use Rattle.std.proofs.lemmas.List.{drop_more, map-append, take-append-drop}
use Rattle.std.proofs.lemmas.List.Elements.{filter_map-append}
use Rattle.std.proofs.lemmas.Bool.Decides.{nat_tests}
use Rattle.crash_disk.specs.Disks.{State, Tree}
use Rattle.journal_text.specs.Parts.{paths_of}
use Rattle.journal_text.specs.declared.record.Placed.{Placed}
use Rattle.switch_state.specs.Gathering.{AreTooMuch, IsAt, IsGathered, IsPart, IsReadOf, no_path}
use Rattle.switch_state.specs.Keeps.{byte_total, few_files, standing_file, standing_files}
use Rattle.switch_state.specs.declared.removals.TheConstants.{KEPT_LIMIT}
use Rattle.switch_state.specs.declared.removals.Standing.{Standing}
use Rattle.switch_state.specs.declared.removals.Standing.TheVariants as standing
use Rattle.switch_state.proofs.Parts.{part_less, part_more}

pub gathered_first : (told : Option State) → IsGathered told [] [] KEPT_LIMIT
gathered_first told = record { part = no_path; some = refl; told_files = λ s is. refl }

total_more : (files more : List Placed) → byte_total (files ++ more) ≡ byte_total files + byte_total more
total_more [] more = omega arith
total_more (file ∷ files) more = let rest = total_more files more in omega (arith, rest)

-- the file at a path, if one stands there
abbrev listed : Option Placed → List Placed
listed None = []
listed (Some file) = file ∷ []

one_more : (tree : Tree) (paths : List (List ℕ)) (path : List ℕ) (o : Option Placed) → standing_file tree path ≡ o → standing_files tree (paths ++ path ∷ []) ≡ standing_files tree paths ++ listed o
one_more tree paths path o is = filter_map-append (standing_file tree) paths (path ∷ []) ∙ ap (λ (fs : List Placed). standing_files tree paths ++ fs) (by o is)
  where
    by : (o : Option Placed) → standing_file tree path ≡ o → standing_files tree (path ∷ []) ≡ listed o
    by None is = rw is refl
    by (Some file) is = rw is refl

file_first : (tree : Tree) (path : List ℕ) (rest : List (List ℕ)) (file : Placed) → standing_file tree path ≡ Some file → standing_files tree (path ∷ rest) ≡ file ∷ standing_files tree rest
file_first tree path rest file is = rw is refl

-- what is read tells what stands there
absent_is : (o : Option Placed) (limit : ℕ) → IsReadOf o limit standing.Absent → o ≡ None
absent_is None limit read = refl
absent_is (Some file) limit read = absurd read

file_is : (o : Option Placed) (limit : ℕ) (found : Placed) → IsReadOf o limit (standing.File found) → o ≡ Some found
file_is None limit found read = absurd (cc)
file_is (Some file) limit found read = ap (λ (f : Placed). Some f) (sym read)

record IsLong (o : Option Placed) (limit : ℕ) : Type 0 where
  file : Placed
  is : o ≡ Some file
  long : limit < length file.bytes

long_is : (o : Option Placed) (limit : ℕ) → IsReadOf o limit standing.TooLong → IsLong o limit
long_is None limit read = absurd (cc)
long_is (Some file) limit read = record { file = file; is = refl; long = read }

module _ (told : Option State) (paths : List (List ℕ)) (path : List ℕ) (files : List Placed) (left : ℕ) (so_far : IsGathered told paths files left) where
  -- nothing stands at the next path
  pub gathered_none : ((s : State) → told ≡ Some s → IsReadOf (standing_file s.files path) left standing.Absent) → IsGathered told (paths ++ path ∷ []) files left
  gathered_none seen = record {
    part = part_less path so_far.part;
    some = so_far.some;
    told_files = λ s is.
        so_far.told_files s is
        ∙ sym (one_more s.files paths path None (absent_is (standing_file s.files path) left (seen s is)) ∙ append_none (standing_files s.files paths));
  }
    where
      append_none : (fs : List Placed) → fs ++ [] ≡ fs
      append_none [] = refl
      append_none (f ∷ fs) = ap (λ (gs : List Placed). f ∷ gs) (append_none fs)

  -- a file does
  pub gathered_file : (file : Placed) (rest : ℕ) → file.path ≡ path → length file.bytes ≤ left → rest + length file.bytes ≡ left → ((s : State) → told ≡ Some s → IsReadOf (standing_file s.files path) left (standing.File file)) → IsGathered told (paths ++ path ∷ []) (files ++ file ∷ []) rest
  gathered_file file rest at fits less seen = record {
    part = subst (λ (ps : List (List ℕ)). IsPart ps (paths ++ path ∷ [])) (ap (λ (p : List ℕ). paths_of files ++ p ∷ []) (sym at) ∙ sym (map-append (λ (f : Placed). f.path) files (file ∷ []))) (part_more path so_far.part);
    some = let all = total_more files (file ∷ []) in let some = so_far.some in omega (arith, all, some, less);
    told_files = λ s is.
        (λ i. so_far.told_files s is i ++ file ∷ [])
        ∙ sym (one_more s.files paths path (Some file) (file_is (standing_file s.files path) left file (seen s is)));
  }

  -- they are too much
  pub too_much : ((s : State) → told ≡ Some s → IsReadOf (standing_file s.files path) left standing.TooLong) → AreTooMuch told paths path
  too_much seen = λ s rest is.
      let one = long_is (standing_file s.files path) left (seen s is) in
      let later = file_first s.files path rest one.file one.is in
      let whole : standing_files s.files (paths ++ path ∷ rest) ≡ files ++ one.file ∷ standing_files s.files rest =
      filter_map-append (standing_file s.files) paths (path ∷ rest) ∙ (λ i. sym (so_far.told_files s is) i ++ later i) in
      let size = ap byte_total whole ∙ total_more files (one.file ∷ standing_files s.files rest) in
      let some = so_far.some in
      let long = one.long in
      let over : nat_le (byte_total (standing_files s.files (paths ++ path ∷ rest))) KEPT_LIMIT ≡ false = grind (arith, nat_tests) in
      rw over refl

-- all are read
pub gathered_all : (told : Option State) (paths : List (List ℕ)) (files : List Placed) (left : ℕ) → IsGathered told paths files left → (s : State) → told ≡ Some s → Some files ≡ few_files s.files paths
gathered_all told paths files left so_far s is =
    let same = so_far.told_files s is in
    let some = so_far.some in
    let size = ap byte_total same in
    let fits : nat_le (byte_total (standing_files s.files paths)) KEPT_LIMIT ≡ true = grind (arith, nat_tests) in
    ap (λ (fs : List Placed). Some fs) same ∙ sym (rw fits refl)

-- ---- in the loop

pub split_at : (paths : List (List ℕ)) (i : ℕ) (path : List ℕ) → i < length paths → path ≡ get_or paths i path → take i paths ++ path ∷ drop (i + 1) paths ≡ paths
split_at paths i path within is = (λ j. take i paths ++ is j ∷ drop (i + 1) paths) ∙ (λ j. take i paths ++ sym (drop_more paths i path within) j) ∙ take-append-drop i paths
