-- Whether a file stands at a path, above it or below it, by looks.
use Rattle.std.proofs.Common.{◌≡◌, inl, inr, ℕ, zero, suc, ◌+◌, ◌<◌, Bool, true, false, List, length, take, get_or, Option, Some, None, refl, sym, ap, ◌∙◌, subst, arith}
use Rattle.std.specs.Prelude.{◌==◌, ◌||◌, bytes_eq, is_some}
use Rattle.std.specs.FinMap.{get, keys}
use Rattle.std.specs.List.{list_any}
use Rattle.std.proofs.lemmas.Bool.{cases_lt, eqb-true}
use Rattle.std.proofs.lemmas.Bool.Decides.{nat_tests}
use Rattle.std.proofs.lemmas.Slice.Eq.{bytes_eq-Decides}
use Rattle.opam_names.specs.Paths.{IsPath, is_above}
use Rattle.opam_names.proofs.Bytes.{both_left, both_right}
use Rattle.path_order.specs.Apart.{meets}
use Rattle.crash_disk.specs.Disks.{IsLook, Kept, Tree}
use Rattle.crash_disk.specs.declared.disk.Look.{Look}
use Rattle.crash_disk.specs.declared.disk.Look.TheVariants as look
use Rattle.change_verdict.specs.Near.{has_file, has_file_above, is_file_there, looks_near}
use Rattle.change_verdict.proofs.Folders.{folder_above, folder_of_above}
use Rattle.change_verdict.proofs.Keys.{either, left, no_key, right, some_key}
use Rattle.change_verdict.proofs.Tests.{both}

-- ---- folders of the path

pub here_above : (tree : Tree) (path : List ℕ) (at n : ℕ) → at < n → is_file_there tree path at ≡ true → has_file_above tree path n ≡ true
here_above tree path at zero lt is = absurd (omega arith)
here_above tree path at (suc n) lt is =
    elim (cases_lt at n) [
      | inl less ↦ left (has_file_above tree path n) (is_file_there tree path n) (here_above tree path at n less is)
      | inr le ↦
          let same : at ≡ n = omega arith in
          right (has_file_above tree path n) (is_file_there tree path n) (subst (λ (k : ℕ). is_file_there tree path k ≡ true) same is)
    ]

neither : (a b : Bool) → a ≡ false → b ≡ false → (a || b) ≡ false
neither a b p q = rw (p, q) refl

pub none_next : (tree : Tree) (path : List ℕ) (n : ℕ) → has_file_above tree path n ≡ false → is_file_there tree path n ≡ false → has_file_above tree path (n + 1) ≡ false
none_next tree path n before here =
    let e : n + 1 ≡ suc n = omega arith in ap (has_file_above tree path) e ∙ neither (has_file_above tree path n) (is_file_there tree path n) before here

found_above : (tree : Tree) (path : List ℕ) (n : ℕ) → has_file_above tree path n ≡ true → (k : ℕ) × (k < n) × (is_file_there tree path k ≡ true)
found_above tree path zero is = absurd cc
found_above tree path (suc n) is =
    elim (either (has_file_above tree path n) (is_file_there tree path n) is) [
      | inl before ↦ let found = found_above tree path n before in (found.0, (let lt = found.1 in omega (arith, lt)), found.2)
      | inr here ↦ (n, omega arith, here)
    ]

-- ---- all near files

by_folder : (path q : List ℕ) → is_above q path ≡ true → meets path q ≡ true
by_folder path q above = right (bytes_eq path q || is_above path q) (is_above q path) above

by_below : (path q : List ℕ) → is_above path q ≡ true → meets path q ≡ true
by_below path q below = left (bytes_eq path q || is_above path q) (is_above q path) (right (bytes_eq path q) (is_above path q) below)

by_same : (path : List ℕ) → meets path path ≡ true
by_same path = left (bytes_eq path path || is_above path path) (is_above path path) (left (bytes_eq path path) (is_above path path) ((bytes_eq-Decides path path).1 refl))

module _ (tree : Tree) (path : List ℕ) (valid : IsPath path) where
  pub near_above : has_file_above tree path (length path) ≡ true → list_any (meets path) (keys tree) ≡ true
  near_above is =
      let found = found_above tree path (length path) is in
      let slash = eqb-true (get_or path found.0 0) 47 (both_left (get_or path found.0 0 == 47) (has_file tree (take found.0 path)) found.2) in
      some_key tree (meets path) (take found.0 path) (both_right (get_or path found.0 0 == 47) (has_file tree (take found.0 path)) found.2)
      (by_folder path (take found.0 path) (folder_above path found.0 valid found.1 slash))

  no_folder : has_file_above tree path (length path) ≡ false → (q : List ℕ) → is_above q path ≡ true → get tree q ≡ None
  no_folder none q above =
      let folder = folder_of_above q path above in
      none_by (get tree q) refl folder.within (λ stands. both (get_or path (length q) 0 == 47) (has_file tree (take (length q) path)) (slash_is (get_or path (length q) 0) folder.slash) stands) folder.front
    where
      slash_is : (b : ℕ) → b ≡ 47 → (b == 47) ≡ true
      slash_is b is = grind (arith, nat_tests)

      none_by : (o : Option Kept) → get tree q ≡ o → length q < length path → (has_file tree (take (length q) path) ≡ true → is_file_there tree path (length q) ≡ true) → take (length q) path ≡ q → o ≡ None
      none_by None is lt there front = refl
      none_by (Some file) is lt there front =
          let stands : has_file tree (take (length q) path) ≡ true = ap (has_file tree) front ∙ ap is_some is in
          let found = here_above tree path (length q) (length path) lt (there stands) in absurd cc

  pub near_looked : has_file_above tree path (length path) ≡ false → (seen : Look) → IsLook tree path seen → list_any (meets path) (keys tree) ≡ looks_near seen
  near_looked none look.File is = some_key tree (meets path) path is (by_same path)
  near_looked none look.Folder is = some_key tree (meets path) is.1 is.3 (by_below path is.1 is.2)
  near_looked none look.Absent is =
      no_key tree (meets path) (λ q meet.
      elim (either (bytes_eq path q || is_above path q) (is_above q path) meet) [
        | inr above ↦ no_folder none q above
        | inl at ↦ elim (either (bytes_eq path q) (is_above path q) at) [
          | inl here ↦ ap (get tree) (sym ((bytes_eq-Decides path q).0 here)) ∙ is.0
          | inr below ↦ is.1 q below
        ]
      ])
