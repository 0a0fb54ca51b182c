-- What is read as an install text, as a lock and as an opam file, by their canonical spellings alone. This project's own.
use Rattle.std.specs.Prelude.{◌≡◌, ◌≤◌, ◌⊎◌, ◌↔◌, ℕ, List, [], ◌∷◌, ◌++◌, Bool, bytes_eq, length, IsTrue, ◌&&◌}
use Rattle.std.specs.List.{IsDistinct, list_all}
use Rattle.std.specs.List.Sorted.{IsPermutation, IsStrictlySortedBy}
use Rattle.std.specs.Ordering.{nat_cmp}
use Rattle.std.specs.Cmp.Lexicographic.{slice_cmp}
use Rattle.std.specs.declared.option.Option.TheVariants.{Some}
use Rattle.opam_names.specs.Names.{is_name, is_version}
use Rattle.opam_names.specs.declared.packages.Pkg.{Pkg}
use Rattle.opam_top.specs.InstallTexts.{install_text, is_item, read_items}
use Rattle.opam_top.specs.Locks.{in_name_order, lock_text, read_lock}
use Rattle.opam_top.specs.OpamFiles.{are_commands, opam_text, read_opam, version_line}

-- the bytes are this text, or lack its last newline alone
abbrev pub IsSpelling : List ℕ → List ℕ → Type 0
IsSpelling bytes text = (bytes ≡ text) ⊎ (bytes ++ 10 ∷ [] ≡ text)

-- the bytes spell these items
pub record IsInstallText (bytes : List ℕ) (items : List (List ℕ)) : Type 0 where
  pub all : IsTrue (list_all is_item items)
  pub few : length items ≤ 65536
  pub text : IsSpelling bytes (install_text items)

-- exactly the canonical spellings of items are read, and an empty text as no items
abbrev pub InstallTextsAreRead : Type 0
InstallTextsAreRead = (bytes : List ℕ) (items : List (List ℕ)) → (read_items bytes ≡ Some items) ↔ (((bytes ≡ []) × (items ≡ [])) ⊎ IsInstallText bytes items)

-- it has a name and a version
abbrev pub is_pkg : Pkg → Bool
is_pkg pkg = is_name pkg.name && is_version pkg.version

-- the names of packages, in their order
abbrev pub names_of : List Pkg → List (List ℕ)
names_of [] = []
names_of (pkg ∷ pkgs) = pkg.name ∷ names_of pkgs

-- the bytes spell these packages, in this order, each name once
pub record IsLockText (bytes : List ℕ) (items : List Pkg) : Type 0 where
  pub all : IsTrue (list_all is_pkg items)
  pub few : length items ≤ 64
  pub once : IsDistinct bytes_eq (names_of items)
  pub text : IsSpelling bytes (lock_text items)

-- the bytes spell these packages in some order
abbrev pub IsLockOf : List ℕ → List Pkg → Type 0
IsLockOf bytes pkgs = (items : List Pkg) × IsLockText bytes items × (pkgs ≡ in_name_order items)

-- exactly the canonical spellings are read, and an empty lock as one that binds nothing
abbrev pub LocksAreRead : Type 0
LocksAreRead = (bytes : List ℕ) (pkgs : List Pkg) → (read_lock bytes ≡ Some pkgs) ↔ (((bytes ≡ []) × (pkgs ≡ [])) ⊎ IsLockOf bytes pkgs)

-- the order of names has the same packages, and names that differ rise in it, byte by byte
abbrev pub NamesAreInOrder : Type 0
NamesAreInOrder = (pkgs : List Pkg) → IsPermutation pkgs (in_name_order pkgs) × (IsDistinct bytes_eq (names_of pkgs) → IsStrictlySortedBy (slice_cmp nat_cmp) (names_of (in_name_order pkgs)))

-- exactly the canonical spellings of commands are read, and the line of the version alone as no commands
abbrev pub OpamFilesAreRead : Type 0
OpamFilesAreRead = (bytes : List ℕ) (commands : List (List (List ℕ))) → (read_opam bytes ≡ Some commands) ↔ (((bytes ≡ version_line) × (commands ≡ [])) ⊎ (IsTrue (are_commands commands) × (bytes ≡ opam_text commands)))
