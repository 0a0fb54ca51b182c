-- The parts of records and slots: their spelling, which of them are valid, and in which order they stand. This project's own.
use Rattle.std.specs.Prelude.{◌≡◌, ℕ, List, ◌++◌, map, Bool, false, codes, bytes_eq, ◌||◌}
use Rattle.std.specs.List.{All, IsDistinct, list_any}
use Rattle.std.specs.declared.option.Option.{Option}
use Rattle.std.specs.declared.option.Option.TheVariants.{None, Some}
use Rattle.opam_names.specs.ByteOrders.{RisesBy}
use Rattle.opam_names.specs.Names.{IsName, IsVersion}
use Rattle.opam_names.specs.Paths.{IsPath, is_above}
use Rattle.opam_names.specs.declared.packages.Pkg.{Pkg}
use Rattle.path_order.specs.Apart.{AreApart}
use Rattle.journal_text.specs.Words.{counted, flag, long_text, optional, short_text}
use Rattle.journal_text.specs.declared.record.Entry.{Entry}
use Rattle.journal_text.specs.declared.record.KeptFiles.{KeptFiles}
use Rattle.journal_text.specs.declared.record.Placed.{Placed}

-- ---- how they are spelled

-- a package is its name and its version
abbrev pub pkg_bytes : Pkg → List ℕ
pkg_bytes pkg = short_text pkg.name ++ short_text pkg.version

-- a package and its opam text
abbrev pub entry_bytes : Entry → List ℕ
entry_bytes entry = pkg_bytes entry.pkg ++ long_text entry.opam

-- a file is whether it is executable, where it stands and what it holds
abbrev pub placed_bytes : Placed → List ℕ
placed_bytes file = flag file.exec ++ (short_text file.path ++ long_text file.bytes)

-- an opam text and files
abbrev pub contents_bytes : List ℕ → List Placed → List ℕ
contents_bytes opam files = long_text opam ++ counted placed_bytes files

-- what a removal keeps
abbrev pub kept_bytes : KeptFiles → List ℕ
kept_bytes kept = contents_bytes kept.opam kept.files

-- a package that comes, with its opam text and its files
abbrev pub coming_bytes : Pkg → List ℕ → List Placed → List ℕ
coming_bytes pkg opam files = pkg_bytes pkg ++ contents_bytes opam files

-- a package that goes, and what is kept of it, if anything is
abbrev pub removal_bytes : Pkg → Option KeptFiles → List ℕ
removal_bytes pkg kept = pkg_bytes pkg ++ optional kept_bytes kept

-- a request is its roots, the members of its target and its removals
abbrev pub request_bytes : List (List ℕ) → List Entry → List Pkg → List ℕ
request_bytes roots target removals = counted short_text roots ++ (counted entry_bytes target ++ counted pkg_bytes removals)

-- ---- which are valid

-- a package has a name and a version
pub record IsPackage (pkg : Pkg) : Type 0 where
  pub name : IsName pkg.name
  pub version : IsVersion pkg.version

-- an entry is of a package
abbrev pub IsEntry : Entry → Type 0
IsEntry entry = IsPackage entry.pkg

-- a file stands at a path
abbrev pub IsPlaced : Placed → Type 0
IsPlaced file = IsPath file.path

-- a package that comes, with its files
pub record IsComingValid (pkg : Pkg) (files : List Placed) : Type 0 where
  pub is_package : IsPackage pkg
  pub are_placed : All IsPlaced files

-- a package that goes, with the files that are kept
abbrev pub IsRemovalValid : Pkg → Option KeptFiles → Type 0
IsRemovalValid pkg None = IsPackage pkg
IsRemovalValid pkg (Some kept) = IsComingValid pkg kept.files

-- the names and versions of a request are valid
pub record IsRequestValid (roots : List (List ℕ)) (target : List Entry) (removals : List Pkg) : Type 0 where
  pub roots_are : All IsName roots
  pub target_is : All IsEntry target
  pub removals_are : All IsPackage removals

-- ---- in which order they stand

-- the switch's own folder
abbrev pub own_folder : List ℕ
own_folder = codes ".opam-switch"

-- whether a path is the switch's own folder or lies below it
abbrev pub is_own : List ℕ → Bool
is_own path = bytes_eq path own_folder || is_above own_folder path

-- paths rise in byte order, none is above another, and none is the switch's own
pub record AreFree (paths : List (List ℕ)) : Type 0 where
  pub apart : AreApart paths
  pub free : list_any is_own paths ≡ false

-- the paths of files
abbrev pub paths_of : List Placed → List (List ℕ)
paths_of files = map (λ (file : Placed). file.path) files

-- a name stands in byte order by itself
abbrev pub own_name : List ℕ → List ℕ
own_name name = name

-- an entry stands in byte order by the name of its package
abbrev pub entry_name : Entry → List ℕ
entry_name entry = entry.pkg.name

-- the names of packages
abbrev pub names_of : List Pkg → List (List ℕ)
names_of pkgs = map (λ (pkg : Pkg). pkg.name) pkgs

-- no two packages have one name
abbrev pub AreNamedApart : List Pkg → Type 0
AreNamedApart pkgs = IsDistinct bytes_eq (names_of pkgs)

-- the names of roots and of members of a target rise in byte order; the names of removals differ
pub record IsRequestInOrder (roots : List (List ℕ)) (target : List Entry) (removals : List Pkg) : Type 0 where
  pub roots_rise : RisesBy own_name roots
  pub target_rises : RisesBy entry_name target
  pub removals_differ : AreNamedApart removals
