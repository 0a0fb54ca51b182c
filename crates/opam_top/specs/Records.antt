-- The bytes of a journal record (format 1). This project's own. Numbers are big endian.
use Rattle.std.specs.Prelude.{ℕ, ◌<◌, ◌^◌, List, ◌∷◌, ◌++◌, length, Bool, true, false, codes}
use Rattle.std.specs.List.{flat_map, AllByRecursion}
use Rattle.std.specs.Int.{w16, w32, to_be_bytes}
use Rattle.opam_names.specs.declared.packages.Pkg.{Pkg}
use Rattle.opam_top.specs.declared.records.Placed.{Placed}
use Rattle.opam_top.specs.declared.records.Rec.{Rec}
use Rattle.opam_top.specs.declared.records.Rec.TheVariants.{Install, Remove}

-- two bytes of length, and that many bytes
abbrev pub short_text : List ℕ → List ℕ
short_text bytes = to_be_bytes w16 (length bytes) ++ bytes

-- four bytes of length, and that many bytes
abbrev pub long_text : List ℕ → List ℕ
long_text bytes = to_be_bytes w32 (length bytes) ++ bytes

-- one byte, 1 for an executable file
abbrev pub exec_byte : Bool → ℕ
exec_byte false = 0
exec_byte true = 1

-- a file: whether it is executable, where it stands and what it holds
abbrev pub placed_bytes : Placed → List ℕ
placed_bytes file = exec_byte file.exec ∷ short_text file.path ++ long_text file.bytes

-- how many files there are, and each of them
abbrev pub files_bytes : List Placed → List ℕ
files_bytes files = to_be_bytes w32 (length files) ++ flat_map placed_bytes files

-- the format, the kind of the record, and the package
abbrev pub head_bytes : ℕ → Pkg → List ℕ
head_bytes kind pkg = codes "OPAMREC1" ++ kind ∷ short_text pkg.name ++ short_text pkg.version

-- an install has kind 1, its opam text and its files besides; a removal has kind 2
abbrev pub record_bytes : Rec → List ℕ
record_bytes (Install pkg opam files) = head_bytes 1 pkg ++ long_text opam ++ files_bytes files
record_bytes (Remove pkg) = head_bytes 2 pkg

-- a package whose texts have lengths of two bytes
pub record HeadFits (pkg : Pkg) : Type 0 where
  pub name : length pkg.name < 2 ^ 16
  pub version : length pkg.version < 2 ^ 16

-- a file whose lengths fit
pub record PlacedFits (file : Placed) : Type 0 where
  pub path : length file.path < 2 ^ 16
  pub bytes : length file.bytes < 2 ^ 32

-- files whose number fits, and each of which does
pub record FilesFit (files : List Placed) : Type 0 where
  pub count : length files < 2 ^ 32
  pub each : AllByRecursion PlacedFits files

-- an install whose parts fit
pub record InstallFits (pkg : Pkg) (opam : List ℕ) (files : List Placed) : Type 0 where
  pub head_fits : HeadFits pkg
  pub opam_fits : length opam < 2 ^ 32
  pub files_fit : FilesFit files

-- a record that can be written
abbrev pub HasSpelling : Rec → Type 0
HasSpelling (Install pkg opam files) = InstallFits pkg opam files
HasSpelling (Remove pkg) = HeadFits pkg

-- an opam text and files that fit
pub record BodyFits (opam : List ℕ) (files : List Placed) : Type 0 where
  pub opam_fits : length opam < 2 ^ 32
  pub files_fit : FilesFit files

-- a record whose parts fit; a package's texts are always short
abbrev pub CanBeWritten : Rec → Type 0
CanBeWritten (Install pkg opam files) = BodyFits opam files
CanBeWritten (Remove pkg) = Unit {0}
