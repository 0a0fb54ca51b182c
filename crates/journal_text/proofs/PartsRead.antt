-- The parts of records are read where they are spelled, and nowhere else.
use Rattle.std.proofs.Common.{◌≡◌, ℕ, ◌^◌, ◌<◌, Bool, List, ◌++◌, Some, length, subst, arith}
use Rattle.opam_names.specs.Names.{IsName, IsVersion, is_name, is_version}
use Rattle.opam_names.specs.Paths.{IsPath, is_relative_path}
use Rattle.opam_names.specs.declared.packages.Pkg.{Pkg}
use Rattle.opam_names.proofs.Tests.{tests_say_the_same}
use Rattle.journal_text.specs.Words.{counted, flag, long_text, short_text}
use Rattle.journal_text.specs.Parts.{IsPackage, entry_bytes, kept_bytes, pkg_bytes, placed_bytes}
use Rattle.journal_text.specs.Reading.{counted_at, entry_at, flag_at, kept_at, long_at, name_at, path_at, pkg_at, placed_at, stand_at, version_at}
use Rattle.journal_text.specs.declared.record.Entry.{Entry}
use Rattle.journal_text.specs.declared.record.KeptFiles.{KeptFiles}
use Rattle.journal_text.specs.declared.record.Placed.{Placed}
use Rattle.journal_text.proofs.Words.{IsBytes, ListFits, Reads, Takes, both_again, both_takes, reads_counted, reads_flag, reads_long, reads_such}

pub reads_name : Reads short_text IsName name_at
reads_name = reads_such is_name IsName (record { says = λ x. (tests_say_the_same.names x).0; passes = λ x. (tests_say_the_same.names x).1; short = λ x is. omega (arith, is.short) })

pub reads_version : Reads short_text IsVersion version_at
reads_version = reads_such is_version IsVersion (record { says = λ x. (tests_say_the_same.versions x).0; passes = λ x. (tests_say_the_same.versions x).1; short = λ x is. omega (arith, is.short) })

pub reads_path : Reads short_text IsPath path_at
reads_path = reads_such is_relative_path IsPath (record { says = λ x. (tests_say_the_same.paths x).0; passes = λ x. (tests_say_the_same.paths x).1; short = λ x is. omega (arith, is.1.short) })

-- ---- packages

abbrev make_pkg : List ℕ → List ℕ → Pkg
make_pkg name version = record { name = name; version = version }

pkg_takes : (bytes : List ℕ) (p : Pkg) (rest : List ℕ) → IsBytes bytes → pkg_at bytes ≡ Some (p, rest) → Takes bytes (pkg_bytes p) rest × IsPackage p
pkg_takes bytes p rest fits e =
    let t = both_takes make_pkg short_text short_text IsName IsVersion name_at version_at reads_name reads_version bytes p rest fits e in
    subst (λ (q : Pkg). Takes bytes (pkg_bytes q) rest × IsPackage q) t.2 (t.3, record { name = t.4; version = t.5 })

pkg_again : (p : Pkg) (rest : List ℕ) → IsPackage p → pkg_at (pkg_bytes p ++ rest) ≡ Some (p, rest)
pkg_again p rest is = both_again make_pkg short_text short_text IsName IsVersion name_at version_at reads_name reads_version p.name p.version rest is.name is.version

pub reads_pkg : Reads pkg_bytes IsPackage pkg_at
reads_pkg = record { takes = pkg_takes; again = pkg_again }

-- ---- packages with their texts

pub record EntryFits (entry : Entry) : Type 0 where
  pub is_package : IsPackage entry.pkg
  pub opam_fits : length entry.opam < 2 ^ 32

abbrev make_entry : Pkg → List ℕ → Entry
make_entry pkg opam = record { pkg = pkg; opam = opam }

entry_takes : (bytes : List ℕ) (x : Entry) (rest : List ℕ) → IsBytes bytes → entry_at bytes ≡ Some (x, rest) → Takes bytes (entry_bytes x) rest × EntryFits x
entry_takes bytes x rest fits e =
    let t = both_takes make_entry pkg_bytes long_text IsPackage (λ text. length text < 2 ^ 32) pkg_at long_at reads_pkg reads_long bytes x rest fits e in
    subst (λ (q : Entry). Takes bytes (entry_bytes q) rest × EntryFits q) t.2 (t.3, record { is_package = t.4; opam_fits = t.5 })

entry_again : (x : Entry) (rest : List ℕ) → EntryFits x → entry_at (entry_bytes x ++ rest) ≡ Some (x, rest)
entry_again x rest is = both_again make_entry pkg_bytes long_text IsPackage (λ text. length text < 2 ^ 32) pkg_at long_at reads_pkg reads_long x.pkg x.opam rest is.is_package is.opam_fits

pub reads_entry : Reads entry_bytes EntryFits entry_at
reads_entry = record { takes = entry_takes; again = entry_again }

-- ---- files

pub record StandFits (stand : List ℕ × List ℕ) : Type 0 where
  pub is_path : IsPath stand.0
  pub bytes_fit : length stand.1 < 2 ^ 32

abbrev make_stand : List ℕ → List ℕ → List ℕ × List ℕ
make_stand path bytes = (path, bytes)

abbrev stand_bytes : List ℕ × List ℕ → List ℕ
stand_bytes stand = short_text stand.0 ++ long_text stand.1

stand_takes : (bytes : List ℕ) (x : List ℕ × List ℕ) (rest : List ℕ) → IsBytes bytes → stand_at bytes ≡ Some (x, rest) → Takes bytes (stand_bytes x) rest × StandFits x
stand_takes bytes x rest fits e =
    let t = both_takes make_stand short_text long_text IsPath (λ text. length text < 2 ^ 32) path_at long_at reads_path reads_long bytes x rest fits e in
    subst (λ (q : List ℕ × List ℕ). Takes bytes (stand_bytes q) rest × StandFits q) t.2 (t.3, record { is_path = t.4; bytes_fit = t.5 })

stand_again : (x : List ℕ × List ℕ) (rest : List ℕ) → StandFits x → stand_at (stand_bytes x ++ rest) ≡ Some (x, rest)
stand_again x rest is = both_again make_stand short_text long_text IsPath (λ text. length text < 2 ^ 32) path_at long_at reads_path reads_long x.0 x.1 rest is.is_path is.bytes_fit

reads_stand : Reads stand_bytes StandFits stand_at
reads_stand = record { takes = stand_takes; again = stand_again }

pub record PlacedFits (file : Placed) : Type 0 where
  pub is_path : IsPath file.path
  pub bytes_fit : length file.bytes < 2 ^ 32

abbrev make_placed : Bool → List ℕ × List ℕ → Placed
make_placed exec stand = record { path = stand.0; exec = exec; bytes = stand.1 }

placed_takes : (bytes : List ℕ) (x : Placed) (rest : List ℕ) → IsBytes bytes → placed_at bytes ≡ Some (x, rest) → Takes bytes (placed_bytes x) rest × PlacedFits x
placed_takes bytes x rest fits e =
    let t = both_takes make_placed flag stand_bytes (λ _. Unit {0}) StandFits flag_at stand_at reads_flag reads_stand bytes x rest fits e in
    subst (λ (q : Placed). Takes bytes (placed_bytes q) rest × PlacedFits q) t.2 (t.3, record { is_path = t.5.is_path; bytes_fit = t.5.bytes_fit })

placed_again : (x : Placed) (rest : List ℕ) → PlacedFits x → placed_at (placed_bytes x ++ rest) ≡ Some (x, rest)
placed_again x rest is =
    both_again make_placed flag stand_bytes (λ _. Unit {0}) StandFits flag_at stand_at reads_flag reads_stand x.exec (x.path, x.bytes) rest tt (record { is_path = is.is_path; bytes_fit = is.bytes_fit })

pub reads_placed : Reads placed_bytes PlacedFits placed_at
reads_placed = record { takes = placed_takes; again = placed_again }

-- ---- opam texts with files

pub record KeptFits (kept : KeptFiles) : Type 0 where
  pub opam_fits : length kept.opam < 2 ^ 32
  pub files_fit : ListFits PlacedFits kept.files

abbrev make_kept : List ℕ → List Placed → KeptFiles
make_kept opam files = record { opam = opam; files = files }

kept_takes : (bytes : List ℕ) (x : KeptFiles) (rest : List ℕ) → IsBytes bytes → kept_at bytes ≡ Some (x, rest) → Takes bytes (kept_bytes x) rest × KeptFits x
kept_takes bytes x rest fits e =
    let t = both_takes make_kept long_text (counted placed_bytes) (λ text. length text < 2 ^ 32) (ListFits PlacedFits) long_at (counted_at placed_at) reads_long (reads_counted placed_bytes PlacedFits placed_at reads_placed) bytes x rest fits e in
    subst (λ (q : KeptFiles). Takes bytes (kept_bytes q) rest × KeptFits q) t.2 (t.3, record { opam_fits = t.4; files_fit = t.5 })

kept_again : (x : KeptFiles) (rest : List ℕ) → KeptFits x → kept_at (kept_bytes x ++ rest) ≡ Some (x, rest)
kept_again x rest is =
    both_again make_kept long_text (counted placed_bytes) (λ text. length text < 2 ^ 32) (ListFits PlacedFits) long_at (counted_at placed_at) reads_long (reads_counted placed_bytes PlacedFits placed_at reads_placed) x.opam x.files rest is.opam_fits is.files_fit

pub reads_kept : Reads kept_bytes KeptFits kept_at
reads_kept = record { takes = kept_takes; again = kept_again }
