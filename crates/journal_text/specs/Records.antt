-- The spelling of records, in the format that is written and in the old one. This project's own. A record is the eight bytes of
-- its format, a byte for its kind, and its parts; nothing follows.
use Rattle.std.specs.Prelude.{◌≡◌, ◌≤◌, ℕ, List, [], ◌∷◌, ◌++◌, length, codes, IfSome}
use Rattle.std.specs.declared.option.Option.{Option}
use Rattle.std.specs.declared.option.Option.TheVariants.{None, Some}
use Rattle.journal_text.specs.Parts.{AreFree, IsComingValid, IsRemovalValid, IsRequestInOrder, IsRequestValid, coming_bytes, paths_of, pkg_bytes, removal_bytes, request_bytes}
use Rattle.journal_text.specs.declared.record.Rec.{Rec}
use Rattle.journal_text.specs.declared.record.Rec.TheVariants.{Install, PutBack, Remove, Begin, End}
use Rattle.journal_text.specs.declared.record.TheConstants.{RECORD_LIMIT}

-- the kind of a record, and its parts
abbrev pub body_bytes : Rec → List ℕ
body_bytes (Install pkg opam files) = 1 ∷ coming_bytes pkg opam files
body_bytes (Remove pkg kept) = 2 ∷ removal_bytes pkg kept
body_bytes (Begin roots target removals) = 3 ∷ request_bytes roots target removals
body_bytes End = 4 ∷ []
body_bytes (PutBack pkg opam files) = 5 ∷ coming_bytes pkg opam files

-- a record's spelling: the bytes of its format, its kind and its parts
abbrev pub record_bytes : Rec → List ℕ
record_bytes entry = codes "OPAMREC2" ++ body_bytes entry

-- the names, versions and paths of a record are valid
abbrev pub HasValidParts : Rec → Type 0
HasValidParts (Install pkg opam files) = IsComingValid pkg files
HasValidParts (PutBack pkg opam files) = IsComingValid pkg files
HasValidParts (Remove pkg kept) = IsRemovalValid pkg kept
HasValidParts (Begin roots target removals) = IsRequestValid roots target removals
HasValidParts End = Unit {0}

-- the parts of a record stand in order
abbrev pub IsInOrder : Rec → Type 0
IsInOrder (Install pkg opam files) = AreFree (paths_of files)
IsInOrder (PutBack pkg opam files) = AreFree (paths_of files)
IsInOrder (Remove pkg kept) = IfSome kept (λ k. AreFree (paths_of k.files))
IsInOrder (Begin roots target removals) = IsRequestInOrder roots target removals
IsInOrder End = Unit {0}

-- bytes that are a record's spelling: its parts are valid, they stand in order, and the record is not too long
pub record IsSpelledBy (entry : Rec) (bytes : List ℕ) : Type 0 where
  pub valid : HasValidParts entry
  pub ordered : IsInOrder entry
  pub short : length bytes ≤ RECORD_LIMIT
  pub bytes_are : bytes ≡ record_bytes entry

-- bytes that are no record's
abbrev pub SpellNoRecord : List ℕ → Type 0
SpellNoRecord bytes = (entry : Rec) → ¬ (IsSpelledBy entry bytes)

-- ---- the old format, which is only read

-- the old format has installs, with the same parts, and removals, which keep nothing
abbrev pub old_bytes : Rec → Option (List ℕ)
old_bytes (Install pkg opam files) = Some (codes "OPAMREC1" ++ 1 ∷ coming_bytes pkg opam files)
old_bytes (Remove pkg None) = Some (codes "OPAMREC1" ++ 2 ∷ pkg_bytes pkg)
old_bytes (Remove pkg (Some kept)) = None
old_bytes (PutBack pkg opam files) = None
old_bytes (Begin roots target removals) = None
old_bytes End = None

-- bytes that are an old record's spelling
pub record IsOldSpelledBy (entry : Rec) (bytes : List ℕ) : Type 0 where
  pub valid : HasValidParts entry
  pub ordered : IsInOrder entry
  pub short : length bytes ≤ RECORD_LIMIT
  pub bytes_are : old_bytes entry ≡ Some bytes

-- bytes that are no old record's
abbrev pub SpellNoOldRecord : List ℕ → Type 0
SpellNoOldRecord bytes = (entry : Rec) → ¬ (IsOldSpelledBy entry bytes)
