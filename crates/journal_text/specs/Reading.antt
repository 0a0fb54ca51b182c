-- The words of records and slots, read at the front of bytes: a value and the bytes after it, or none. Words of this crate's own
-- proofs: no public clause cites them.
use Rattle.std.specs.Prelude.{◌≡◌, ℕ, zero, suc, List, [], ◌∷◌, length, take, drop, Bool, true, false, Result, Ok, Err, nat_lt, codes, bytes_eq, ◌==◌, if◌then◌else◌}
use Rattle.std.specs.Int.{Width, w16, w32, byte_len, from_be_bytes}
use Rattle.std.specs.declared.option.Option.{Option}
use Rattle.std.specs.declared.option.Option.TheVariants.{None, Some}
use Rattle.opam_names.specs.Names.{is_name, is_version}
use Rattle.opam_names.specs.Paths.{is_relative_path}
use Rattle.opam_names.specs.declared.packages.Pkg.{Pkg}
use Rattle.journal_text.specs.declared.record.Entry.{Entry}
use Rattle.journal_text.specs.declared.record.KeptFiles.{KeptFiles}
use Rattle.journal_text.specs.declared.record.Placed.{Placed}
use Rattle.journal_text.specs.declared.record.Rec.{Rec}
use Rattle.journal_text.specs.declared.record.Rec.TheVariants.{Install, PutBack, Remove, Begin, End}
use Rattle.journal_text.specs.declared.stop.Stop.{Stop}
use Rattle.journal_text.specs.declared.stop.Stop.TheVariants.{Bad, Memory}

-- what a reader finds at the front of bytes
abbrev pub Read : Type 0 → Type 0
Read X = Option (X × List ℕ)

infixl 10 ◌>>=◌
abbrev pub ◌>>=◌ : {A B : Type 0} → Option A → (A → Option B) → Option B
(Some x) >>= f = f x
None >>= f = None

-- why nothing was returned: nothing is read there, or memory was refused
abbrev pub Fails : {Y : Type 0} → Stop → Option Y → Type 0
Fails Memory read = Unit {0}
Fails Bad read = read ≡ None

-- what a function returned, seen by view, is what is read, unless memory was refused
abbrev pub Gives : {X Y : Type 0} → (X → Y) → Result X Stop → Option Y → Type 0
Gives view (Ok x) read = read ≡ Some (view x)
Gives view (Err e) read = Fails e read

-- ---- words

-- a number of so many bytes
abbrev pub number_at : Width → List ℕ → Read ℕ
number_at w bytes = if nat_lt (length bytes) (byte_len w) then None else Some (from_be_bytes w (take (byte_len w) bytes), drop (byte_len w) bytes)

-- a flag is 0 or 1
abbrev pub flag_at : List ℕ → Read Bool
flag_at [] = None
flag_at (zero ∷ bytes) = Some (false, bytes)
flag_at (suc zero ∷ bytes) = Some (true, bytes)
flag_at (suc (suc b) ∷ bytes) = None

-- so many bytes
abbrev pub front_at : ℕ → List ℕ → Read (List ℕ)
front_at n bytes = if nat_lt (length bytes) n then None else Some (take n bytes, drop n bytes)

-- a text with its length before it
unfoldable pub text_at : Width → List ℕ → Read (List ℕ)
text_at w bytes = do
  n ← number_at w bytes
  front_at n.0 n.1

-- a short text has two bytes of length
abbrev pub short_at : List ℕ → Read (List ℕ)
short_at = text_at w16

-- a long text has four bytes of length
abbrev pub long_at : List ℕ → Read (List ℕ)
long_at = text_at w32

-- a short text that passes a test
unfoldable pub such_at : (List ℕ → Bool) → List ℕ → Read (List ℕ)
such_at test bytes = do
  x ← short_at bytes
  if test x.0 then Some x else None

-- a name
abbrev pub name_at : List ℕ → Read (List ℕ)
name_at = such_at is_name

-- a version
abbrev pub version_at : List ℕ → Read (List ℕ)
version_at = such_at is_version

-- a path
abbrev pub path_at : List ℕ → Read (List ℕ)
path_at = such_at is_relative_path

-- one value, another after it, and what they make
unfoldable pub both_at : {A B C : Type 0} → (A → B → C) → (List ℕ → Read A) → (List ℕ → Read B) → List ℕ → Read C
both_at make one other bytes = do
  x ← one bytes
  y ← other x.1
  Some (make x.0 y.0, y.1)

-- so many values, one after the other
unfoldable pub items_at : {X : Type 0} → (List ℕ → Read X) → ℕ → List ℕ → Read (List X)
items_at one zero bytes = Some ([], bytes)
items_at one (suc n) bytes = do
  x ← one bytes
  xs ← items_at one n x.1
  Some (x.0 ∷ xs.0, xs.1)

-- their number, and so many values
unfoldable pub counted_at : {X : Type 0} → (List ℕ → Read X) → List ℕ → Read (List X)
counted_at one bytes = do
  n ← number_at w32 bytes
  items_at one n.0 n.1

-- byte 0, or byte 1 and a value
unfoldable pub optional_at : {X : Type 0} → (List ℕ → Read X) → List ℕ → Read (Option X)
optional_at one [] = None
optional_at one (zero ∷ bytes) = Some (None, bytes)
optional_at one (suc zero ∷ bytes) = do
  x ← one bytes
  Some (Some x.0, x.1)
optional_at one (suc (suc b) ∷ bytes) = None

-- the bytes after these
unfoldable pub after_head : List ℕ → List ℕ → Option (List ℕ)
after_head head bytes = if nat_lt (length bytes) (length head) then None else (if bytes_eq (take (length head) bytes) head then Some (drop (length head) bytes) else None)

-- a value with nothing after it
abbrev pub ended : {X : Type 0} → X → List ℕ → Option X
ended x rest = if length rest == 0 then Some x else None

-- one value after these bytes, and nothing after it
unfoldable pub whole_at : {X : Type 0} → List ℕ → (List ℕ → Read X) → List ℕ → Option X
whole_at head one bytes = do
  rest ← after_head head bytes
  x ← one rest
  ended x.0 x.1

-- ---- parts

-- a package
abbrev pub pkg_at : List ℕ → Read Pkg
pkg_at = both_at (λ name version. record { name = name; version = version }) name_at version_at

-- a package with its opam text
abbrev pub entry_at : List ℕ → Read Entry
entry_at = both_at (λ pkg opam. record { pkg = pkg; opam = opam }) pkg_at long_at

-- what a file holds, where it stands
abbrev pub stand_at : List ℕ → Read (List ℕ × List ℕ)
stand_at = both_at (λ path bytes. (path, bytes)) path_at long_at

-- a file
abbrev pub placed_at : List ℕ → Read Placed
placed_at = both_at (λ exec (stand : List ℕ × List ℕ). record { path = stand.0; exec = exec; bytes = stand.1 }) flag_at stand_at

-- an opam text with files
abbrev pub kept_at : List ℕ → Read KeptFiles
kept_at = both_at (λ opam files. record { opam = opam; files = files }) long_at (counted_at placed_at)

-- ---- records

-- the parts of a package that comes
abbrev pub coming_at : (Pkg → List ℕ → List Placed → Rec) → List ℕ → Read Rec
coming_at make = both_at (λ pkg (kept : KeptFiles). make pkg kept.opam kept.files) pkg_at kept_at

-- the parts of a package that goes
abbrev pub removal_at : List ℕ → Read Rec
removal_at = both_at (λ pkg kept. Remove pkg kept) pkg_at (optional_at kept_at)

-- the members of a target and the removals
abbrev pub change_at : List ℕ → Read (List Entry × List Pkg)
change_at = both_at (λ target removals. (target, removals)) (counted_at entry_at) (counted_at pkg_at)

-- the parts of a request
abbrev pub request_at : List ℕ → Read Rec
request_at = both_at (λ roots (change : List Entry × List Pkg). Begin roots change.0 change.1) (counted_at name_at) change_at

-- the kind of a record, and its parts
unfoldable pub body_at : List ℕ → Read Rec
body_at [] = None
body_at (zero ∷ bytes) = None
body_at (suc zero ∷ bytes) = coming_at Install bytes
body_at (suc (suc zero) ∷ bytes) = removal_at bytes
body_at (suc (suc (suc zero)) ∷ bytes) = request_at bytes
body_at (suc (suc (suc (suc zero))) ∷ bytes) = Some (End, bytes)
body_at (suc (suc (suc (suc (suc zero)))) ∷ bytes) = coming_at PutBack bytes
body_at (suc (suc (suc (suc (suc (suc b))))) ∷ bytes) = None

-- a whole record
abbrev pub record_at : List ℕ → Option Rec
record_at = whole_at (codes "OPAMREC2") body_at

-- an old removal keeps nothing
abbrev pub old_removal_at : List ℕ → Read Rec
old_removal_at bytes = do
  x ← pkg_at bytes
  Some (Remove x.0 None, x.1)

-- the kind of an old record, and its parts
unfoldable pub old_body_at : List ℕ → Read Rec
old_body_at [] = None
old_body_at (zero ∷ bytes) = None
old_body_at (suc zero ∷ bytes) = coming_at Install bytes
old_body_at (suc (suc zero) ∷ bytes) = old_removal_at bytes
old_body_at (suc (suc (suc b)) ∷ bytes) = None

-- a whole old record
abbrev pub old_record_at : List ℕ → Option Rec
old_record_at = whole_at (codes "OPAMREC1") old_body_at
