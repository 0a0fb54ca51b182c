-- What is no longer than a record may be has lengths and numbers that fit their bytes.
use Rattle.std.proofs.Common.{ℕ, ◌^◌, ◌<◌, ◌≤◌, List, [], ◌∷◌, ◌++◌, length, arith, Some, None}
use Rattle.std.specs.Int.{w32, to_be_bytes}
use Rattle.std.specs.List.{All, AllByRecursion, flat_map}
use Rattle.std.proofs.lemmas.List.{length-append}
use Rattle.std.proofs.lemmas.List.Concat.{flat_map-cons}
use Rattle.std.proofs.lemmas.List.Elements.{recursion_from_All, All-from_recursion}
use Rattle.opam_names.specs.Names.{IsName}
use Rattle.opam_names.specs.declared.packages.Pkg.{Pkg}
use Rattle.journal_text.specs.Words.{counted, flag, long_text, optional, short_text}
use Rattle.journal_text.specs.Parts.{IsEntry, IsPackage, IsPlaced, coming_bytes, entry_bytes, kept_bytes, pkg_bytes, placed_bytes}
use Rattle.journal_text.specs.Records.{HasValidParts, body_bytes}
use Rattle.journal_text.specs.declared.record.Entry.{Entry}
use Rattle.journal_text.specs.declared.record.KeptFiles.{KeptFiles}
use Rattle.journal_text.specs.declared.record.Placed.{Placed}
use Rattle.journal_text.specs.declared.record.Rec.{Rec}
use Rattle.journal_text.specs.declared.record.Rec.TheVariants.{Install, PutBack, Remove, Begin, End}
use Rattle.journal_text.proofs.Words.{ListFits}
use Rattle.journal_text.proofs.PartsRead.{EntryFits, KeptFits, PlacedFits}
use Rattle.journal_text.proofs.RecordsRead.{ComingFits, RecFits}

-- ---- parts of texts

pub front_len : (a b : List ℕ) (limit : ℕ) → length (a ++ b) < limit → length a < limit
front_len a b limit lt = omega (arith, length-append a b)

pub back_len : (a b : List ℕ) (limit : ℕ) → length (a ++ b) < limit → length b < limit
back_len a b limit lt = omega (arith, length-append a b)

-- ---- parts of lists

-- each spelling has a byte
pub record HasBytes {X : Type 0} (spell : X → List ℕ) : Type 0 where
  pub some : (x : X) → 0 < length (spell x)

few_of : {X : Type 0} (spell : X → List ℕ) → HasBytes spell → (xs : List X) → length xs ≤ length (flat_map spell xs)
few_of spell has [] = omega arith
few_of spell has (x ∷ xs) =
    let rest = few_of spell has xs in
    rw flat_map-cons (omega (arith, length-append (spell x) (flat_map spell xs), has.some x, rest))

each_of : {X : Type 0} (spell : X → List ℕ) (limit : ℕ) (xs : List X) → length (flat_map spell xs) < limit → AllByRecursion (λ x. length (spell x) < limit) xs
each_of spell limit [] lt = tt
each_of spell limit (x ∷ xs) lt =
    let whole : length (spell x ++ flat_map spell xs) < limit = rw flat_map-cons at lt in
    (front_len (spell x) (flat_map spell xs) limit whole, each_of spell limit xs (back_len (spell x) (flat_map spell xs) limit whole))

pub all_of : {X : Type 0} (spell : X → List ℕ) (limit : ℕ) (xs : List X) → length (flat_map spell xs) < limit → All (λ x. length (spell x) < limit) xs
all_of spell limit xs lt = All-from_recursion (λ x. length (spell x) < limit) xs (each_of spell limit xs lt)

-- the number of a counted list, and its bytes
pub record CountedLens {X : Type 0} (spell : X → List ℕ) (xs : List X) (limit : ℕ) : Type 0 where
  pub few : length xs < limit
  pub small : length (flat_map spell xs) < limit

pub counted_lens : {X : Type 0} (spell : X → List ℕ) → HasBytes spell → (xs : List X) (limit : ℕ) → length (counted spell xs) < limit → CountedLens spell xs limit
counted_lens spell has xs limit lt =
    let small = back_len (to_be_bytes w32 (length xs)) (flat_map spell xs) limit lt in
    record { few = omega (arith, few_of spell has xs, small); small = small }

each_fits : {X : Type 0} (spell : X → List ℕ) (limit : ℕ) (Valid Fits : X → Type 0) → ((x : X) → Valid x → length (spell x) < limit → Fits x)
    → (xs : List X) → AllByRecursion Valid xs → AllByRecursion (λ x. length (spell x) < limit) xs → AllByRecursion Fits xs
each_fits spell limit Valid Fits fit [] valid small = tt
each_fits spell limit Valid Fits fit (x ∷ xs) valid small = (fit x valid.0 small.0, each_fits spell limit Valid Fits fit xs valid.1 small.1)

list_fits : {X : Type 0} (spell : X → List ℕ) (Valid Fits : X → Type 0) → HasBytes spell → ((x : X) → Valid x → length (spell x) < 2 ^ 32 → Fits x)
    → (xs : List X) → All Valid xs → length (counted spell xs) < 2 ^ 32 → ListFits Fits xs
list_fits spell Valid Fits has fit xs valid lt =
    let lens = counted_lens spell has xs (2 ^ 32) lt in
    record { few = lens.few; each = each_fits spell (2 ^ 32) Valid Fits fit xs (recursion_from_All Valid xs valid) (each_of spell (2 ^ 32) xs lens.small) }

-- ---- parts of records

long_len : (x : List ℕ) (limit : ℕ) → length (long_text x) < limit → length x < limit
long_len x limit lt = back_len (to_be_bytes w32 (length x)) x limit lt

short_has : HasBytes short_text
short_has = record { some = λ x. omega arith }

pkg_has : HasBytes pkg_bytes
pkg_has = record { some = λ pkg. omega arith }

entry_has : HasBytes entry_bytes
entry_has = record { some = λ entry. omega arith }

placed_has : HasBytes placed_bytes
placed_has = record { some = λ file. omega (arith, length-append (flag file.exec) (short_text file.path ++ long_text file.bytes), length-append (short_text file.path) (long_text file.bytes)) }

pub entry_len : (entry : Entry) (limit : ℕ) → length (entry_bytes entry) < limit → length entry.opam < limit
entry_len entry limit lt = long_len entry.opam limit (back_len (pkg_bytes entry.pkg) (long_text entry.opam) limit lt)

pub placed_len : (file : Placed) (limit : ℕ) → length (placed_bytes file) < limit → length file.bytes < limit
placed_len file limit lt =
    long_len file.bytes limit (back_len (short_text file.path) (long_text file.bytes) limit (back_len (flag file.exec) (short_text file.path ++ long_text file.bytes) limit lt))

-- an opam text and files
pub record KeptLens (kept : KeptFiles) : Type 0 where
  pub opam : length kept.opam < 2 ^ 32
  pub files : CountedLens placed_bytes kept.files (2 ^ 32)

pub kept_lens : (kept : KeptFiles) → length (kept_bytes kept) < 2 ^ 32 → KeptLens kept
kept_lens kept lt = record {
  opam = long_len kept.opam (2 ^ 32) (front_len (long_text kept.opam) (counted placed_bytes kept.files) (2 ^ 32) lt);
  files = counted_lens placed_bytes placed_has kept.files (2 ^ 32) (back_len (long_text kept.opam) (counted placed_bytes kept.files) (2 ^ 32) lt);
}

-- what a request names
pub record RequestLens (roots : List (List ℕ)) (target : List Entry) (removals : List Pkg) : Type 0 where
  pub roots_are : length (counted short_text roots) < 2 ^ 32
  pub target_is : length (counted entry_bytes target) < 2 ^ 32
  pub removals_are : length (counted pkg_bytes removals) < 2 ^ 32

pub request_lens : (roots : List (List ℕ)) (target : List Entry) (removals : List Pkg) → length (counted short_text roots ++ (counted entry_bytes target ++ counted pkg_bytes removals)) < 2 ^ 32 → RequestLens roots target removals
request_lens roots target removals lt =
    let back = back_len (counted short_text roots) (counted entry_bytes target ++ counted pkg_bytes removals) (2 ^ 32) lt in
    record {
      roots_are = front_len (counted short_text roots) (counted entry_bytes target ++ counted pkg_bytes removals) (2 ^ 32) lt;
      target_is = front_len (counted entry_bytes target) (counted pkg_bytes removals) (2 ^ 32) back;
      removals_are = back_len (counted entry_bytes target) (counted pkg_bytes removals) (2 ^ 32) back;
    }

pub roots_lens : (roots : List (List ℕ)) → length (counted short_text roots) < 2 ^ 32 → CountedLens short_text roots (2 ^ 32)
roots_lens roots lt = counted_lens short_text short_has roots (2 ^ 32) lt

pub target_lens : (target : List Entry) → length (counted entry_bytes target) < 2 ^ 32 → CountedLens entry_bytes target (2 ^ 32)
target_lens target lt = counted_lens entry_bytes entry_has target (2 ^ 32) lt

pub removals_lens : (removals : List Pkg) → length (counted pkg_bytes removals) < 2 ^ 32 → CountedLens pkg_bytes removals (2 ^ 32)
removals_lens removals lt = counted_lens pkg_bytes pkg_has removals (2 ^ 32) lt

-- ---- what is valid and short fits

kept_fits : (kept : KeptFiles) → All IsPlaced kept.files → length (kept_bytes kept) < 2 ^ 32 → KeptFits kept
kept_fits kept valid lt = record {
  opam_fits = (kept_lens kept lt).opam;
  files_fit = list_fits placed_bytes IsPlaced PlacedFits placed_has (λ file is small. record { is_path = is; bytes_fit = placed_len file (2 ^ 32) small }) kept.files valid (back_len (long_text kept.opam) (counted placed_bytes kept.files) (2 ^ 32) lt);
}

coming_fits : (pkg : Pkg) (opam : List ℕ) (files : List Placed) → IsPackage pkg → All IsPlaced files → length (coming_bytes pkg opam files) < 2 ^ 32 → ComingFits pkg opam files
coming_fits pkg opam files is valid lt =
    let kept : KeptFiles = record { opam = opam; files = files } in
    record { is_package = is; kept_fits = kept_fits kept valid (back_len (pkg_bytes pkg) (kept_bytes kept) (2 ^ 32) lt) }

-- one byte less at the front
behind_len : (b : ℕ) (bytes : List ℕ) → length (b ∷ bytes) < 2 ^ 32 → length bytes < 2 ^ 32
behind_len b bytes lt = omega arith

pub names_fit : (names : List (List ℕ)) → All IsName names → length (counted short_text names) < 2 ^ 32 → ListFits IsName names
names_fit names valid lt = list_fits short_text IsName IsName short_has (λ name is small. is) names valid lt

pub entries_fit : (entries : List Entry) → All IsEntry entries → length (counted entry_bytes entries) < 2 ^ 32 → ListFits EntryFits entries
entries_fit entries valid lt = list_fits entry_bytes IsEntry EntryFits entry_has (λ entry is small. record { is_package = is; opam_fits = entry_len entry (2 ^ 32) small }) entries valid lt

pub rec_fits : (r : Rec) → HasValidParts r → length (body_bytes r) < 2 ^ 32 → RecFits r
rec_fits (Install pkg opam files) valid lt = coming_fits pkg opam files valid.is_package valid.are_placed (behind_len 1 (coming_bytes pkg opam files) lt)
rec_fits (PutBack pkg opam files) valid lt = coming_fits pkg opam files valid.is_package valid.are_placed (behind_len 5 (coming_bytes pkg opam files) lt)
rec_fits (Remove pkg None) valid lt = (valid, tt)
rec_fits (Remove pkg (Some kept)) valid lt =
    let both = behind_len 2 (pkg_bytes pkg ++ optional kept_bytes (Some kept)) lt in
    (valid.is_package, kept_fits kept valid.are_placed (behind_len 1 (kept_bytes kept) (back_len (pkg_bytes pkg) (optional kept_bytes (Some kept)) (2 ^ 32) both)))
rec_fits (Begin roots target removals) valid lt =
    let lens = request_lens roots target removals (behind_len 3 (counted short_text roots ++ (counted entry_bytes target ++ counted pkg_bytes removals)) lt) in
    record {
      roots_fit = names_fit roots valid.roots_are lens.roots_are;
      target_fits = entries_fit target valid.target_is lens.target_is;
      removals_fit = list_fits pkg_bytes IsPackage IsPackage pkg_has (λ pkg is small. is) removals valid.removals_are lens.removals_are;
    }
rec_fits End valid lt = tt

-- ---- what fits is valid

paths_valid : (files : List Placed) → AllByRecursion PlacedFits files → AllByRecursion IsPlaced files
paths_valid [] fits = tt
paths_valid (file ∷ files) fits = (fits.0.is_path, paths_valid files fits.1)

pub entries_valid : (entries : List Entry) → AllByRecursion EntryFits entries → AllByRecursion IsEntry entries
entries_valid [] fits = tt
entries_valid (entry ∷ entries) fits = (fits.0.is_package, entries_valid entries fits.1)

files_valid : (files : List Placed) → ListFits PlacedFits files → All IsPlaced files
files_valid files fits = All-from_recursion IsPlaced files (paths_valid files fits.each)

pub valid_parts : (r : Rec) → RecFits r → HasValidParts r
valid_parts (Install pkg opam files) fits = record { is_package = fits.is_package; are_placed = files_valid files fits.kept_fits.files_fit }
valid_parts (PutBack pkg opam files) fits = record { is_package = fits.is_package; are_placed = files_valid files fits.kept_fits.files_fit }
valid_parts (Remove pkg None) fits = fits.0
valid_parts (Remove pkg (Some kept)) fits = record { is_package = fits.0; are_placed = files_valid kept.files fits.1.files_fit }
valid_parts (Begin roots target removals) fits =
    record {
      roots_are = All-from_recursion IsName roots fits.roots_fit.each;
      target_is = All-from_recursion IsEntry target (entries_valid target fits.target_fits.each);
      removals_are = All-from_recursion IsPackage removals fits.removals_fit.each;
    }
valid_parts End fits = tt
