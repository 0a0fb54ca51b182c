-- How long the records of actions are.
use Rattle.std.proofs.Common.{◌≡◌, ℕ, ◌+◌, ◌*◌, ◌≤◌, List, [], ◌∷◌, ◌++◌, Bool, true, false, length, refl, ap, arith, Some}
use Rattle.std.specs.Prelude.{codes}
use Rattle.std.specs.Int.{to_be_bytes, w16, w32}
use Rattle.std.specs.List.{All, flat_map}
use Rattle.std.proofs.lemmas.List.{length-append}
use Rattle.std.proofs.lemmas.List.Elements.{All-head, All-tail}
use Rattle.opam_names.specs.declared.limits.TheConstants.{PATH_LIMIT}
use Rattle.opam_names.specs.declared.packages.Pkg.{Pkg}
use Rattle.journal_text.specs.Parts.{IsPlaced, coming_bytes, contents_bytes, pkg_bytes, placed_bytes, removal_bytes}
use Rattle.journal_text.specs.Records.{record_bytes}
use Rattle.journal_text.specs.Words.{counted, flag, long_text, short_text}
use Rattle.journal_text.specs.declared.record.KeptFiles.{KeptFiles}
use Rattle.journal_text.specs.declared.record.Placed.{Placed}
use Rattle.journal_text.specs.declared.record.Rec.TheVariants.{Install, PutBack, Remove}
use Rattle.switch_state.specs.Sound.{member_pkg}
use Rattle.change_verdict.specs.Verdicts.{bytes_total}
use Rattle.change_outcome.specs.SpellingLaws.{InstallsAreSpelled, PutBacksAreSpelled}

short_len : (text : List ℕ) → length (short_text text) ≡ 2 + length text
short_len text = length-append {A = ℕ} (to_be_bytes w16 (length text)) text

long_len : (text : List ℕ) → length (long_text text) ≡ 4 + length text
long_len text = length-append {A = ℕ} (to_be_bytes w32 (length text)) text

pkg_len : (pkg : Pkg) → length (pkg_bytes pkg) ≡ 4 + length pkg.name + length pkg.version
pkg_len pkg = let n = short_len pkg.name in let v = short_len pkg.version in let all = length-append {A = ℕ} (short_text pkg.name) (short_text pkg.version) in omega (arith, n, v, all)

flag_len : (b : Bool) → length (flag b) ≡ 1
flag_len true = refl
flag_len false = refl

placed_len : (file : Placed) → length (placed_bytes file) ≡ 7 + length file.path + length file.bytes
placed_len file =
    let p = short_len file.path in
    let b = long_len file.bytes in
    let pb = length-append {A = ℕ} (short_text file.path) (long_text file.bytes) in
    let all = length-append {A = ℕ} (flag file.exec) (short_text file.path ++ long_text file.bytes) in
    let f = flag_len file.exec in
    omega (arith, p, b, pb, all, f)

contents_len : (opam : List ℕ) (files : List Placed) → length (contents_bytes opam files) ≡ 8 + length opam + length (flat_map placed_bytes files)
contents_len opam files =
    let o = long_len opam in
    let f = length-append {A = ℕ} (to_be_bytes w32 (length files)) (flat_map placed_bytes files) in
    let all = length-append {A = ℕ} (long_text opam) (counted placed_bytes files) in
    omega (arith, o, f, all)

coming_len : (pkg : Pkg) (opam : List ℕ) (files : List Placed) → length (coming_bytes pkg opam files) ≡ 12 + length pkg.name + length pkg.version + length opam + length (flat_map placed_bytes files)
coming_len pkg opam files =
    let p = pkg_len pkg in
    let c = contents_len opam files in
    let all = length-append {A = ℕ} (pkg_bytes pkg) (contents_bytes opam files) in
    omega (arith, p, c, all)

install_len : (pkg : Pkg) (opam : List ℕ) (files : List Placed) → length (record_bytes (Install pkg opam files)) ≡ 21 + length pkg.name + length pkg.version + length opam + length (flat_map placed_bytes files)
install_len pkg opam files = let c = coming_len pkg opam files in let all = length-append {A = ℕ} (codes "OPAMREC2") (1 ∷ coming_bytes pkg opam files) in omega (arith, c, all)

back_len : (pkg : Pkg) (opam : List ℕ) (files : List Placed) → length (record_bytes (PutBack pkg opam files)) ≡ 21 + length pkg.name + length pkg.version + length opam + length (flat_map placed_bytes files)
back_len pkg opam files = let c = coming_len pkg opam files in let all = length-append {A = ℕ} (codes "OPAMREC2") (5 ∷ coming_bytes pkg opam files) in omega (arith, c, all)

removal_len : (pkg : Pkg) (kept : KeptFiles) → length (record_bytes (Remove pkg (Some kept))) ≡ 22 + length pkg.name + length pkg.version + length kept.opam + length (flat_map placed_bytes kept.files)
removal_len pkg kept =
    let p = pkg_len pkg in
    let k = contents_len kept.opam kept.files in
    let all = length-append {A = ℕ} (pkg_bytes pkg) (1 ∷ contents_bytes kept.opam kept.files) in
    let whole = length-append {A = ℕ} (codes "OPAMREC2") (2 ∷ removal_bytes pkg (Some kept)) in
    omega (arith, p, k, all, whole)

-- each file has a path that is not too long
files_len : (files : List Placed) → All IsPlaced files → length (flat_map placed_bytes files) ≤ (7 + PATH_LIMIT) * length files + bytes_total files
files_len [] valid = omega arith
files_len (file ∷ files) valid =
    let here = placed_len file in
    let short = (All-head IsPlaced file files valid).1.short in
    let later = files_len files (All-tail IsPlaced file files valid) in
    let all = length-append {A = ℕ} (placed_bytes file) (flat_map placed_bytes files) in
    omega (arith, here, short, later, all)

pub installs_spelled : InstallsAreSpelled
installs_spelled owned member files valid opam placed = record {
  ordered = placed.ordered;
  short =
      (let whole = install_len (member_pkg member) member.opam files in
      let long = files_len files valid.are_placed in
      let name = valid.is_package.name.short in
      let version = valid.is_package.version.short in
      let few = placed.brought.few in
      let bytes = placed.brought.short in
      omega (arith, whole, long, name, version, opam, few, bytes));
}

pub backs_spelled : PutBacksAreSpelled
backs_spelled member kept same spelled = record {
  ordered = spelled.ordered;
  short =
      (let whole = back_len (member_pkg member) member.opam kept.files in
      let removal = removal_len (member_pkg member) kept in
      let long = ap length same in
      let short = spelled.short in
      omega (arith, whole, removal, long, short));
}
