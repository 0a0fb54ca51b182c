-- What decoding answers is the record that the bytes spell, and none where they spell none.
use Rattle.std.proofs.Common.{◌≡◌, ℕ, ◌^◌, ◌<◌, ◌≤◌, List, [], ◌∷◌, ◌++◌, length, Option, Some, None, Result, Ok, Err, sym, ap, subst, ◌∙◌, arith}
use Rattle.std.specs.Prelude.{IfOk, IfSome, IfNone, codes}
use Rattle.std.proofs.lemmas.List.{length-append}
use Rattle.opam_names.specs.declared.fault.OutOfMemory.{OutOfMemory}
use Rattle.journal_text.specs.Parts.{coming_bytes, pkg_bytes}
use Rattle.journal_text.specs.Records.{IsInOrder, IsOldSpelledBy, IsSpelledBy, body_bytes, old_bytes}
use Rattle.journal_text.specs.Reading.{old_record_at, record_at}
use Rattle.journal_text.specs.declared.record.Rec.{Rec}
use Rattle.journal_text.specs.declared.record.Rec.TheVariants.{Install, PutBack, Remove, Begin, End}
use Rattle.journal_text.specs.declared.record.TheConstants.{RECORD_LIMIT}
use Rattle.journal_text.proofs.Words.{IsBytes, some_is}
use Rattle.journal_text.proofs.RecordsRead.{RecFits, old_record_again, old_record_takes, record_again, record_takes}
use Rattle.journal_text.proofs.Lengths.{rec_fits, valid_parts}

-- what the last step answers
abbrev pub Chosen : Rec → Result (Option Rec) OutOfMemory → Type 0
Chosen entry r = IfOk r (λ found. IfSome found (λ e. (e ≡ entry) × IsInOrder entry))

abbrev pub Refused : Rec → Result (Option Rec) OutOfMemory → Type 0
Refused entry r = IfOk r (λ found. IfNone found (¬ (IsInOrder entry)))

-- ---- the format that is written

spelled_fits : (entry : Rec) (bytes : List ℕ) → IsSpelledBy entry bytes → RecFits entry
spelled_fits entry bytes is =
    rec_fits entry is.valid (omega (arith, is.short, ap length is.bytes_are, length-append (codes "OPAMREC2") (body_bytes entry)))

pub is_read : (entry : Rec) (bytes : List ℕ) → IsSpelledBy entry bytes → record_at bytes ≡ Some entry
is_read entry bytes is = ap record_at is.bytes_are ∙ record_again entry (spelled_fits entry bytes is)

pub decoded : (bytes : List ℕ) (entry : Rec) (r : Result (Option Rec) OutOfMemory) → IsBytes bytes → length bytes ≤ RECORD_LIMIT → record_at bytes ≡ Some entry → Chosen entry r → IfOk r (λ found. IfSome found (λ e. IsSpelledBy e bytes))
decoded bytes entry (Err e) fits short is chosen = tt
decoded bytes entry (Ok None) fits short is chosen = tt
decoded bytes entry (Ok (Some e)) fits short is chosen =
    let t = record_takes bytes entry fits is in
    subst (λ (x : Rec). IsSpelledBy x bytes) (sym chosen.0) (record { valid = valid_parts entry t.1; ordered = chosen.1; short = short; bytes_are = t.0 })

pub refused : (bytes : List ℕ) (entry : Rec) (r : Result (Option Rec) OutOfMemory) → record_at bytes ≡ Some entry → Refused entry r → IfOk r (λ found. IfNone found ((e : Rec) → ¬ (IsSpelledBy e bytes)))
refused bytes entry (Err e) is none = tt
refused bytes entry (Ok (Some e)) is none = tt
refused bytes entry (Ok None) is none = λ e spelled. none (subst IsInOrder (some_is e entry (sym (is_read e bytes spelled) ∙ is)) spelled.ordered)

pub unread : (bytes : List ℕ) → record_at bytes ≡ None → (e : Rec) → ¬ (IsSpelledBy e bytes)
unread bytes is e spelled = let read = is_read e bytes spelled in absurd cc

pub one_record : (a b : Rec) (bytes : List ℕ) → IsSpelledBy a bytes → IsSpelledBy b bytes → a ≡ b
one_record a b bytes one other = some_is a b (sym (is_read a bytes one) ∙ is_read b bytes other)

-- ---- the old format

old_len : (entry : Rec) (bytes : List ℕ) → old_bytes entry ≡ Some bytes → length bytes ≤ RECORD_LIMIT → length (body_bytes entry) < 2 ^ 32
old_len (Install pkg opam files) bytes is short =
    let e = some_is (codes "OPAMREC1" ++ 1 ∷ coming_bytes pkg opam files) bytes is in
    omega (arith, short, ap length e, length-append (codes "OPAMREC1") (1 ∷ coming_bytes pkg opam files))
old_len (Remove pkg None) bytes is short =
    let e = some_is (codes "OPAMREC1" ++ 2 ∷ pkg_bytes pkg) bytes is in
    omega (arith, short, ap length e, length-append (codes "OPAMREC1") (2 ∷ pkg_bytes pkg), length-append (2 ∷ pkg_bytes pkg) (0 ∷ []))
old_len (Remove pkg (Some kept)) bytes is short = absurd cc
old_len (PutBack pkg opam files) bytes is short = absurd cc
old_len (Begin roots target removals) bytes is short = absurd cc
old_len End bytes is short = absurd cc

pub old_is_read : (entry : Rec) (bytes : List ℕ) → IsOldSpelledBy entry bytes → old_record_at bytes ≡ Some entry
old_is_read entry bytes is = old_record_again entry bytes (rec_fits entry is.valid (old_len entry bytes is.bytes_are is.short)) is.bytes_are

pub old_decoded : (bytes : List ℕ) (entry : Rec) (r : Result (Option Rec) OutOfMemory) → IsBytes bytes → length bytes ≤ RECORD_LIMIT → old_record_at bytes ≡ Some entry → Chosen entry r → IfOk r (λ found. IfSome found (λ e. IsOldSpelledBy e bytes))
old_decoded bytes entry (Err e) fits short is chosen = tt
old_decoded bytes entry (Ok None) fits short is chosen = tt
old_decoded bytes entry (Ok (Some e)) fits short is chosen =
    let t = old_record_takes bytes entry fits is in
    subst (λ (x : Rec). IsOldSpelledBy x bytes) (sym chosen.0) (record { valid = valid_parts entry t.1; ordered = chosen.1; short = short; bytes_are = t.0 })

pub old_refused : (bytes : List ℕ) (entry : Rec) (r : Result (Option Rec) OutOfMemory) → old_record_at bytes ≡ Some entry → Refused entry r → IfOk r (λ found. IfNone found ((e : Rec) → ¬ (IsOldSpelledBy e bytes)))
old_refused bytes entry (Err e) is none = tt
old_refused bytes entry (Ok (Some e)) is none = tt
old_refused bytes entry (Ok None) is none = λ e spelled. none (subst IsInOrder (some_is e entry (sym (old_is_read e bytes spelled) ∙ is)) spelled.ordered)

pub old_unread : (bytes : List ℕ) → old_record_at bytes ≡ None → (e : Rec) → ¬ (IsOldSpelledBy e bytes)
old_unread bytes is e spelled = let read = old_is_read e bytes spelled in absurd cc

pub one_old_record : (a b : Rec) (bytes : List ℕ) → IsOldSpelledBy a bytes → IsOldSpelledBy b bytes → a ≡ b
one_old_record a b bytes one other = some_is a b (sym (old_is_read a bytes one) ∙ old_is_read b bytes other)
