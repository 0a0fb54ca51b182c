-- What a record keeps of a package is told exactly, and so is whether its opam text is accepted.
use Rattle.std.proofs.Common.{◌≡◌, ◌≢◌, ◌∙◌, ℕ, List, [], ◌∷◌, Bool, true, false, refl, sym, ap, subst, Option, Some, None, Result, Ok, Err}
use Rattle.std.specs.Prelude.{IfErr, IfNone, IfOk, IfSome, ◌&&◌, bytes_eq}
use Rattle.std.proofs.lemmas.Slice.Eq.{bytes_eq-Decides}
use Rattle.crash_disk.specs.Disks.{Kept, State}
use Rattle.journal_text.specs.Laws.{OneRecordForBytes}
use Rattle.journal_text.specs.Records.{IsSpelledBy, SpellNoRecord}
use Rattle.journal_text.specs.declared.record.KeptFiles.{KeptFiles}
use Rattle.journal_text.specs.declared.record.Rec.{Rec}
use Rattle.journal_text.specs.declared.record.Rec.TheVariants.{Begin, End, Install, PutBack, Remove}
use Rattle.opam_names.specs.declared.packages.Pkg.{Pkg}
use Rattle.opam_package.specs.FieldFaults.{file_faults}
use Rattle.opam_package.specs.PackageFaults.{first_fault}
use Rattle.opam_package.specs.PackageTexts.{IsPackageFault, no_memory, no_file, faulty}
use Rattle.opam_package.specs.declared.fault.PackageFault.{PackageFault}
use Rattle.opam_package.specs.declared.fault.PackageFault.TheVariants.{Memory}
use Rattle.syntax_trees.specs.Laws.{OneTreeForBytes}
use Rattle.syntax_trees.specs.Trees.{IsTextOf, items_of}
use Rattle.syntax_trees.proofs.NowhereDeep.{faultless}
use Rattle.syntax_trees.specs.declared.file.File.{File}
use Rattle.switch_state.specs.OpamTexts.{IsFoundKept, IsIfAccepted, IsKeptBy, IsKeptIn, IsOpamText, IsSomeKept, SaysAccepted}

-- ---- opam texts

pub opam_refused : OneTreeForBytes → (pkg : Pkg) (text : List ℕ) (fault : PackageFault) → IsPackageFault text pkg fault → fault ≢ Memory → IsOpamText pkg text → ⊥
opam_refused one pkg text fault no_memory other is = other refl
opam_refused one pkg text fault (no_file {fault = f} not_memory fault_is) other is = not_memory (faultless text is.file f is.is_text fault_is)
opam_refused one pkg text fault (faulty {file = file} is_text first) other is =
    let none : file_faults pkg (items_of file) ≡ [] = ap (file_faults pkg) (one text file is.file is_text is.is_text).0 ∙ is.faultless in
    let e : None ≡ Some fault = sym (ap first_fault none) ∙ first in
    absurd (cc)

-- ---- records

-- a record that is no removal of the package with these files
not_kept : OneRecordForBytes → (pkg : Pkg) (text : List ℕ) (entry : Rec) (kept : KeptFiles) → IsSpelledBy entry text → IsKeptIn pkg text kept → entry ≡ Remove pkg (Some kept)
not_kept one pkg text entry kept spelled is = one.written entry (Remove pkg (Some kept)) text spelled is.spelled

pub none_spelled : (pkg : Pkg) (text : List ℕ) → SpellNoRecord text → IsFoundKept pkg (Some text) None
none_spelled pkg text none = λ kept is. none (Remove pkg (Some kept)) is.spelled

pub found_kept : OneRecordForBytes → (pkg : Pkg) (text : List ℕ) (entry : Rec) (found : Option KeptFiles) → IsSpelledBy entry text → IsKeptBy pkg entry found → IsFoundKept pkg (Some text) found
found_kept one pkg text (Remove gone None) found spelled by = subst (IsFoundKept pkg (Some text)) (sym by) (λ kept is. absurd (let e = not_kept one pkg text (Remove gone None) kept spelled is in cc))
found_kept one pkg text (Remove gone (Some kept)) (Some found) spelled by =
    record {
      spelled = subst (λ (k : KeptFiles). IsSpelledBy (Remove pkg (Some k)) text) (sym by.0) (subst (λ (p : Pkg). IsSpelledBy (Remove p (Some kept)) text) by.1 spelled);
      accepted = subst (λ (k : KeptFiles). IsOpamText pkg k.opam) (sym by.0) by.2;
    }
found_kept one pkg text (Remove gone (Some kept)) None spelled by = λ other is.
    let e = not_kept one pkg text (Remove gone (Some kept)) other spelled is in
    let same : gone ≡ pkg = cc in
    let files : kept ≡ other = cc in
    by (same, subst (λ (k : KeptFiles). IsOpamText pkg k.opam) (sym files) is.accepted)
found_kept one pkg text (Install other opam files) found spelled by = subst (IsFoundKept pkg (Some text)) (sym by) (λ kept is. absurd (let e = not_kept one pkg text (Install other opam files) kept spelled is in cc))
found_kept one pkg text (PutBack other opam files) found spelled by = subst (IsFoundKept pkg (Some text)) (sym by) (λ kept is. absurd (let e = not_kept one pkg text (PutBack other opam files) kept spelled is in cc))
found_kept one pkg text (Begin roots target removals) found spelled by = subst (IsFoundKept pkg (Some text)) (sym by) (λ kept is. absurd (let e = not_kept one pkg text (Begin roots target removals) kept spelled is in cc))
found_kept one pkg text End found spelled by = subst (IsFoundKept pkg (Some text)) (sym by) (λ kept is. absurd (let e = not_kept one pkg text End kept spelled is in cc))

-- what is found in a file was kept, whatever else the disk tells
pub some_kept : (pkg : Pkg) (text : List ℕ) (found : Option KeptFiles) → IsFoundKept pkg (Some text) found → IfSome found (IsSomeKept pkg)
some_kept pkg text None none = tt
some_kept pkg text (Some kept) is = (text, is)

-- ---- answers

pub if_ok_more : {T E : Type 0} (r : Result T E) {P : T → Type 0} (Q : T → Type 0) → IfOk r P → ((x : T) → P x → Q x) → IfOk r Q
if_ok_more (Ok x) Q one more = more x one
if_ok_more (Err e) Q one more = tt

pub says_refused : (pkg : Pkg) (text : List ℕ) (fault : PackageFault) (is : Bool) → (fault ≢ Memory → IsOpamText pkg text → ⊥) → (is ≡ false) × (fault ≢ Memory) → SaysAccepted pkg text is
says_refused pkg text fault is never so = subst (SaysAccepted pkg text) (sym so.0) (never so.1)
