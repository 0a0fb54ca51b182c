use Rattle.std.proofs.Common.{List, Option, OnOk, Result, Ok, Err, sym, subst}
use Rattle.std.specs.List.{All}
use Rattle.opam_names.specs.declared.fault.OutOfMemory.{OutOfMemory}
use Rattle.opam_names.specs.declared.packages.Pkg.{Pkg}
use Rattle.journal_text.specs.Parts.{IsComingValid, IsPackage, IsPlaced, IsRemovalValid}
use Rattle.journal_text.specs.declared.record.KeptFiles.{KeptFiles}
use Rattle.journal_text.specs.declared.record.Placed.{Placed}
use Rattle.journal_text.proofs.encoding.push_removal.Goals as goal

kept_valid : {T : Type 0} (r : Result T OutOfMemory) (pkg : Pkg) (files : List Placed) → IsPackage pkg → OnOk r (All IsPlaced files) → OnOk r (IsComingValid pkg files)
kept_valid (Ok x) pkg files is placed = record { is_package = is; are_placed = placed }
kept_valid (Err e) pkg files is placed = tt

pub returns-in_ok-push-in-Some-clause-valid : goal.returns-in_ok-push-in-Some-clause-valid
returns-in_ok-push-in-Some-clause-valid c =
    let P : List Placed → Type 0 = λ files. OnOk c.push_contents.result (All IsPlaced files) in
    let placed = subst P c.as_slice-in-Some.ensures c.push_contents.ensures.placed in
    subst (λ (kept : Option KeptFiles). OnOk c.push_contents.result (IsRemovalValid c.args.pkg.now kept)) (sym c.in-Some.is)
    (kept_valid c.push_contents.result c.args.pkg.now c.in-Some.kept.files c.in_ok-push.ensures.valid placed)
