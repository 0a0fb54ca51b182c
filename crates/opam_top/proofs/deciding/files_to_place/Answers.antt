use Rattle.std.proofs.Common.{◌≡◌, ℕ, List, Result, Ok, sym, ap, ◌∙◌}
use Rattle.std.proofs.lemmas.Result.{IfOk-weaker}
use Rattle.opam_top.specs.declared.decision.Reason.{Reason}
use Rattle.opam_top.specs.Installs.{files_of_items, placed_by}
use Rattle.opam_top.specs.Owners.{owners_of}
use Rattle.opam_top.specs.declared.records.Placed.{Placed}
use Rattle.opam_top.proofs.Decided.{built_places}
use Rattle.opam_top.proofs.deciding.files_to_place.Goals as goal

pub returns-in-Ok-clause-told : goal.returns-in-Ok-clause-told
returns-in-Ok-clause-told g c = λ told s shop disk.
    let items = c.as_slice.result.now in
    let owners = owners_of c.args.owners.now in
    let found = ap (λ (l : List (List ℕ)). Ok l) c.as_slice.ensures ∙ sym c.in-Ok.is ∙ c.in_ok-items-in-Built.ensures.told told shop in
    let same = built_places told s.files owners c.args.job.now c.args.fate (Ok items) c.in-Built.is found in
    IfOk-weaker c.files_of_install.result (λ (files : Result (List Placed) Reason). files ≡ files_of_items told s.files owners c.args.job.now (Ok items)) (λ files. files ≡ placed_by told s.files owners c.args.job.now c.args.fate)
    (λ files is. is ∙ same) (c.files_of_install.ensures.told told s shop disk)
