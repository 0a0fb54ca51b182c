-- No file of an install file goes into the switch's own folder.
use Rattle.std.proofs.Common.{◌≡◌, ◌≢◌, ℕ, zero, suc, ◌<◌, length, List, [], ◌∷◌, map, Bool, false, refl, sym, subst, arith, get_or, Result, Ok, Err, OnOk}
use Rattle.std.specs.Prelude.{◌||◌, IfOk}
use Rattle.std.specs.List.{list_any}
use Rattle.install_sections.specs.InstallLaws.{FilesStayBelow, StaysBelow}
use Rattle.install_sections.specs.Placements.{placements_in}
use Rattle.install_sections.specs.Readings.{IsInstallText, IsRefusedInstall}
use Rattle.install_sections.specs.declared.fault.InstallFault.{InstallFault}
use Rattle.install_sections.specs.declared.fault.InstallFault.TheVariants.{Memory}
use Rattle.install_sections.specs.declared.placement.Placement.{Placement}
use Rattle.journal_text.specs.Parts.{is_own}
use Rattle.opam_names.specs.declared.fault.OutOfMemory.{OutOfMemory}
use Rattle.change_verdict.specs.Sources.{Folder, IsBroughtByText, accepted, refused, destination, files_of}
use Rattle.change_verdict.specs.declared.limits.TheConstants.{FILES_LIMIT}
use Rattle.change_verdict.specs.declared.reason.Reason.TheVariants.{InstallRefused}
use Rattle.change_verdict.specs.declared.verdict.Sources.{Sources}
use Rattle.change_verdict.specs.declared.verdict.Sources.TheVariants.{Refused}

neither : (a b : Bool) → a ≡ false → b ≡ false → (a || b) ≡ false
neither a b p q = rw (p, q) refl

free_of : (placements : List Placement) → ((k : ℕ) (d : Placement) → k < length placements → is_own (destination (get_or placements k d)) ≡ false)
    → list_any is_own (map destination placements) ≡ false
free_of [] all = refl
free_of (p ∷ placements) all =
    neither (is_own (destination p)) (list_any is_own (map destination placements)) (all zero p (omega arith)) (free_of placements (λ k d lt. all (suc k) d (omega arith)))

own_not : {folder : List ℕ} {placement : Placement} → StaysBelow folder placement → is_own (destination placement) ≡ false
own_not stays = neither _ _ stays.other stays.apart

-- the placements of an install text are none of the switch's own
pub text_free : FilesStayBelow → (text name : List ℕ) (placements : List Placement) → IsInstallText text name placements → list_any is_own (map destination placements) ≡ false
text_free law text name placements is =
    rw is.placed (free_of (placements_in name is.file) (λ k d lt. own_not (law name is.file k d lt).3))

-- what its placements bring, and its fault
pub accepted_text : (folder : Folder) (text name : List ℕ) (placements : List Placement) (result : Result Sources OutOfMemory) → IsInstallText text name placements
    → IfOk result (λ sources. sources ≡ files_of folder FILES_LIMIT placements) → IfOk result (IsBroughtByText folder name text)
accepted_text folder text name placements (Ok sources) is brought = subst (IsBroughtByText folder name text) (sym brought) (accepted placements is)
accepted_text folder text name placements (Err fault) is brought = tt

pub refused_text : (folder : Folder) (text name : List ℕ) (fault : InstallFault) (result : Result Sources OutOfMemory) → IsRefusedInstall text name fault
    → OnOk result (fault ≢ Memory) → IfOk result (λ sources. sources ≡ Refused (InstallRefused fault)) → IfOk result (IsBroughtByText folder name text)
refused_text folder text name fault (Ok sources) is other brought = subst (IsBroughtByText folder name text) (sym brought) (refused fault is other)
refused_text folder text name fault (Err want) is other brought = tt
