-- The verdict on a job's package is that on what its build brings.
use Rattle.std.proofs.Common.{◌≡◌, List, Result, Ok, Err, sym, subst}
use Rattle.std.specs.Prelude.{IfOk}
use Rattle.crash_disk.specs.Disks.{Tree}
use Rattle.crash_disk.specs.declared.disk.DiskFault.{DiskFault}
use Rattle.opam_names.specs.declared.packages.Pkg.{Pkg}
use Rattle.outside_io.specs.declared.workshop.Fate.{Fate}
use Rattle.owner_map.specs.declared.owned.OwnedPath.{OwnedPath}
use Rattle.change_verdict.specs.Sources.{AreSourcesOf, Folder}
use Rattle.change_verdict.specs.Verdicts.{IsVerdictOf, by_sources, install_verdict}
use Rattle.change_verdict.specs.declared.verdict.Sources.{Sources}
use Rattle.change_verdict.specs.declared.verdict.Verdict.{Verdict}

pub verdict_by : (folder : Folder) (tree : Tree) (owned : List OwnedPath) (pkg : Pkg) (fate : Fate) (sources : Sources) (result : Result Verdict DiskFault) → AreSourcesOf folder pkg.name fate sources
    → IfOk result (λ verdict. verdict ≡ install_verdict tree owned pkg sources) → IfOk result (IsVerdictOf folder tree owned pkg fate)
verdict_by folder tree owned pkg fate sources (Ok verdict) are is = subst (IsVerdictOf folder tree owned pkg fate) (sym is) (by_sources sources are)
verdict_by folder tree owned pkg fate sources (Err fault) are is = tt
