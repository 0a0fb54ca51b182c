-- What is read behind a gate, at places that are named in another way.
use Rattle.std.proofs.Common.{◌≡◌, ℕ, List, Option, Result, subst}
use Rattle.crash_disk.specs.Disks.{State}
use Rattle.crash_disk.specs.declared.disk.DiskFault.{DiskFault}
use Rattle.switch_journal.specs.Gated.{TellsGated}
use Rattle.switch_journal.specs.declared.gated.Gated.{Gated}

pub tells_at : (told : Option State) (gate place path file : List ℕ) (limit : ℕ) (result : Result Gated DiskFault) → gate ≡ place → path ≡ file → TellsGated told gate path limit result → TellsGated told place file limit result
tells_at told gate place path file limit result a b tells =
    subst (λ (p : List ℕ). TellsGated told p file limit result) a (subst (λ (q : List ℕ). TellsGated told gate q limit result) b tells)
