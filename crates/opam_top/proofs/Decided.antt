-- What was read, as the definitions take it apart.
use Rattle.std.proofs.Common.{◌≡◌, ℕ, List, Result, sym, ap, ◌∙◌}
use Rattle.std.specs.FinMap.{get}
use Rattle.opam_names.specs.declared.packages.Pkg.{Pkg}
use Rattle.opam_top.specs.declared.decision.Reason.{Reason}
use Rattle.outside_io.specs.Counts.{ByPath}
use Rattle.outside_io.specs.Shops.{Told}
use Rattle.outside_io.specs.declared.workshop.Fate.{Fate}
use Rattle.outside_io.specs.declared.workshop.Fate.TheVariants.{Built}
use Rattle.outside_io.specs.declared.workshop.Job.{Job}
use Rattle.crash_disk.specs.Disks.{Tree}
use Rattle.opam_top.specs.Installs.{files_of_items, install_name, items_of, placed_by}

pub built_places : (told : Told) (tree : Tree) (owners : ByPath Pkg) (job : Job) (fate : Fate) (items : Result (List (List ℕ)) Reason) → fate ≡ Built → items ≡ items_of (get (told.files job) (install_name job.pkg))
    → files_of_items told tree owners job items ≡ placed_by told tree owners job fate
built_places told tree owners job fate items built is = ap (files_of_items told tree owners job) is ∙ sym (ap (placed_by told tree owners job) built)
