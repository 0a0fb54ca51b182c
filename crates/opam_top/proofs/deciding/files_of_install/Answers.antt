use Rattle.opam_top.proofs.Placeable.{sources_fit}
use Rattle.opam_top.proofs.deciding.files_of_install.Goals as goal

pub files_if_free-requires-clause-fit : goal.files_if_free-requires-clause-fit
files_if_free-requires-clause-fit g c = sources_fit c.args.items.now c.in-Ok.files c.requires.good c.requires.few (rw c.in-Ok.is at c.in_ok-files.ensures.paths) (rw c.in-Ok.is at c.in_ok-files.ensures.short)
