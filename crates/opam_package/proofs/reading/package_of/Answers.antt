use Rattle.std.proofs.Common.{sym, ◌∙◌}
use Rattle.syntax_trees.specs.Trees.{items_of}
use Rattle.opam_package.specs.FieldFaults.{file_faults}
use Rattle.opam_package.proofs.ToldFirst.{none_told}
use Rattle.opam_package.proofs.reading.package_of.Goals as goal

pub build_package-requires : goal.build_package-requires
build_package-requires c = none_told (file_faults c.args.pkg.now (items_of c.args.file.now)) (sym c.in_ok-fault.ensures ∙ c.in-None.is)

pub returns-in_ok-build_package-in-None-clause-sound : goal.returns-in_ok-build_package-in-None-clause-sound
returns-in_ok-build_package-in-None-clause-sound c = none_told (file_faults c.args.pkg.now (items_of c.args.file.now)) (sym c.in_ok-fault.ensures ∙ c.in-None.is)
