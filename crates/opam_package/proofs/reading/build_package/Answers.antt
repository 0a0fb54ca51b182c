use Rattle.std.proofs.Common.{codes}
use Rattle.syntax_trees.specs.Trees.{items_of}
use Rattle.opam_package.proofs.FieldSound.{field_sound}
use Rattle.opam_package.proofs.reading.build_package.Goals as goal

pub depends_of-requires : goal.depends_of-requires
depends_of-requires c = field_sound c.args.pkg.now (codes "depends") (items_of c.args.file.now) c.requires

pub atoms_of-requires : goal.atoms_of-requires
atoms_of-requires c = field_sound c.args.pkg.now (codes "depopts") (items_of c.args.file.now) c.requires

pub atoms_of-requires-2 : goal.atoms_of-requires-2
atoms_of-requires-2 c = field_sound c.args.pkg.now (codes "conflicts") (items_of c.args.file.now) c.requires

pub classes_of-requires : goal.classes_of-requires
classes_of-requires c = field_sound c.args.pkg.now (codes "conflict-class") (items_of c.args.file.now) c.requires

pub is_available-requires : goal.is_available-requires
is_available-requires c = field_sound c.args.pkg.now (codes "available") (items_of c.args.file.now) c.requires

pub commands_of-requires : goal.commands_of-requires
commands_of-requires c = field_sound c.args.pkg.now (codes "build") (items_of c.args.file.now) c.requires

pub updates_of-requires : goal.updates_of-requires
updates_of-requires c = field_sound c.args.pkg.now (codes "setenv") (items_of c.args.file.now) c.requires

pub updates_of-requires-2 : goal.updates_of-requires-2
updates_of-requires-2 c = field_sound c.args.pkg.now (codes "build-env") (items_of c.args.file.now) c.requires

pub substs_of-requires : goal.substs_of-requires
substs_of-requires c = field_sound c.args.pkg.now (codes "substs") (items_of c.args.file.now) c.requires

pub synopsis_of-requires : goal.synopsis_of-requires
synopsis_of-requires c = field_sound c.args.pkg.now (codes "synopsis") (items_of c.args.file.now) c.requires
