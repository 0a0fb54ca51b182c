use Rattle.std.proofs.Common.{◌≡◌}
use Rattle.syntax_trees.specs.Trees.{items_of}
use Rattle.opam_package.specs.Fields as fields
use Rattle.opam_package.proofs.Told.{told}
use Rattle.opam_package.proofs.fields.field_of.Given as goal

-- it stands among the items that are left
abbrev pub invariant-loop-key : goal.invariant-loop-key
invariant-loop-key l = fields.field_of l.name (told l.key-iterator) ≡ fields.field_of l.name (items_of l.file)
