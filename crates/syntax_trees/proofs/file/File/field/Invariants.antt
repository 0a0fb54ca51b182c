use Rattle.std.proofs.Common.{◌≡◌}
use Rattle.syntax_trees.specs.Lookup.{field_value}
use Rattle.syntax_trees.proofs.file.File.field.Given as goal

-- the field is among what is left
abbrev pub invariant-loop-key : goal.invariant-loop-key
invariant-loop-key l = field_value l.self.items.entries l.name ≡ field_value l.key-iterator l.name
