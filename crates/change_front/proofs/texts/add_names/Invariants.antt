use Rattle.std.proofs.Common.{◌≡◌, ◌++◌, drop}
use Rattle.std.specs.List.{flat_map}
use Rattle.change_front.specs.RefusalTexts.{spaced}
use Rattle.change_front.proofs.texts.add_names.Given as goal

-- the names so far, and then those that are left
abbrev pub invariant-loop-name : goal.invariant-loop-name
invariant-loop-name l = l.text.items ++ flat_map spaced (drop l.name-index l.names) ≡ l.fn.text.items ++ flat_map spaced l.names
