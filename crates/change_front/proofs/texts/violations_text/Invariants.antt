use Rattle.std.proofs.Common.{◌≡◌, ◌++◌, drop}
use Rattle.std.specs.List.{flat_map}
use Rattle.change_front.specs.RefusalTexts.{violation_line}
use Rattle.change_front.proofs.texts.violations_text.Given as goal

-- the lines so far, and then those that are left
abbrev pub invariant-loop-violation : goal.invariant-loop-violation
invariant-loop-violation l = l.text.items ++ flat_map violation_line (drop l.violation-index l.violations) ≡ flat_map violation_line l.violations
