use Rattle.std.proofs.Common.{◌≡◌, take}
use Rattle.back_verdict.proofs.against.copied_classes.Given as goal

-- those so far are copied
abbrev pub invariant-loop-class : goal.invariant-loop-class
invariant-loop-class l = l.classes ≡ take l.class-index l.dependent.classes
