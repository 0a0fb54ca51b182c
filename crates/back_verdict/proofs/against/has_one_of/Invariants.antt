use Rattle.std.proofs.Common.{◌≡◌, drop}
use Rattle.back_verdict.specs.Searches.{has_one_of}
use Rattle.back_verdict.proofs.against.has_one_of.Given as goal

-- those that are left decide
abbrev pub invariant-loop-text : goal.invariant-loop-text
invariant-loop-text l = has_one_of l.sorted (drop l.text-index l.texts) ≡ has_one_of l.sorted l.texts
