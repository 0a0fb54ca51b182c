use Rattle.std.proofs.Common.{◌≡◌, take}
use Rattle.journal_text.specs.Parts.{names_of}
use Rattle.journal_text.proofs.order.names_of.Given as goal

abbrev pub invariant-loop-pkg : goal.invariant-loop-pkg
invariant-loop-pkg l = l.names.items ≡ names_of (take l.pkg-index l.pkgs)
