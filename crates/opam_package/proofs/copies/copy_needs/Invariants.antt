use Rattle.std.proofs.Common.{◌≡◌, take}
use Rattle.opam_package.proofs.copies.copy_needs.Given as goal

-- those so far are copied
abbrev pub invariant-loop-need : goal.invariant-loop-need
invariant-loop-need l = l.copies ≡ take l.need-index l.needs
