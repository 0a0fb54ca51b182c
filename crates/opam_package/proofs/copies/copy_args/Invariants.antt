use Rattle.std.proofs.Common.{◌≡◌, take}
use Rattle.opam_package.proofs.copies.copy_args.Given as goal

-- those so far are copied
abbrev pub invariant-loop-arg : goal.invariant-loop-arg
invariant-loop-arg l = l.copies ≡ take l.arg-index l.args
