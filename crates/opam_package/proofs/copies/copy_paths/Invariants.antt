use Rattle.std.proofs.Common.{◌≡◌, take}
use Rattle.opam_package.proofs.copies.copy_paths.Given as goal

-- those so far are copied
abbrev pub invariant-loop-path : goal.invariant-loop-path
invariant-loop-path l = l.copies ≡ take l.path-index l.paths
