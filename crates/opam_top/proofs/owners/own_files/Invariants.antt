use Rattle.std.proofs.Common.{◌≡◌, ◌++◌, drop}
use Rattle.opam_top.specs.Owners.{owned_by}
use Rattle.opam_top.proofs.owners.own_files.Given as goal

-- the pairs so far and those of the rest are all
abbrev pub invariant-loop-file : goal.invariant-loop-file
invariant-loop-file l = l.owners.items ++ owned_by l.pkg (drop l.file-index l.files) ≡ l.initial.owners.items ++ owned_by l.pkg l.files
