use Rattle.std.proofs.Common.{◌≡◌, ◌++◌, take}
use Rattle.std.specs.List.{flat_map}
use Rattle.opam_top.specs.Records.{placed_bytes}
use Rattle.opam_top.proofs.records.push_each.Given as goal

abbrev pub invariant-loop-file : goal.invariant-loop-file
invariant-loop-file l = l.out.items ≡ l.initial.out.items ++ flat_map placed_bytes (take l.file-index l.files)
