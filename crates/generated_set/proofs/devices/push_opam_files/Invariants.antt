use Rattle.std.proofs.Common.{◌≡◌, ◌++◌, drop}
use Rattle.outside_io.specs.Memories.{pairs_of}
use Rattle.generated_set.specs.Devices.{opam_files}
use Rattle.generated_set.proofs.devices.push_opam_files.Given as goal

abbrev pub invariant-loop-place : goal.invariant-loop-place
invariant-loop-place l =
    pairs_of l.files.items ++ opam_files l.place (drop l.place l.needs) ≡ pairs_of l.initial.files.items ++ opam_files 0 l.needs
