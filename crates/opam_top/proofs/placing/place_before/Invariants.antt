use Rattle.std.proofs.Common.{◌≡◌, ◌+◌, drop}
use Rattle.opam_top.specs.Placements.{place_of}
use Rattle.opam_top.proofs.placing.place_before.Given as goal

abbrev pub invariant-loop-place : goal.invariant-loop-place
invariant-loop-place l = l.place + place_of l.path (drop l.place l.files) ≡ place_of l.path l.files
