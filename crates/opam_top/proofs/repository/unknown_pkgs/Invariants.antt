use Rattle.std.proofs.Common.{◌≡◌, take}
use Rattle.std.specs.List.{filter_map}
use Rattle.opam_top.specs.Fronts.{unknown_of}
use Rattle.opam_top.proofs.repository.unknown_pkgs.Given as goal

abbrev pub invariant-loop-answer : goal.invariant-loop-answer
invariant-loop-answer l = l.pkgs ≡ filter_map unknown_of (take l.answer-index l.answers)
