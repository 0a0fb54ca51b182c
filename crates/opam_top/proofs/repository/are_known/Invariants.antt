use Rattle.std.proofs.Common.{◌≡◌, drop}
use Rattle.std.specs.List.{list_all}
use Rattle.opam_top.specs.Fronts.{is_known}
use Rattle.opam_top.proofs.repository.are_known.Given as goal

abbrev pub invariant-loop-answer : goal.invariant-loop-answer
invariant-loop-answer l = list_all is_known (drop l.answer-index l.answers) ≡ list_all is_known l.answers
