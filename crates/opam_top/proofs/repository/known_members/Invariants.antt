use Rattle.std.proofs.Common.{◌≡◌}
use Rattle.std.specs.List.{filter_map}
use Rattle.opam_top.specs.Fronts.{member_of}
use Rattle.opam_top.proofs.repository.known_members.Given as goal

abbrev pub invariant-loop-answer : goal.invariant-loop-answer
invariant-loop-answer l = l.members ≡ filter_map member_of l.yielded
