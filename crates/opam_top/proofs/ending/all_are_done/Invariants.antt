use Rattle.std.proofs.Common.{◌≡◌, drop}
use Rattle.std.specs.List.{list_all}
use Rattle.opam_top.specs.Reports.{is_done}
use Rattle.opam_top.proofs.ending.all_are_done.Given as goal

abbrev pub invariant-loop-decision : goal.invariant-loop-decision
invariant-loop-decision l = list_all is_done (drop l.decision-index l.decisions) ≡ list_all is_done l.decisions
