use Rattle.std.proofs.Common.{◌≡◌, drop}
use Rattle.std.specs.List.{list_all}
use Rattle.opam_filter.specs.Sets.{holds}
use Rattle.opam_package.specs.declared.package.Need.{Need}
use Rattle.switch_state.specs.Sound.{runs_on}
use Rattle.back_verdict.proofs.meeting.runs_on.Given as goal

-- those that are left decide
abbrev pub invariant-loop-need : goal.invariant-loop-need
invariant-loop-need l = list_all (λ (need : Need). holds need.runtime l.set) (drop l.need-index l.dependent.items) ≡ runs_on l.set l.dependent
