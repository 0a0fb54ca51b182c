use Rattle.std.proofs.Common.{◌≡◌, drop}
use Rattle.std.specs.List.{list_all}
use Rattle.lock_check.specs.Violations.{is_need_met}
use Rattle.lock_check.proofs.violations.is_met_among.Given as goal

-- those that are left decide
abbrev pub invariant-loop-need : goal.invariant-loop-need
invariant-loop-need l = list_all (is_need_met l.set) (drop l.need-index l.needs) ≡ list_all (is_need_met l.set) l.needs
