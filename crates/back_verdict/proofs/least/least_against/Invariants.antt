use Rattle.std.proofs.Common.{◌≡◌, ◌≤◌, drop, filter, length}
use Rattle.std.specs.Option.{option_copied}
use Rattle.back_verdict.specs.Backs.{least_named}
use Rattle.back_verdict.specs.Searches.{stands_against}
use Rattle.back_verdict.proofs.least.least_against.Given as goal

-- of those from here on the least is found
abbrev pub invariant-loop-at : goal.invariant-loop-at
invariant-loop-at l = option_copied l.least ≡ least_named (filter (stands_against l.against l.old) (drop l.at l.entries))
