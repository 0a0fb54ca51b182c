use Rattle.std.proofs.Common.{◌≡◌, ◌++◌, drop}
use Rattle.lock_check.specs.Sharing.{conflicts_at}
use Rattle.lock_check.proofs.sharing.note_named.Given as goal

-- those so far, and then those that are left
abbrev pub invariant-loop-name : goal.invariant-loop-name
invariant-loop-name l = l.whats ++ conflicts_at l.set l.dependent (drop l.name-index l.names) ≡ l.fn.whats ++ conflicts_at l.set l.dependent l.names
