use Rattle.switch_state.proofs.Adding.{IsAdding}
use Rattle.switch_state.proofs.taking.own_all.Given as goal

-- the paths that are left can be owned too
abbrev pub invariant-loop-entry : goal.invariant-loop-entry
invariant-loop-entry l = IsAdding l.fn.owners.owned l.fn.owned l.entry-iterator.rest.items l.owners
