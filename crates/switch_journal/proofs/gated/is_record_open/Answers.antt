use Rattle.std.proofs.Common.{◌≡◌, IfOk, List, ℕ, subst}
use Rattle.std.specs.FinMap.{get}
use Rattle.switch_journal.specs.Places.{opens}
use Rattle.switch_journal.proofs.gated.is_record_open.Goals as goal

pub returns-clause-told : goal.returns-clause-told
returns-clause-told g c = λ s is.
    subst (λ (path : List ℕ). IfOk c.is_gate_open.result (λ x. x ≡ opens (get s.files path))) c.in_ok-gate.ensures (c.is_gate_open.ensures.told s is)
