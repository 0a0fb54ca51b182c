use Rattle.std.proofs.Common.{◌∙◌, ◌+◌, ap, sym, length, ℕ, not}
use Rattle.std.specs.Prelude.{nat_le}
use Rattle.switch_journal.specs.declared.request.TheConstants.{OWNED_LIMIT}
use Rattle.change_verdict.proofs.Aparts.{can_be_placed}
use Rattle.change_verdict.proofs.install.unless_full.Goals as goal

pub returns-clause-placed : goal.returns-clause-placed
returns-clause-placed c =
    let owned = c.args.owners.now.owned in
    can_be_placed owned c.args.files c.in_ok-in_path_order.field-0 c.in_ok-in_path_order.ensures c.requires.brought c.requires.none
    (ap (λ (n : ℕ). not (nat_le (length owned + n) OWNED_LIMIT)) (sym c.len.ensures) ∙ sym c.would_be_full.ensures ∙ c.if-would_be_full.false)
