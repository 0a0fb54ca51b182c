use Rattle.std.proofs.Common.{◌≡◌, ◌∙◌, sym, subst, ap, Option, IfOk}
use Rattle.journal_text.specs.declared.record.Rec.{Rec}
use Rattle.switch_journal.specs.Applying.{can_come, old_applied, only_if, with_package}
use Rattle.switch_journal.specs.Contents.{Contents}
use Rattle.switch_journal.specs.Places.{record_path}
use Rattle.switch_journal.proofs.kept.Kept.apply_old.Goals as goal

pub returns-in_ok-from-in-Install : goal.returns-in_ok-from-in-Install
returns-in_ok-from-in-Install c =
    let said = c.args.self in
    let pkg = c.in-Install.pkg in
    let is : only_if (can_come pkg c.as_slice-in-Install.result.now said) (with_package c.in_ok-from-in-Install.from pkg c.as_slice.result.now c.as_slice-in-Install.result.now said) ≡ old_applied (record_path c.args.number) c.args.entry.now said =
    (λ i. only_if (can_come pkg (c.as_slice-in-Install.ensures i) said) (with_package (c.in_ok-from-in-Install.ensures i) pkg (c.as_slice.ensures i) (c.as_slice-in-Install.ensures i) said))
    ∙ ap (λ (entry : Rec). old_applied (record_path c.args.number) entry said) (sym c.in-Install.is) in
    subst (λ (x : Option Contents). IfOk c.install_old.result (λ after. after ≡ x)) is c.install_old.ensures
