use Rattle.std.proofs.Common.{◌≡◌, ◌∙◌, sym, subst, ap, Option, IfOk}
use Rattle.journal_text.specs.declared.record.Rec.{Rec}
use Rattle.switch_journal.specs.Applying.{applied, installed, put_back}
use Rattle.switch_journal.specs.Contents.{Contents}
use Rattle.switch_journal.specs.Places.{record_path}
use Rattle.switch_journal.proofs.kept.Kept.apply.Goals as goal

pub returns-in-Install : goal.returns-in-Install
returns-in-Install c =
    let said = c.args.self in
    let is : installed c.in_ok-from.from c.in-Install.pkg c.as_slice.result.now c.as_slice-in-Install.result.now said said.request ≡ applied c.args.number (record_path c.args.number) c.args.entry.now said =
    (λ i. installed (c.in_ok-from.ensures i) c.in-Install.pkg (c.as_slice.ensures i) (c.as_slice-in-Install.ensures i) said said.request)
    ∙ ap (λ (entry : Rec). applied c.args.number (record_path c.args.number) entry said) (sym c.in-Install.is) in
    subst (λ (x : Option Contents). IfOk c.install.result (λ after. after ≡ x)) is c.install.ensures

pub returns-in-PutBack : goal.returns-in-PutBack
returns-in-PutBack c =
    let said = c.args.self in
    let is : put_back c.in_ok-from.from c.in-PutBack.pkg c.as_slice-in-PutBack.result.now c.as_slice-in-PutBack-2.result.now said said.request ≡ applied c.args.number (record_path c.args.number) c.args.entry.now said =
    (λ i. put_back (c.in_ok-from.ensures i) c.in-PutBack.pkg (c.as_slice-in-PutBack.ensures i) (c.as_slice-in-PutBack-2.ensures i) said said.request)
    ∙ ap (λ (entry : Rec). applied c.args.number (record_path c.args.number) entry said) (sym c.in-PutBack.is) in
    subst (λ (x : Option Contents). IfOk c.put_back.result (λ after. after ≡ x)) is c.put_back.ensures
