use Rattle.std.proofs.Common.{subst, Option}
use Rattle.std.specs.Prelude.{IfNone, IfSome}
use Rattle.journal_text.specs.Records.{IsSpelledBy, SpellNoRecord}
use Rattle.journal_text.specs.declared.record.Rec.{Rec}
use Rattle.std.specs.declared.option.Option.TheVariants.{Some}
use Rattle.switch_state.specs.OpamTexts.{IsFoundKept}
use Rattle.switch_state.proofs.Accepted.{found_kept, if_ok_more, none_spelled}
use Rattle.switch_state.proofs.kept_files.kept_in.Goals as goal

pub returns-in-None : goal.returns-in-None
returns-in-None c = none_spelled c.args.pkg.now c.args.bytes.now (subst (λ (o : Option Rec). IfNone o (SpellNoRecord c.args.bytes.now)) c.in-None.is c.in_ok-decode.ensures.none)

pub returns-in-Some : goal.returns-in-Some
returns-in-Some c =
    let spelled = subst (λ (o : Option Rec). IfSome o (λ entry. IsSpelledBy entry c.args.bytes.now)) c.in-Some.is c.in_ok-decode.ensures.some in
    if_ok_more c.kept_by.result (IsFoundKept c.args.pkg.now (Some c.args.bytes.now)) c.kept_by.ensures
    (λ found by. found_kept c.one_record_for_bytes.ensures c.args.pkg.now c.args.bytes.now c.in-Some.entry found spelled by)
