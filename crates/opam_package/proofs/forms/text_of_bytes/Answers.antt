use Rattle.std.proofs.Common.{sym, ◌∙◌}
use Rattle.opam_package.proofs.Utf8.{told_text, not_told}
use Rattle.opam_package.proofs.forms.text_of_bytes.Goals as goal

pub returns-in-Ok : goal.returns-in-Ok
returns-in-Ok c =
    let told = c.in-Ok.ensures.cases in
    told_text c.args.bytes.now c.in-Ok.text.now told.0 told.1 (sym c.has_no_zero.ensures ∙ c.if-not-has_no_zero.false)

pub returns-in-Err : goal.returns-in-Err
returns-in-Err c = not_told c.args.bytes.now c.in-Err.ensures.cases.0
