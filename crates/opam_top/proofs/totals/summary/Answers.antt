use Rattle.std.proofs.Common.{◌≡◌, ◌∙◌, ap, string_bytes}
use Rattle.opam_top.proofs.Summaries.{written, written_summary}
use Rattle.opam_top.proofs.totals.summary.Goals as goal

pub returns : goal.returns
returns c =
    let text : string_bytes c.in_ok-text.text ≡ written c.count_installed-installed.result c.count_removed-removed.result c.count_failed-failed.result c.count_aborted-aborted.result = c.in_ok-text.ensures.ok in
    ap (λ v. v.items) c.into_bytes.ensures.value ∙ text
    ∙ written_summary c.args.decisions.now _ _ _ _ c.count_installed-installed.ensures c.count_removed-removed.ensures c.count_failed-failed.ensures c.count_aborted-aborted.ensures
