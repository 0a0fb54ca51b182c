use Rattle.std.proofs.Common.{◌++◌, ◌∙◌, ap, ℕ, List}
use Rattle.std.specs.Prelude.{codes, decimal}
use Rattle.action_report.specs.Reports.{install_place, install_text}
use Rattle.action_report.proofs.Texts.{five}
use Rattle.action_report.proofs.reasons.install_fault_text.Goals as goal

pub returns : goal.returns
returns c =
    let name = c.args.name.now in
    c.in_ok-format.ensures.ok
    ∙ ap (λ (at : ℕ). name ++ (codes ".install: byte " ++ (decimal at ++ (codes ": " ++ c.install_text-what.result.now)))) c.install_place-at.ensures
    ∙ ap (λ (what : List ℕ). name ++ (codes ".install: byte " ++ (decimal (install_place c.args.fault) ++ (codes ": " ++ what)))) c.install_text-what.ensures
    ∙ five name (codes ".install: byte ") (decimal (install_place c.args.fault)) (codes ": ") (install_text c.args.fault)
