use Rattle.std.proofs.Common.{◌++◌, ◌∙◌, ap, ℕ, List}
use Rattle.std.specs.Prelude.{codes}
use Rattle.opam_names.specs.Packages.{pkg_text}
use Rattle.action_report.proofs.Texts.{five}
use Rattle.action_report.proofs.reasons.meets_text.Goals as goal

pub returns : goal.returns
returns c =
    c.in_ok-format.ensures.ok ∙ ap (λ (owner : List ℕ). c.args.path.now ++ (codes " clashes with " ++ (c.args.other.now ++ (codes " of " ++ owner)))) c.in_ok-owner.ensures
    ∙ five c.args.path.now (codes " clashes with ") c.args.other.now (codes " of ") (pkg_text c.args.owner.now)
