use Rattle.std.proofs.Common.{◌++◌, [], ◌∷◌, List, ap, ◌∙◌}
use Rattle.opam_names.specs.declared.packages.Pkg.{Pkg}
use Rattle.outside_io.specs.declared.workshop.Fate.{Fate}
use Rattle.opam_top.proofs.Progressed.{few_commands}
use Rattle.opam_top.proofs.change.hear.Goals as goal

pub fate_by-requires-clause-steps : goal.fate_by-requires-clause-steps
fate_by-requires-clause-steps g c = few_commands c.args.member.now c.in_ok-copy.field-0 c.requires.short (c.in_ok-copy.ensures ∙ c.in_ok-job.ensures)

pub returns-clause-heard : goal.returns-clause-heard
returns-clause-heard g c =
    c.push_reserved.ensures.items
    ∙ ap (λ (l : List (Pkg × Fate)). l ++ (c.in_ok-pkg.pkg, c.in_ok-fate.fate) ∷ []) c.reserve.ensures.items
    ∙ ap (λ (p : Pkg). c.args.progress.now.heard.items ++ (p, c.in_ok-fate.fate) ∷ []) c.in_ok-pkg.ensures
