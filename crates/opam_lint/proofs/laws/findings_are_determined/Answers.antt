use Rattle.std.proofs.Common.{ap, ◌∙◌}
use Rattle.syntax_trees.specs.Trees.{items_of}
use Rattle.opam_lint.specs.Findings.{file_findings}
use Rattle.opam_lint.proofs.laws.findings_are_determined.Goals as goal

pub returns : goal.returns
returns c = λ bytes one other text same.
    let both = c.one_tree_for_bytes.ensures bytes one other text same in
    ap (λ items. file_findings items one.places) both.0 ∙ ap (λ places. file_findings (items_of other) places) both.1
