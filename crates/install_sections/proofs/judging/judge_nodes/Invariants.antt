use Rattle.std.proofs.Common.{◌≡◌, drop, fold, map}
use Rattle.install_sections.specs.Judgements.{with_verdict}
use Rattle.install_sections.specs.Verdicts.{verdict}
use Rattle.install_sections.proofs.judging.judge_nodes.Given as goal

-- what is known so far, and then the items that are left
abbrev pub invariant-loop-node : goal.invariant-loop-node
invariant-loop-node l =
    fold with_verdict l.all (map (verdict l.section l.name) (drop l.node-index l.nodes))
    ≡ fold with_verdict l.initial.all (map (verdict l.section l.name) l.nodes)
