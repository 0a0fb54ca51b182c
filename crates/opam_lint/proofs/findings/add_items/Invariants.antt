use Rattle.std.proofs.Common.{◌≡◌, ◌++◌}
use Rattle.syntax_trees.specs.Trees.{items_of}
use Rattle.opam_lint.specs.Findings.{items_findings}
use Rattle.opam_lint.proofs.Told.{told}
use Rattle.opam_lint.proofs.findings.add_items.Given as goal

-- what is found, and then what is left
abbrev pub invariant-loop-key : goal.invariant-loop-key
invariant-loop-key l =
    l.findings.items ++ items_findings (told l.key-iterator) l.places ≡ l.fn.findings.items ++ items_findings (items_of l.file) l.file.places
