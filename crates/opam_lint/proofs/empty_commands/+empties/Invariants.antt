use Rattle.std.proofs.Common.{◌≡◌, ◌++◌, drop}
use Rattle.std.specs.List.{flat_map}
use Rattle.opam_lint.specs.EmptyCommands.{empties}
use Rattle.opam_lint.proofs.empty_commands.+empties.Given as goal

-- what is found, and then what is left
abbrev pub invariant-add_all-loop-node : goal.invariant-add_all-loop-node
invariant-add_all-loop-node l = l.findings.items ++ flat_map empties (drop l.node-index l.nodes) ≡ l.fn.findings.items ++ flat_map empties l.nodes
