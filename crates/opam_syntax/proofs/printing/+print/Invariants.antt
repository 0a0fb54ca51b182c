use Rattle.std.proofs.Common.{◌≡◌, ◌++◌, drop, map}
use Rattle.opam_syntax.specs.Spelling.{joined_by, value_text}
use Rattle.opam_syntax.proofs.PrintJoined.{followed}
use Rattle.opam_syntax.proofs.printing.+print.Given as goal

-- what is printed, and then what is left
abbrev pub invariant-print_joined-loop-node : goal.invariant-print_joined-loop-node
invariant-print_joined-loop-node l =
    l.out.items ++ followed l.between (map value_text (drop l.node-index l.more)) ≡ l.fn.out.items ++ joined_by l.between (map value_text l.nodes)
