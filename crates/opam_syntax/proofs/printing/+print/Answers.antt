use Rattle.opam_syntax.proofs.PrintJoined.{first_is_printed}
use Rattle.opam_syntax.proofs.printing.+print.Goals as goal

pub print_joined-loop-node-init : goal.print_joined-loop-node-init
print_joined-loop-node-init t c =
    first_is_printed c.args.between.now c.args.out.now.items c.print_value.new.out.items c.args.nodes.now c.first-item.result c.in-len1-up.len_at_least c.first-item.is c.in_ok-print_value.ensures
