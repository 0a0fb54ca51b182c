use Rattle.std.proofs.Common.{rules, ap, arith}
use Rattle.syntax_trees.specs.declared.tree.Value.{the_lemmas}
use Rattle.opam_filter.specs.Trees.{read}
use Rattle.opam_filter.proofs.Built.{left_of, right_of, lone_filter, no_other_filter, read_lone, as_well}
use Rattle.opam_filter.proofs.building.+build_filter.Goals as goal

pub build_filter-build_boxed-requires-in-Rel : goal.build_filter-build_boxed-requires-in-Rel
build_filter-build_boxed-requires-in-Rel t c =
    (search (rules, the_lemmas), left_of c.args.node.now c.in-Rel.left c.in-Rel.right c.get-in-Rel.result.now c.in-Rel.op c.in-Rel.is c.requires c.get-in-Rel.ensures)

pub build_filter-build_boxed-requires-in-Rel-2 : goal.build_filter-build_boxed-requires-in-Rel-2
build_filter-build_boxed-requires-in-Rel-2 t c =
    (search (rules, the_lemmas), right_of c.args.node.now c.in-Rel.left c.in-Rel.right c.get-in-Rel-2.result.now c.in-Rel.op c.in-Rel.is c.requires c.get-in-Rel-2.ensures)

pub build_filter-unreachable-requires-in_default : goal.build_filter-unreachable-requires-in_default
build_filter-unreachable-requires-in_default t c =
    let d = c.in_default in
    no_other_filter c.args.node.now c.requires d.not-Flag d.not-Text d.not-Ident d.not-Group d.not-Not d.not-Defined d.not-Rel d.not-And d.not-Or

pub build_filter-returns-in-len1 : goal.build_filter-returns-in-len1
build_filter-returns-in-len1 t c =
    as_well c.build_filter.result (read c.args.node.now).filter (read c.only-item.result).filter
    (ap (λ r. r.filter) (read_lone c.args.node.now c.only-item.result c.in-Group.nodes c.as_slice-in-Group.result.now c.in-Group.is c.as_slice-in-Group.ensures c.in-len1.len_at_least c.in-len1.len_below c.only-item.is))
    c.build_filter.ensures

pub build_filter-unreachable-requires : goal.build_filter-unreachable-requires
build_filter-unreachable-requires t c =
    let one = lone_filter c.args.node.now c.in-Group.nodes c.as_slice-in-Group.result.now c.in-Group.is c.as_slice-in-Group.ensures c.requires in
    grind arith
