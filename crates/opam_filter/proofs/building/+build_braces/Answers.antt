use Rattle.std.proofs.Common.{ap, arith}
use Rattle.opam_filter.specs.Trees.{read}
use Rattle.opam_filter.proofs.Built.{lone_braces, read_lone, as_well}
use Rattle.opam_filter.proofs.Unconstrained.{filter_in_braces}
use Rattle.opam_filter.proofs.building.+build_braces.Goals as goal

pub build_braces-build_filter-requires-in_default : goal.build_braces-build_filter-requires-in_default
build_braces-build_filter-requires-in_default t c = filter_in_braces c.args.node.now c.requires c.in_default.not-Group c.in_default.not-PreRel c.in_default.not-And c.in_default.not-Or

pub build_braces-unreachable-requires : goal.build_braces-unreachable-requires
build_braces-unreachable-requires t c =
    let one = lone_braces c.args.node.now c.in-Group.nodes c.as_slice-in-Group.result.now c.in-Group.is c.as_slice-in-Group.ensures c.requires in
    grind arith

pub build_braces-returns-in-len1 : goal.build_braces-returns-in-len1
build_braces-returns-in-len1 t c =
    as_well c.build_braces.result (read c.args.node.now).braces (read c.only-item.result).braces
    (ap (λ r. r.braces) (read_lone c.args.node.now c.only-item.result c.in-Group.nodes c.as_slice-in-Group.result.now c.in-Group.is c.as_slice-in-Group.ensures c.in-len1.len_at_least c.in-len1.len_below c.only-item.is))
    c.build_braces.ensures
