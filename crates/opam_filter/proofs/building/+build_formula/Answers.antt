use Rattle.std.proofs.Common.{ap, rules}
use Rattle.syntax_trees.specs.declared.tree.Value.{the_lemmas}
use Rattle.opam_filter.specs.Faults.{Judged}
use Rattle.opam_filter.specs.Trees.{read}
use Rattle.opam_filter.proofs.Built.{name_before, formula_of_none, formula_of_several, next_sound, read_lone, as_well}
use Rattle.opam_filter.proofs.building.+build_formula.Goals as goal

pub build_formula-build_name_of-requires : goal.build_formula-build_name_of-requires
build_formula-build_name_of-requires t c = name_before c.args.node.now c.in-Braced.before c.get.result.now c.in-Braced.nodes c.in-Braced.is c.requires c.get.ensures

pub build_formula-returns-in-empty : goal.build_formula-returns-in-empty
build_formula-returns-in-empty t c =
    formula_of_none c.args.node.now c.in-Group.nodes c.as_slice-in-Group.result.now c.new-in-empty.result c.in-Group.is c.as_slice-in-Group.ensures c.in-empty.len_below c.new-in-empty.ensures

pub build_formula-returns-in-len1 : goal.build_formula-returns-in-len1
build_formula-returns-in-len1 t c =
    as_well c.build_formula.result (read c.args.node.now).formula (read c.only-item.result).formula
    (ap (λ r. r.formula) (read_lone c.args.node.now c.only-item.result c.in-Group.nodes c.as_slice-in-Group.result.now c.in-Group.is c.as_slice-in-Group.ensures c.in-len1.len_at_least c.in-len1.len_below c.only-item.is))
    c.build_formula.ensures

pub build_formula-returns-in_ok-build_formulas-in_default-as_slice : goal.build_formula-returns-in_ok-build_formulas-in_default-as_slice
build_formula-returns-in_ok-build_formulas-in_default-as_slice t c =
    let built = c.in_ok-build_formulas-in_default-as_slice in
    formula_of_several c.args.node.now c.in-Group.nodes c.as_slice-in-Group.result.now built.field-0 c.in-Group.is c.as_slice-in-Group.ensures c.in_default-as_slice.len_at_least built.ensures

pub build_formulas-build_formula-requires : goal.build_formulas-build_formula-requires
build_formulas-build_formula-requires t c =
    (search (rules, the_lemmas), next_sound (λ (j : Judged). j.formula) c.args.nodes.now c.loop-node.node-index c.node-item.result c.loop-node-test.true c.node-item.is c.loop-node.invariant.sound)
