use Rattle.std.proofs.Common.{◌∙◌, sym}
use Rattle.opam_top.specs.Owners.{owners_of}
use Rattle.opam_top.proofs.Clashes.{clash_at_bin}
use Rattle.opam_top.proofs.Owned.{owned_in_bin}
use Rattle.opam_top.proofs.placing.first_in_the_way.Goals as goal

pub returns-then-branch-clause-told : goal.returns-then-branch-clause-told
returns-then-branch-clause-told g c = λ s told.
    clash_at_bin s.files (owners_of c.args.owners.now) c.args.pkg.now c.args.files.now c.first-item.result c.in_ok-barred.field-0
    (owned_in_bin c.args.owners.now c.requires.owned) (sym (c.in_ok-is_bin_a_file.ensures.told s told) ∙ c.if-branch.true) c.requires.paths c.in-len1-up.len_at_least c.first-item.is c.in_ok-barred.ensures
