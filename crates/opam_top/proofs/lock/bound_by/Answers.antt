use Rattle.std.proofs.Common.{◌≤◌, List, length, Option, Some, sym, ◌∙◌, ap}
use Rattle.std.specs.Prelude.{IfSome}
use Rattle.opam_names.specs.declared.packages.Pkg.{Pkg}
use Rattle.opam_top.specs.Locks.{bound_as_spelled, read_lock, read_pkgs}
use Rattle.opam_top.proofs.NameOrders.{few_are_bound}
use Rattle.opam_top.proofs.PkgTexts.{bound_by_pkgs, few_result, same_result}
use Rattle.opam_top.proofs.lock.bound_by.Goals as goal

pub returns-clause-read : goal.returns-clause-read
returns-clause-read c =
    let bytes = c.args.bytes.now in
    let found = sym c.in-Some.is ∙ c.in_ok-pkgs_of.ensures ∙ ap read_pkgs (c.as_slice.ensures ∙ c.in_ok-texts.ensures) in
    same_result c.bound_as_spelled.result (bound_as_spelled bytes (Some c.in-Some.pkgs)) (read_lock bytes) (bound_by_pkgs bytes (Some c.in-Some.pkgs) (sym c.is_empty.ensures ∙ c.if-is_empty.false) found) c.bound_as_spelled.ensures

pub returns-clause-few : goal.returns-clause-few
returns-clause-few c =
    let bytes = c.args.bytes.now in
    let few : Option (List Pkg) → Type 0 = λ bound. IfSome bound (λ pkgs. length pkgs ≤ 64) in
    few_result c.bound_as_spelled.result few (read_lock bytes) (few_are_bound bytes) (returns-clause-read c)
