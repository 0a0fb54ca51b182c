use Rattle.std.proofs.Common.{List, ℕ, ◌++◌, map, sym, ap, ◌∙◌, subst}
use Rattle.opam_names.specs.ByteOrders.{NeverFallsBy, in_order_by}
use Rattle.opam_names.specs.declared.packages.Pkg.{Pkg}
use Rattle.opam_package.specs.declared.package.Member.{Member}
use Rattle.lock_check.specs.Chased.{pkg_name, told_unbounds, told_unknown}
use Rattle.lock_check.specs.Violations.{pkgs_of, violation_name, violations_among}
use Rattle.lock_check.specs.declared.violation.Violation.{Violation}
use Rattle.lock_check.proofs.Ordered.{pkgs_rise}
use Rattle.lock_check.proofs.Standing.{falls_never}
use Rattle.lock_check.proofs.made.install_told.Goals as goal

pub tell_unknown-requires : goal.tell_unknown-requires
tell_unknown-requires c = falls_never pkg_name c.as_slice-bound.result.now c.args.sources.now.bound c.as_slice-bound.ensures c.requires.bound

pub tell_members-requires-clause-rises : goal.tell_members-requires-clause-rises
tell_members-requires-clause-rises c =
    pkgs_rise c.args.target.now.members c.as_slice-2.result.now c.requires.rises (c.as_slice-2.ensures ∙ c.in_ok-set.ensures ∙ ap pkgs_of c.as_slice-members.ensures)

pub tell_members-requires-clause-fresh : goal.tell_members-requires-clause-fresh
tell_members-requires-clause-fresh c =
    let P : List (List ℕ) → Type 0 = λ xs. NeverFallsBy (λ name. name) xs in subst P (sym c.as_slice-3.ensures) c.requires.order

pub returns : goal.returns
returns c =
    c.in_ok-sort_by_bytes.ensures.ok
    ∙ ap (in_order_by violation_name)
    (c.in_ok-tell_members.ensures
    ∙ ap (λ (told : List Violation). told ++ violations_among c.as_slice-members.result.now c.as_slice-3.result.now)
    (c.in_ok-told.ensures ∙ ap (λ (pkgs : List Pkg). told_unbounds pkgs c.as_slice.result.now ++ map told_unknown c.args.unknown) c.as_slice-bound.ensures
    ∙ ap (λ (xs : List (List ℕ)). told_unbounds c.args.sources.now.bound xs ++ map told_unknown c.args.unknown) c.as_slice.ensures)
    ∙ ap (λ (members : List Member). (told_unbounds c.args.sources.now.bound c.args.sources.now.asked ++ map told_unknown c.args.unknown) ++ violations_among members c.as_slice-3.result.now) c.as_slice-members.ensures
    ∙ ap (λ (xs : List (List ℕ)). (told_unbounds c.args.sources.now.bound c.args.sources.now.asked ++ map told_unknown c.args.unknown) ++ violations_among c.args.target.now.members xs) c.as_slice-3.ensures)
