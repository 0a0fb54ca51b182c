use Rattle.std.proofs.Common.{rules, ap, ◌∙◌}
use Rattle.std.specs.Cmp.Lexicographic.{slice_cmp}
use Rattle.std.specs.Ordering.{nat_cmp}
use Rattle.std.proofs.lemmas.Fn.{always_returns_same}
use Rattle.opam_names.specs.declared.packages.Pkg.{Pkg}
use Rattle.opam_filter.specs.Reductions.{is_met}
use Rattle.opam_filter.proofs.Searching.{found, missed}
use Rattle.opam_filter.proofs.meeting.is_met_in.Goals as goal

pub returns-in-Ok : goal.returns-in-Ok
returns-in-Ok c =
    let facts = c.in-Ok.ensures in
    let by_name = facts.position (λ (pkg : Pkg). slice_cmp nat_cmp pkg.name c.args.name.now) (always_returns_same _ _ _ (λ a r g called. (search rules, search rules))) in
    let e = found c.args.set.now c.args.name.now c.args.test.now c.in-Ok.at c.index-set-at.result c.requires facts.bound (by_name c.index-set-at.result) in
    c.is_met.ensures ∙ ap (is_met c.args.test.now) c.as_str.ensures.value ∙ e

pub returns-in-Err : goal.returns-in-Err
returns-in-Err c =
    let facts = c.in-Err.ensures in
    let by_name = facts.position (λ (pkg : Pkg). slice_cmp nat_cmp pkg.name c.args.name.now) (always_returns_same _ _ _ (λ a r g called. (search rules, search rules))) in
    missed c.args.set.now c.args.name.now c.args.test.now c.in-Err.field-0 c.requires by_name
