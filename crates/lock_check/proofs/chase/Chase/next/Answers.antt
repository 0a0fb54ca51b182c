use Rattle.std.proofs.Common.{List, sym, ap, ◌∙◌}
use Rattle.opam_names.specs.declared.packages.Pkg.{Pkg}
use Rattle.lock_check.specs.Chased.{bound_to, next_of, pkg_name}
use Rattle.lock_check.specs.Progressing.{chased_with}
use Rattle.lock_check.proofs.Names.{same_test}
use Rattle.lock_check.proofs.Standing.{falls_never, next_none, next_some, none_keys}
use Rattle.lock_check.proofs.chase.Chase.next.Goals as goal

pub bound_at-requires : goal.bound_at-requires
bound_at-requires c = falls_never pkg_name c.as_slice.result.now c.self.inside.sources.bound c.as_slice.ensures c.self.invariant.bound_rises

pub returns-in-None-clause-next : goal.returns-in-None-clause-next
returns-in-None-clause-next c =
    next_none (chased_with c.self.inside.sources c.self.inside.progress) c.self.inside.progress.waiting.keys c.self.inside.progress.count c.self.invariant
    (none_keys c.self.inside.progress.waiting.keys c.in-None.ensures.variant.1)
    ∙ ap next_of c.self.view_is

pub returns-in-Some-clause-next : goal.returns-in-Some-clause-next
returns-in-Some-clause-next c =
    c.bound_at.ensures ∙ ap (λ (pkgs : List Pkg). bound_to pkgs c.in-Some.name.now) c.as_slice.ensures
    ∙ next_some (chased_with c.self.inside.sources c.self.inside.progress) c.self.inside.progress.waiting.keys c.self.inside.progress.count c.in-Some.name.now c.self.invariant
    (sym (same_test c.in-Some.name.now c.self.inside.progress.waiting.keys) ∙ c.in-Some.ensures.member)
    (λ other at. c.in-Some.ensures.least other (same_test other c.self.inside.progress.waiting.keys ∙ at))
    ∙ ap next_of c.self.view_is
