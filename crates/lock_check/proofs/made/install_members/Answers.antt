use Rattle.std.proofs.Common.{List, ◌++◌, ap, ◌∙◌}
use Rattle.opam_names.specs.declared.packages.Pkg.{Pkg}
use Rattle.lock_check.specs.Chased.{pkg_name, stay}
use Rattle.lock_check.specs.Made.{all_of}
use Rattle.lock_check.specs.Targets.{by_name}
use Rattle.lock_check.proofs.Ordered.{copies_differ, ok_on}
use Rattle.lock_check.proofs.Standing.{falls_never}
use Rattle.lock_check.proofs.made.install_members.Goals as goal

pub all_members-requires : goal.all_members-requires
all_members-requires c = falls_never pkg_name c.as_slice-bound.result.now c.args.sources.now.bound c.as_slice-bound.ensures c.requires.bound

pub sort_named-requires : goal.sort_named-requires
sort_named-requires c =
    copies_differ (all_of c.args.sources.now c.args.needed.now.keys c.args.installed.now c.args.known) c.in_ok-copies.copies
    (c.in_ok-copies.ensures ∙ ap (λ (pkgs : List Pkg). stay pkgs c.args.needed.now.keys c.args.installed.now ++ c.args.known) c.as_slice-bound.ensures) c.requires.differ

pub returns-clause-value : goal.returns-clause-value
returns-clause-value c =
    ok_on c.sort_named.result (λ sorted is.
    is ∙ ap by_name (c.in_ok-copies.ensures ∙ ap (λ (pkgs : List Pkg). stay pkgs c.args.needed.now.keys c.args.installed.now ++ c.args.known) c.as_slice-bound.ensures))
    c.sort_named.ensures.sorted
