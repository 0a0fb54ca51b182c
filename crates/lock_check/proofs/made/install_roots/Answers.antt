use Rattle.std.proofs.Common.{List, ℕ, ◌++◌, filter, ap, ◌∙◌}
use Rattle.opam_names.specs.ByteOrders.{each_once}
use Rattle.opam_names.specs.declared.packages.Pkg.{Pkg}
use Rattle.lock_check.specs.Chased.{starts}
use Rattle.lock_check.specs.Targets.{has_member}
use Rattle.lock_check.proofs.Ordered.{ok_on, pkgs_never_fall}
use Rattle.lock_check.proofs.Removed.{found_among}
use Rattle.lock_check.proofs.made.install_roots.Goals as goal

pub roots_with-requires : goal.roots_with-requires
roots_with-requires c = pkgs_never_fall c.args.members.now c.as_slice-3.result.now c.requires (c.as_slice-3.ensures ∙ c.in_ok-set.ensures)

pub returns : goal.returns
returns c =
    ok_on c.roots_with.result (λ names is.
    is
    ∙ ap each_once (ap (λ (xs : List (List ℕ)). xs ++ c.in_ok-starts.starts) (found_among c.args.members.now c.as_slice-3.result.now c.args.roots.now (c.as_slice-3.ensures ∙ c.in_ok-set.ensures))
    ∙ ap (λ (xs : List (List ℕ)). filter (has_member c.args.members.now) c.args.roots.now ++ xs)
    (c.in_ok-starts.ensures ∙ ap (λ (pkgs : List Pkg). starts pkgs c.as_slice-2.result.now) c.as_slice.ensures ∙ ap (λ (xs : List (List ℕ)). starts c.args.sources.now.bound xs) c.as_slice-2.ensures)))
    c.roots_with.ensures
