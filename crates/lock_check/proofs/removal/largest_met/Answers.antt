use Rattle.std.proofs.Common.{ap, refl, ◌∙◌}
use Rattle.lock_check.specs.Targets.{by_name}
use Rattle.lock_check.specs.Violations.{pkgs_of}
use Rattle.lock_check.proofs.Ordered.{ok_both, sorted_rise}
use Rattle.lock_check.proofs.Passing.{largest_left}
use Rattle.lock_check.proofs.removal.largest_met.Goals as goal

pub settle-requires : goal.settle-requires
settle-requires c = sorted_rise c.order_is_stable.ensures.rising c.args.members.now c.in_ok-set.set.items c.in_ok-set.ensures c.requires

pub returns : goal.returns
returns c =
    ok_both c.sort_members.result (λ sorted is rises.
    largest_left c.holding_is_monotone.ensures c.args.members.now (pkgs_of c.args.members.now) c.in_ok-set.set.items c.settle.new.set.items c.in_ok-pass.pass sorted c.requires
    refl c.in_ok-set.ensures c.in_ok-pass.ensures.judges c.in_ok-pass.ensures.quiet (is ∙ ap by_name c.as_slice.ensures) rises)
    c.sort_members.ensures.sorted c.sort_members.ensures.rises
