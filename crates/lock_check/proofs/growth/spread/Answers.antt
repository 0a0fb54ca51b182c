use Rattle.std.proofs.Common.{◌≡◌, ◌<◌, ℕ, List, length, get_or, map, sym, ap, ◌∙◌, arith}
use Rattle.lock_check.specs.Chased.{bound_to, is_among, pkg_name}
use Rattle.lock_check.specs.Growth.{held_names, led_to}
use Rattle.lock_check.proofs.Among.{grows_on}
use Rattle.lock_check.proofs.Growing.{all_bound, shorter, spreading_first, spreading_last, spreading_next}
use Rattle.lock_check.proofs.Ordered.{on_err}
use Rattle.lock_check.proofs.growth.spread.Goals as goal

pub returns-in_err-add_all-clause-err : goal.returns-in_err-add_all-clause-err
returns-in_err-add_all-clause-err c =
    on_err c.from_residual-in_err-add_all.result
    (grows_on c.args.needed.now.keys c.args.fresh.now c.loop-done.needed.keys c.loop-done.fresh c.add_all.new.needed.keys c.add_all.new.fresh
    c.loop-done.invariant.grows c.in_err-add_all.ensures.err)

pub loop-done-init : goal.loop-done-init
loop-done-init c = spreading_first (led_to c.args.bound.now c.args.installed.now) c.args.needed.now.keys c.args.fresh.now

pub loop-done-smaller : goal.loop-done-smaller
loop-done-smaller c =
    let below : c.loop-done.done < length c.loop-done.fresh = omega (arith, c.loop-done-test.true, c.len.ensures) in
    let names_are : c.as_slice-in-loop-done.result.now ≡ led_to c.args.bound.now c.args.installed.now c.index-as_slice-done.result =
    c.as_slice-in-loop-done.ensures ∙ c.in_ok-names.ensures in
    shorter (map pkg_name c.args.bound.now) c.as_slice-in-loop-done.result.now c.loop-done.needed.keys c.loop-done.fresh c.add_all.new.needed.keys c.add_all.new.fresh c.loop-done.done
    c.in_ok-add_all.ensures.ok
    (λ name is. all_bound c.args.bound.now (held_names c.args.installed.now (bound_to c.args.bound.now c.index-as_slice-done.result)) name (ap (λ (xs : List (List ℕ)). is_among xs name) (sym names_are) ∙ is))
    below

pub loop-done-preserved : goal.loop-done-preserved
loop-done-preserved c =
    spreading_next (led_to c.args.bound.now c.args.installed.now) c.args.needed.now.keys c.args.fresh.now c.loop-done.needed.keys c.loop-done.fresh c.add_all.new.needed.keys c.add_all.new.fresh
    c.as_slice-in-loop-done.result.now c.loop-done.done c.index-as_slice-done.result c.loop-done.invariant
    (omega (arith, c.loop-done-test.true, c.len.ensures))
    (c.index-as_slice-done.is ∙ ap (λ (xs : List (List ℕ)). get_or xs c.loop-done.done c.index-as_slice-done.result) c.as_slice.ensures)
    (c.as_slice-in-loop-done.ensures ∙ c.in_ok-names.ensures) c.in_ok-add_all.ensures.ok

pub returns : goal.returns
returns c = record {
  ok = spreading_last (led_to c.args.bound.now c.args.installed.now) c.args.needed.now.keys c.args.fresh.now c.loop-done.needed.keys c.loop-done.fresh c.loop-done.done c.loop-done.invariant
      (omega (arith, c.loop-done-test.false, c.len.ensures));
  err = tt;
}
