use Rattle.std.proofs.Common.{◌∙◌}
use Rattle.lock_check.specs.Chased.{held_name, pkg_name}
use Rattle.lock_check.proofs.Standing.{begun_with, falls_never, none_within, rises_at, stands_begun}
use Rattle.lock_check.proofs.progress.first_progress.Goals as goal

pub reach-requires-clause-bound : goal.reach-requires-clause-bound
reach-requires-clause-bound c = falls_never pkg_name c.as_slice-bound.result.now c.args.sources.now.bound c.as_slice-bound.ensures c.requires.bound

pub reach-requires-clause-installed : goal.reach-requires-clause-installed
reach-requires-clause-installed c = falls_never held_name c.as_slice-held.result.now c.args.sources.now.installed c.as_slice-held.ensures c.requires.held

pub reach-requires-clause-within : goal.reach-requires-clause-within
reach-requires-clause-within c = none_within c.new-waiting.result.keys c.new-needed.result.keys c.new-waiting.ensures.empty

pub count_new-count-requires : goal.count_new-count-requires
count_new-count-requires c = falls_never held_name c.as_slice-held.result.now c.args.sources.now.installed c.as_slice-held.ensures c.requires.held

pub returns-clause-stands : goal.returns-clause-stands
returns-clause-stands c =
    begun_with c.args.sources.now.installed c.as_slice-held.result.now c.args.sources.now.bound c.as_slice-bound.result.now c.args.sources.now.asked c.as_slice.result.now
    c.reach.new.needed.keys c.reach.new.waiting.keys _ _ c.count_new-count.result c.as_slice-held.ensures c.as_slice-bound.ensures c.as_slice.ensures c.new.ensures c.new-2.ensures
    (stands_begun c.texts_rise.ensures c.rising_is_kept.ensures.members c.as_slice-bound.result.now c.as_slice-held.result.now c.as_slice.result.now c.as_slice-2.result.now
    c.new-needed.result.keys c.new-waiting.result.keys c.reach.new.needed.keys c.reach.new.waiting.keys c.in_ok-fresh.fresh c.as_slice-3.result.now c.small_len.result c.count_new-count.result
    (rises_at pkg_name c.as_slice-bound.result.now c.args.sources.now.bound c.as_slice-bound.ensures c.requires.bound)
    (rises_at held_name c.as_slice-held.result.now c.args.sources.now.installed c.as_slice-held.ensures c.requires.held)
    (c.as_slice-2.ensures ∙ c.in_ok-starts.ensures) c.new-needed.ensures.empty c.new-waiting.ensures.empty c.in_ok-fresh.ensures.ok c.in_ok-fresh.ensures.awaits
    c.small_len.ensures c.count_new-count.ensures c.as_slice-3.ensures)
