use Rattle.lock_check.specs.Chased.{held_name, pkg_name}
use Rattle.lock_check.specs.Progressing.{chased_with}
use Rattle.lock_check.proofs.Standing.{falls_never, waits_within}
use Rattle.lock_check.proofs.progress.Progress.reach.Goals as goal

pub reach-requires-clause-bound : goal.reach-requires-clause-bound
reach-requires-clause-bound c = falls_never pkg_name c.as_slice.result.now c.args.sources.now.bound c.as_slice.ensures c.requires.stands.bound_rises

pub reach-requires-clause-installed : goal.reach-requires-clause-installed
reach-requires-clause-installed c = falls_never held_name c.as_slice-2.result.now c.args.sources.now.installed c.as_slice-2.ensures c.requires.stands.installed_rises

pub reach-requires-clause-within : goal.reach-requires-clause-within
reach-requires-clause-within c = waits_within (chased_with c.args.sources.now c.args.self.now) c.args.self.now.waiting.keys c.args.self.now.count c.requires.stands
