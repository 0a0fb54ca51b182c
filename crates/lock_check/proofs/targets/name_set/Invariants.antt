use Rattle.std.proofs.Common.{◌≡◌, drop, fold}
use Rattle.opam_names.specs.ByteOrders.{each_once}
use Rattle.opam_filter.specs.NameSets.{with_name}
use Rattle.lock_check.proofs.targets.name_set.Given as goal

-- those so far, and then those that are left
abbrev pub invariant-loop-name : goal.invariant-loop-name
invariant-loop-name l = fold with_name l.set.keys (drop l.name-index l.names) ≡ each_once l.names
