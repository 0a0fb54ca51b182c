use Rattle.std.proofs.Common.{◌∙◌}
use Rattle.opam_names.specs.ByteOrders.{has_key}
use Rattle.lock_check.proofs.Lookups.{found_none, found_some, got}
use Rattle.lock_check.proofs.held.found_at.Goals as goal

pub returns-in-None : goal.returns-in-None
returns-in-None g c = found_none (has_key g.T.ByteKey.key c.args.key.now) c.args.items.now c.find_by_bytes.result c.find_by_bytes.ensures c.in-None.is

pub returns-in-Some : goal.returns-in-Some
returns-in-Some g c =
    got c.args.items.now c.in-Some.place c.get.result c.get.ensures.lookup.0 c.get.ensures.lookup.1
    ∙ found_some (has_key g.T.ByteKey.key c.args.key.now) c.args.items.now c.find_by_bytes.result c.in-Some.place c.find_by_bytes.ensures c.in-Some.is
