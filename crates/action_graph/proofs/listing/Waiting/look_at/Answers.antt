use Rattle.action_graph.proofs.Turning.{row_within}
use Rattle.std.proofs.Common.{length}
use Rattle.action_graph.proofs.listing.Waiting.look_at.Goals as goal

pub first_open-open-requires-clause-within : goal.first_open-open-requires-clause-within
first_open-open-requires-clause-within c =
    row_within c.args.needs.now c.args.place (length c.args.wanted.now) c.row-row.result.now c.row-row.ensures c.requires.within
