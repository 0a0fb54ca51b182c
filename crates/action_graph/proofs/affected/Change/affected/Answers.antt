use Rattle.std.proofs.Common.{arith, ◌∙◌}
use Rattle.action_graph.specs.Found.{Marks}
use Rattle.action_graph.specs.Gathering.{gathered_marks}
use Rattle.action_graph.specs.Listing.{row}
use Rattle.action_graph.specs.Places.{IsIn}
use Rattle.action_graph.specs.Reach.{Reached}
use Rattle.action_graph.proofs.Affecting.{affects_ok, depends_within, starts_within}
use Rattle.action_graph.proofs.Gathering.{all_ok}
use Rattle.action_graph.proofs.affected.Change.affected.Goals as goal

pub reach-requires-clause-fit : goal.reach-requires-clause-fit
reach-requires-clause-fit c = depends_within c.args.self.now.installed.now c.args.self.now.members.now c.args.self.now.index.now.spots c.in_ok-rows.rows c.requires.suits c.in_ok-rows.ensures

pub reach-requires-clause-within : goal.reach-requires-clause-within
reach-requires-clause-within c = λ i below.
    let fits = starts_within c.args.self.now.installed.now c.args.self.now.members.now c.args.self.now.redo.now c.args.self.now.index.now.spots c.requires.suits c.as_slice.result.now c.in_ok-rows.rows (c.as_slice.ensures ∙ c.in_ok-starts.ensures) c.in_ok-rows.ensures i below in
    omega (arith, fits, c.len.ensures)

pub marks-requires : goal.marks-requires
marks-requires c =
    omega (arith, c.in_ok-rows.ensures.counted, c.len.ensures, c.in_ok-found.ensures.count, c.requires.suits.small)

pub returns : goal.returns
returns c =
    affects_ok c.args.self.now.installed.now c.args.self.now.members.now c.args.self.now.redo.now c.args.self.now.index.now.spots c.requires.suits c.in_ok-starts.starts c.as_slice.result.now c.in_ok-rows.rows c.len.result c.marks.result
    c.in_ok-starts.ensures c.as_slice.ensures c.in_ok-rows.ensures c.len.ensures
    (all_ok (Marks (Reached (IsIn c.as_slice.result.now) (λ from. IsIn (row c.in_ok-rows.rows from))) c.len.result) (gathered_marks c.in_ok-found.found) c.marks.result c.in_ok-found.ensures.marks c.marks.ensures)
