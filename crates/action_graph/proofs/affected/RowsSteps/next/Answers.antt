use Rattle.action_graph.proofs.Affecting.{row_ok}
use Rattle.action_graph.proofs.affected.RowsSteps.next.Goals as goal

pub returns-clause-within : goal.returns-clause-within
returns-clause-within c = row_ok c.args.self.now c.args.from c.row.result.now c.from_slice.result c.requires.fit c.row.ensures c.from_slice.ensures
