use Rattle.std.proofs.Common.{sym}
use Rattle.change_floor.proofs.Turning.{rows_set}
use Rattle.change_floor.proofs.rows.Rows.add.Goals as goal

pub returns : goal.returns
returns c =
    rows_set (λ v. v.items) c.self.inside.inner.items c.args.self.now c.args.place c.args.dependent c.index_mut.result.now c.push.new.self
    (sym c.self.view_is) c.requires c.index_mut.ensures.value c.in_ok-push.ensures.items
