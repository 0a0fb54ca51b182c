use Rattle.std.proofs.Common.{List, ◌+◌, ◌∙◌, sym, subst}
use Rattle.opam_names.specs.ByteOrders.{put_by}
use Rattle.owner_map.specs.Owning.{owned_by, path_of}
use Rattle.owner_map.specs.declared.owned.OwnedPath.{OwnedPath}
use Rattle.switch_journal.proofs.Coming.{ComesFrom, comes_next, next_at}
use Rattle.switch_journal.proofs.changes.with_files.Goals as goal

pub loop-file-preserved : goal.loop-file-preserved
loop-file-preserved c =
    let files = c.args.files.now in
    let i = c.loop-file.file-index in
    let P : List OwnedPath → Type 0 = λ owned. ComesFrom c.args.pkg.now c.args.owners.owned files (i + 1) owned c.add.new.self.spare in
    subst P (sym (c.add.ensures.owned ∙ (λ j. put_by path_of (owned_by (c.in_ok-copy.ensures j) (c.in_ok-copy-2.ensures j)) c.loop-file.owners.owned)))
    (comes_next c.additions_are_met.ensures c.args.pkg.now c.args.owners.owned c.loop-file.owners.owned files i c.loop-file.owners.spare c.add.new.self.spare c.file-item.result
    (next_at files i c.file-item.result c.loop-file-test.true c.file-item.is) c.add.ensures.spare c.loop-file.invariant)
