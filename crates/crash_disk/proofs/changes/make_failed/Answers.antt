use Rattle.crash_disk.proofs.changes.make_failed.Goals as goal

pub returns-in-Ok : goal.returns-in-Ok
returns-in-Ok c = c.failed_change.ensures c.args.path.now (c.requires c.in-Ok.change c.in-Ok.is)
