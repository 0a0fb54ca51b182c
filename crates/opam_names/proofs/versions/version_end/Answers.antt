use Rattle.opam_names.proofs.Ends.{version_end_run, version_end_full}
use Rattle.opam_names.proofs.versions.version_end.Goals as goal

pub returns-then-run-lt-VERSION_LIMIT : goal.returns-then-run-lt-VERSION_LIMIT
returns-then-run-lt-VERSION_LIMIT c = version_end_run c.args.bytes.now c.version_run-run.result c.version_run-run.ensures c.if-run-lt-VERSION_LIMIT.true

pub returns-else-run-lt-VERSION_LIMIT : goal.returns-else-run-lt-VERSION_LIMIT
returns-else-run-lt-VERSION_LIMIT c = version_end_full c.args.bytes.now c.version_run-run.result c.version_run-run.ensures c.if-run-lt-VERSION_LIMIT.false
