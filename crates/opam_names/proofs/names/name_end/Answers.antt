use Rattle.std.proofs.Common.{sym, ◌∙◌}
use Rattle.opam_names.proofs.Ends.{name_end_run, name_end_letter, name_end_none, run_reaches}
use Rattle.opam_names.specs.Names.{is_name_byte}
use Rattle.opam_names.proofs.names.name_end.Goals as goal

pub returns-then-run-lt-NAME_LIMIT : goal.returns-then-run-lt-NAME_LIMIT
returns-then-run-lt-NAME_LIMIT c = name_end_run c.args.bytes.now c.name_run-run.result c.name_run-run.ensures c.if-run-lt-NAME_LIMIT.true

pub slice_bounds-has_letter-end : goal.slice_bounds-has_letter-end
slice_bounds-has_letter-end c = sym (run_reaches is_name_byte c.args.bytes.now c.name_run-run.result c.name_run-run.ensures c.if-run-lt-NAME_LIMIT.false)

pub returns-then-has_letter : goal.returns-then-has_letter
returns-then-has_letter c = name_end_letter c.args.bytes.now c.name_run-run.result c.name_run-run.ensures c.if-run-lt-NAME_LIMIT.false (sym c.has_letter.ensures ∙ c.if-has_letter.true)

pub returns-else-has_letter : goal.returns-else-has_letter
returns-else-has_letter c = name_end_none c.args.bytes.now c.name_run-run.result c.name_run-run.ensures c.if-run-lt-NAME_LIMIT.false (sym c.has_letter.ensures ∙ c.if-has_letter.false)
