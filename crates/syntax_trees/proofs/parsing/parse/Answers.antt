use Rattle.std.proofs.Common.{◌∙◌, ap, arith}
use Rattle.syntax_trees.specs.Read.{entry_of, placed_tokens, read_entries}
use Rattle.syntax_trees.proofs.ParsedEntries.{entries_end, entries_listed, entries_refused, entries_step, none_left, none_shallow, some_left}
use Rattle.syntax_trees.proofs.parsing.parse.Goals as goal

pub returns-in_err-next-clause-refused : goal.returns-in_err-next-clause-refused
returns-in_err-next-clause-refused c =
    none_shallow (placed_tokens c.args.tokens.items) _ c.from_residual.result c.in_err-next.field-0.0 c.from_residual.ensures.1
    (λ k. entries_refused (placed_tokens c.args.tokens.items) (read_entries c.loop-alloc.entries.items) c.loop-alloc.left c.loop-alloc.invariant
    (some_left c.loop-alloc.left (omega (arith, c.loop-alloc-test.true, c.len.ensures))) (c.in_err-next.ensures.read k))

pub loop-alloc-preserved : goal.loop-alloc-preserved
loop-alloc-preserved c =
    entries_step (placed_tokens c.args.tokens.items) (read_entries c.loop-alloc.entries.items) c.loop-alloc.left (entry_of c.in_ok-next.next)
    c.entry.new.tokens (read_entries c.push.new.self.items) c.loop-alloc.invariant c.in_ok-next.ensures.read
    (ap read_entries c.in_ok-push.ensures.items ∙ entries_listed c.loop-alloc.entries.items c.in_ok-next.next)

pub returns-clause-spelled : goal.returns-clause-spelled
returns-clause-spelled c =
    entries_end (placed_tokens c.args.tokens.items) (read_entries c.loop-alloc.entries.items) c.loop-alloc.left c.loop-alloc.invariant
    (none_left c.loop-alloc.left (omega (arith, c.loop-alloc-test.false, c.len.ensures)))
