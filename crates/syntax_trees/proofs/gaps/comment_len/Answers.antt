use Rattle.std.proofs.Common.{sym, ◌∙◌}
use Rattle.syntax_trees.proofs.GapsRead.{comment_found}
use Rattle.syntax_trees.proofs.gaps.comment_len.Goals as goal

pub returns-then-begins_at-clause-after : goal.returns-then-begins_at-clause-after
returns-then-begins_at-clause-after c = comment_found c.args.bytes.now c.loop-at.at c.loop-at-test.true c.if-byte-eq42.true (sym c.begins_at.ensures ∙ c.if-begins_at.true) c.loop-at.invariant
