use Rattle.std.proofs.Common.{sym, ◌∙◌}
use Rattle.syntax_trees.proofs.WordsRead.{no_digit, much_too_large}
use Rattle.syntax_trees.proofs.words.small_number.Goals as goal

pub returns-then-not-is_digit : goal.returns-then-not-is_digit
returns-then-not-is_digit c =
    let l = c.loop-digit in
    sym (no_digit c.args.digits.now l.digit-index c.loop-digit-test.true (sym c.is_digit.ensures ∙ c.if-not-is_digit.true) l.invariant.1)

pub returns-then-number : goal.returns-then-number
returns-then-number c =
    let l = c.loop-digit in
    let h = c.loop-digit-test.true in
    sym (much_too_large c.args.digits.now l.digit-index l.number h c.if-number.true l.invariant.0)
