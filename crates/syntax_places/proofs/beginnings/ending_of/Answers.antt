use Rattle.std.proofs.Common.{false, List, ℕ, ◌++◌, subst, arith, ap}
use Rattle.syntax_trees.specs.Following.{at_entry}
use Rattle.syntax_faults.specs.Endings.{TokensFollow}
use Rattle.syntax_places.proofs.Endings.{none_ends, none_more}
use Rattle.syntax_places.proofs.Leading.{so, not_so}
use Rattle.syntax_places.proofs.beginnings.ending_of.Goals as goal

pub returns-then-branch : goal.returns-then-branch
returns-then-branch c =
    let bytes = c.args.bytes.now in
    let Here : List ℕ → Type 0 = λ e. TokensFollow (at_entry false) e in
    let below = c.loop-number-test.true in
    let is = ap (λ e. bytes ++ e) c.ending.ensures.is in
    (omega arith, subst Here is (so _ c.if-branch.true c.in_ok-follow_with.ensures))

pub loop-number-preserved : goal.loop-number-preserved
loop-number-preserved c =
    let below = c.loop-number-test.true in
    let bytes = c.args.bytes.now in (
      omega arith,
      none_more bytes c.ending.result.now c.loop-number.number c.loop-number.invariant.1 c.ending.ensures.is
          (not_so _ c.if-branch.false c.in_ok-follow_with.ensures),
    )

pub returns : goal.returns
returns c =
    let done = c.loop-number-test.false in
    let reached = c.loop-number.invariant.0 in none_ends c.args.bytes.now (λ k l. c.loop-number.invariant.1 k (omega arith))
