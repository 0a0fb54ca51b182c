use Rattle.std.proofs.Common.{arith}
use Rattle.syntax_trees.proofs.LexerRead.{of_step, step_within}
use Rattle.syntax_trees.proofs.TextsRead.{slice_rest, part_within}
use Rattle.syntax_places.proofs.Walked.{walked_begin, walked_skip, walked_take, walked_deep, walked_all, walked_refused, walked_stop, of_taken}
use Rattle.syntax_places.proofs.depth.deep_in.Goals as goal

pub loop-at-init : goal.loop-at-init
loop-at-init c = (omega arith, walked_begin c.args.text.now c.new-follower.result c.new-follower.ensures c.requires.follow)

pub loop-at-preserved-in-Skip : goal.loop-at-preserved-in-Skip
loop-at-preserved-in-Skip c =
    let text = c.args.text.now in
    let l = c.loop-at in
    let r = slice_rest text l.at in
    let found = of_step _ _ _ c.in-Skip.is c.in_ok-len.ensures.found in
    let within = step_within _ _ _ c.in-Skip.is c.in_ok-len.ensures.within in (
      part_within text _ l.at c.in-Skip.len r c.loop-at-test.true within.1,
      walked_skip text _ l.at c.in-Skip.len l.follower r found l.invariant.1,
    )

pub loop-at-preserved : goal.loop-at-preserved
loop-at-preserved c =
    let text = c.args.text.now in
    let l = c.loop-at in
    let r = slice_rest text l.at in
    let found = of_step _ _ _ c.in-Take.is c.in_ok-len.ensures.found in
    let within = step_within _ _ _ c.in-Take.is c.in_ok-len.ensures.within in
    let taken = of_taken _ _ _ _ c.in-Follows.is c.in_ok-next-in-Take.ensures in (
      part_within text _ l.at c.in-Take.len r c.loop-at-test.true within.1,
      walked_take text _ l.at c.in-Take.len c.in-Take.token l.follower c.in-Follows.next r found taken l.invariant.1,
    )

pub returns-in-Deep : goal.returns-in-Deep
returns-in-Deep c =
    let text = c.args.text.now in
    let l = c.loop-at in
    let found = of_step _ _ _ c.in-Take.is c.in_ok-len.ensures.found in
    let taken = of_taken _ _ _ _ c.in-Deep.is c.in_ok-next-in-Take.ensures in
    walked_deep text _ l.at c.in-Take.len c.in-Take.token l.follower taken.0 c.loop-at-test.true (slice_rest text l.at) found taken.1 taken.2 l.invariant.1

pub returns-in-Refused : goal.returns-in-Refused
returns-in-Refused c =
    let text = c.args.text.now in
    let l = c.loop-at in
    let found = of_step _ _ _ c.in-Take.is c.in_ok-len.ensures.found in
    let taken = of_taken _ _ _ _ c.in-Refused.is c.in_ok-next-in-Take.ensures in
    walked_refused text _ l.at c.in-Take.len c.in-Take.token l.follower (slice_rest text l.at) found taken l.invariant.1

pub returns-in-Stop : goal.returns-in-Stop
returns-in-Stop c =
    let text = c.args.text.now in
    let l = c.loop-at in
    walked_stop text _ l.at l.follower (slice_rest text l.at) (of_step _ _ _ c.in-Stop.is c.in_ok-len.ensures.found) l.invariant.1

pub returns : goal.returns
returns c = walked_all c.args.text.now c.loop-at.at c.loop-at.follower c.loop-at.invariant.0 c.loop-at-test.false c.loop-at.invariant.1
