use Rattle.syntax_trees.proofs.LexerRead.{of_step, step_within}
use Rattle.syntax_trees.proofs.TextsRead.{slice_rest, part_within}
use Rattle.syntax_places.specs.Controls.{control_of}
use Rattle.syntax_places.proofs.Leading.{leads_skip, leads_take, none_follows, none_stands, all_follow, told_so, told_not, of_taken, of_refused}
use Rattle.syntax_places.proofs.beginnings.tokens_follow.Goals as goal

pub loop-at-preserved-in-Skip : goal.loop-at-preserved-in-Skip
loop-at-preserved-in-Skip c =
    let bytes = c.args.bytes.now in
    let l = c.loop-at in
    let r = slice_rest bytes l.at in
    let found = of_step _ _ _ c.in-Skip.is c.in_ok-len.ensures.found in
    let within = step_within _ _ _ c.in-Skip.is c.in_ok-len.ensures.within in (
      part_within bytes _ l.at c.in-Skip.len r c.loop-at-test.true within.1,
      leads_skip bytes _ l.at c.in-Skip.len (control_of l.control) r found l.invariant.1,
    )

pub loop-at-preserved : goal.loop-at-preserved
loop-at-preserved c =
    let bytes = c.args.bytes.now in
    let l = c.loop-at in
    let r = slice_rest bytes l.at in
    let found = of_step _ _ _ c.in-Take.is c.in_ok-len.ensures.found in
    let within = step_within _ _ _ c.in-Take.is c.in_ok-len.ensures.within in (
      part_within bytes _ l.at c.in-Take.len r c.loop-at-test.true within.1,
      leads_take bytes _ l.at c.in-Take.len c.in-Take.token (control_of l.control) _ r found
          (of_taken _ _ _ c.if-branch.true c.in_ok-take_token-in-Take.ensures) l.invariant.1,
    )

pub returns-else-branch : goal.returns-else-branch
returns-else-branch c =
    let bytes = c.args.bytes.now in
    let l = c.loop-at in
    let found = of_step _ _ _ c.in-Take.is c.in_ok-len.ensures.found in
    told_not (none_follows bytes _ l.at c.in-Take.len c.in-Take.token (control_of l.control) (slice_rest bytes l.at) found
    (of_refused _ _ _ c.if-branch.false c.in_ok-take_token-in-Take.ensures) l.invariant.1)

pub returns-in-Stop : goal.returns-in-Stop
returns-in-Stop c =
    let bytes = c.args.bytes.now in
    let l = c.loop-at in
    told_not (none_stands bytes _ l.at (control_of l.control) (slice_rest bytes l.at) (of_step _ _ _ c.in-Stop.is c.in_ok-len.ensures.found) l.invariant.1)

pub returns : goal.returns
returns c = told_so (all_follow c.args.bytes.now c.loop-at.at (control_of c.loop-at.control) c.loop-at-test.false c.loop-at.invariant.1)
