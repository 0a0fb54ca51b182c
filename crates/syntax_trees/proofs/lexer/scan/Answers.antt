use Rattle.std.proofs.Common.{List, ◌+◌, ◌++◌, ◌∷◌, [], ap, sym, subst, ◌∙◌}
use Rattle.syntax_trees.specs.Read.{placed_tokens}
use Rattle.syntax_trees.specs.Tokens.{Placed}
use Rattle.syntax_trees.proofs.LexerRead.{ReadsTokens, of_step, step_within, placed_more, tokens_skip, tokens_take, tokens_stop, tokens_end}
use Rattle.syntax_trees.proofs.TextsRead.{slice_rest, part_within}
use Rattle.syntax_trees.proofs.lexer.scan.Goals as goal

pub loop-at-preserved-in-Skip : goal.loop-at-preserved-in-Skip
loop-at-preserved-in-Skip c =
    let bytes = c.args.bytes.now in
    let l = c.loop-at in
    let r = slice_rest bytes l.at in
    let found = of_step _ _ _ c.in-Skip.is c.in_ok-len.ensures.found in
    let within = step_within _ _ _ c.in-Skip.is c.in_ok-len.ensures.within in (
      part_within bytes _ l.at c.in-Skip.len r c.loop-at-test.true within.1,
      tokens_skip bytes _ (placed_tokens l.tokens.items) l.at c.in-Skip.len r found l.invariant.1,
    )

pub loop-at-preserved : goal.loop-at-preserved
loop-at-preserved c =
    let bytes = c.args.bytes.now in
    let l = c.loop-at in
    let r = slice_rest bytes l.at in
    let found = of_step _ _ _ c.in-Take.is c.in_ok-len.ensures.found in
    let within = step_within _ _ _ c.in-Take.is c.in_ok-len.ensures.within in
    let ends = part_within bytes _ l.at c.in-Take.len r c.loop-at-test.true within.1 in
    let more = ap placed_tokens c.in_ok-push-in-Take.ensures.items ∙ placed_more l.tokens.items c.place_token.result
    ∙ ap (λ t. placed_tokens l.tokens.items ++ t ∷ []) c.place_token.ensures in
    let Here : List Placed → Type 0 = λ t. ReadsTokens bytes (l.at + c.in-Take.len) t in
    (ends, subst Here (sym more) (tokens_take bytes _ (placed_tokens l.tokens.items) c.in-Take.token l.at c.in-Take.len r ends found l.invariant.1))

pub returns-in-Stop : goal.returns-in-Stop
returns-in-Stop c =
    let bytes = c.args.bytes.now in
    let l = c.loop-at in
    tokens_stop bytes _ (placed_tokens l.tokens.items) l.at (slice_rest bytes l.at) (of_step _ _ _ c.in-Stop.is c.in_ok-len.ensures.found) l.invariant.1

pub returns : goal.returns
returns c = tokens_end c.args.bytes.now _ c.loop-at.at c.loop-at-test.false c.loop-at.invariant.1
