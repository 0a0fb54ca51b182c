use Rattle.std.proofs.Common.{◌≡◌, ◌<◌, ap, sym, ◌∙◌, nat_cmp, drop, length, arith, get_or}
use Rattle.opam_names.specs.Orders.{first_rank, rank, word_order}
use Rattle.opam_names.proofs.Orders.{word_ends, word_steps, word_decided}
use Rattle.opam_names.proofs.order.word_order.Goals as goal

pub returns : goal.returns
returns c =
    let n = c.min-both.result in
    let a = c.args.a.now in
    let b = c.args.b.now in
    let all : c.loop-at.at ≡ n = omega arith in
    let before : word_order a b ≡ word_order (drop n a) (drop n b) = c.loop-at.invariant ∙ ap (λ k. word_order (drop k a) (drop k b)) all in
    c.cmp-2.ensures ∙ ap (λ r. nat_cmp r c.rank_at-2.result) c.rank_at.ensures ∙ ap (nat_cmp (first_rank (drop n a))) c.rank_at-2.ensures ∙ sym (before ∙ word_ends a b n c.min-both.ensures)

pub returns-then-a-at : goal.returns-then-a-at
returns-then-a-at c =
    let n = c.loop-at.at in
    let a = c.args.a.now in
    let b = c.args.b.now in
    let l : n < length a = omega arith in
    let k : n < length b = omega arith in
    c.cmp.ensures ∙ ap (λ r. nat_cmp r c.rank-then-a-at.result) c.rank.ensures ∙ ap (nat_cmp (rank (get_or a n 0))) c.rank-then-a-at.ensures
    ∙ sym (c.loop-at.invariant ∙ word_decided a b n l k c.if-a-at.true)

pub loop-at-preserved : goal.loop-at-preserved
loop-at-preserved c =
    let n = c.loop-at.at in
    let a = c.args.a.now in
    let b = c.args.b.now in
    let l : n < length a = omega arith in
    let k : n < length b = omega arith in
    c.loop-at.invariant ∙ word_steps a b n l k c.if-a-at.false
