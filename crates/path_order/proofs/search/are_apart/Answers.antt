use Rattle.std.proofs.Common.{◌≡◌, ℕ, List, [], map, take, refl, sym, subst, ◌∙◌, arith}
use Rattle.std.proofs.lemmas.Bool.{false≢true}
use Rattle.std.proofs.lemmas.List.{length-map, take_more}
use Rattle.path_order.specs.Apart.{AreApart}
use Rattle.path_order.proofs.Lists.{apart_first, are_apart_push, nth, path_at, stands_at, stands_over, stands_under}
use Rattle.path_order.proofs.search.are_apart.Goals as goal

pub loop-i-init : goal.loop-i-init
loop-i-init g c = apart_first (map g.T.Pathed.path c.args.list.now)

pub returns-then-not-last : goal.returns-then-not-last
returns-then-not-last g c =
    let path = g.T.Pathed.path in
    let list = c.args.list.now in
    let is : c.path.result.now ≡ nth (map path list) c.loop-i.i = c.path.ensures ∙ path_at path list c.loop-i.i c.index-list-i.result c.loop-i-test.true c.index-list-i.is in (
      λ h. absurd (false≢true h),
      λ apart. c.if-not-last.ensures.1 (stands_under path list c.loop-i.i c.split_at.result.0.now c.path.result.now c.split_at.ensures.front is
          (stands_at (map path list) c.loop-i.i apart (omega (arith, c.loop-i-test.true, length-map list path)))),
    )

pub loop-i-preserved : goal.loop-i-preserved
loop-i-preserved g c =
    let path = g.T.Pathed.path in
    let list = c.args.list.now in
    let is : c.path.result.now ≡ nth (map path list) c.loop-i.i = c.path.ensures ∙ path_at path list c.loop-i.i c.index-list-i.result c.loop-i-test.true c.index-list-i.is in
    let more = take_more (map path list) c.loop-i.i [] (omega (arith, c.loop-i-test.true, length-map list path)) in
    let P : List (List ℕ) → Type 0 = λ x. AreApart x in
    subst P (sym more) (are_apart_push (take c.loop-i.i (map path list)) (nth (map path list) c.loop-i.i) c.loop-i.invariant
    (stands_over path list c.loop-i.i c.split_at.result.0.now c.path.result.now c.split_at.ensures.front is (c.if-not-last.ensures.0 refl)))
