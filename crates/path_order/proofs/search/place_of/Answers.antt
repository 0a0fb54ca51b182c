use Rattle.std.proofs.Common.{◌≡◌, ◌+◌, ◌-◌, ◌/◌, ◌<◌, ℕ, List, length, map, sym, subst, ◌∙◌, arith}
use Rattle.std.specs.declared.cmp.Ordering.TheVariants.{Less}
use Rattle.std.proofs.lemmas.Bool.{false≢true}
use Rattle.std.proofs.lemmas.List.{length-map}
use Rattle.path_order.proofs.Fronts.{C}
use Rattle.path_order.proofs.Lists.{nth, before_more, from_more, path_at}
use Rattle.path_order.proofs.search.place_of.Goals as goal

pub loop-least-preserved-then-before : goal.loop-least-preserved-then-before
loop-least-preserved-then-before g c =
    let paths = map g.T.Pathed.path c.args.list.now in
    let middle = c.loop-least.least + (c.loop-least.most - c.loop-least.least) / 2 in
    let under : middle < length c.args.list.now = omega (arith, c.loop-least-test.true, c.loop-least.invariant.within) in
    let is : c.as_bytes.result.now ≡ nth paths middle = c.as_bytes.ensures.value ∙ c.as_str.ensures.value ∙ c.path.ensures ∙ path_at g.T.Pathed.path c.args.list.now middle c.index-list-middle.result under c.index-list-middle.is in
    let P : List ℕ → Type 0 = λ x. C x c.args.text.now ≡ Less in
    record {
      ordered = omega (arith, c.loop-least-test.true);
      within = c.loop-least.invariant.within;
      before = before_more paths c.args.text.now middle c.requires (omega (arith, under, length-map c.args.list.now g.T.Pathed.path)) (subst P is (c.stands_before-before.ensures.0 c.if-before.true));
      from = c.loop-least.invariant.from;
    }

pub loop-least-preserved : goal.loop-least-preserved
loop-least-preserved g c =
    let paths = map g.T.Pathed.path c.args.list.now in
    let middle = c.loop-least.least + (c.loop-least.most - c.loop-least.least) / 2 in
    let under : middle < length c.args.list.now = omega (arith, c.loop-least-test.true, c.loop-least.invariant.within) in
    let is : c.as_bytes.result.now ≡ nth paths middle = c.as_bytes.ensures.value ∙ c.as_str.ensures.value ∙ c.path.ensures ∙ path_at g.T.Pathed.path c.args.list.now middle c.index-list-middle.result under c.index-list-middle.is in
    let P : List ℕ → Type 0 = λ x. C x c.args.text.now ≡ Less in
    record {
      ordered = omega arith;
      within = omega (arith, under);
      before = c.loop-least.invariant.before;
      from = λ k low within. from_more paths c.args.text.now middle c.requires (λ less. false≢true (sym c.if-before.false ∙ c.stands_before-before.ensures.1 (subst P (sym is) less))) k low (omega (arith, within, length-map c.args.list.now g.T.Pathed.path));
    }
