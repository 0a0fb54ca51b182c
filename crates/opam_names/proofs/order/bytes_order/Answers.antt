use Rattle.std.proofs.Common.{◌≡◌, ◌+◌, ◌<◌, List, ℕ, length, ap, sym, ◌∙◌, arith}
use Rattle.std.proofs.lemmas.Bool.Decides.{nat_tests}
use Rattle.std.specs.declared.cmp.Ordering.{Ordering}
use Rattle.opam_names.specs.Orders.{Run, run_of, run_order, first_run, after_run, text_order}
use Rattle.opam_names.proofs.Orders.{after_less, order_decided, order_goes_on}
use Rattle.opam_names.proofs.order.bytes_order.Goals as goal

by_runs : (p q r s : Run) (o : Ordering) → o ≡ run_order p q → p ≡ r → q ≡ s → o ≡ run_order r s
by_runs p q r s o h f g = h ∙ ap (λ t. run_order t q) f ∙ ap (run_order r) g

pub returns-in_default : goal.returns-in_default
returns-in_default c =
    let a = c.loop-a.a.now in
    let b = c.loop-a.b.now in
    let first = run_of c.first-first.result.word.now c.first-first.result.digits.now in
    let second = run_of c.first-second.result.word.now c.first-second.result.digits.now in
    let by = by_runs first second (first_run a) (first_run b) c.run_order.result c.run_order.ensures c.first-first.ensures.run c.first-second.ensures.run in
    sym (c.loop-a.invariant ∙ order_decided a b c.run_order.result by c.in_default.not-Equal)

shorter_rests : (a b c d : List ℕ) → c ≡ after_run a → d ≡ after_run b → length (after_run a) + length (after_run b) < length a + length b → length c + length d < length a + length b
shorter_rests a b c d f g h = let k = ap length f in let l = ap length g in omega arith

pub loop-a-smaller : goal.loop-a-smaller
loop-a-smaller c =
    let a = c.loop-a.a.now in
    let b = c.loop-a.b.now in
    shorter_rests a b c.first-first.result.rest.now c.first-second.result.rest.now c.first-first.ensures.rest c.first-second.ensures.rest (after_less a b (λ h k. grind (arith, nat_tests)))

pub loop-a-preserved : goal.loop-a-preserved
loop-a-preserved c =
    let a = c.loop-a.a.now in
    let b = c.loop-a.b.now in
    let first = run_of c.first-first.result.word.now c.first-first.result.digits.now in
    let second = run_of c.first-second.result.word.now c.first-second.result.digits.now in
    let by = by_runs first second (first_run a) (first_run b) c.run_order.result c.run_order.ensures c.first-first.ensures.run c.first-second.ensures.run in
    c.loop-a.invariant ∙ order_goes_on a b (sym c.in-Equal.is ∙ by) ∙ sym (ap (λ t. text_order t c.first-second.result.rest.now) c.first-first.ensures.rest ∙ ap (text_order (after_run a)) c.first-second.ensures.rest)
