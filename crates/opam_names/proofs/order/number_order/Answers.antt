use Rattle.std.proofs.Common.{◌≡◌, ℕ, List, length, ap, sym, ◌∙◌, nat_cmp}
use Rattle.std.specs.Cmp.Lexicographic.{slice_cmp}
use Rattle.std.specs.Ordering.{ordering_then}
use Rattle.std.specs.declared.cmp.Ordering.{Ordering}
use Rattle.opam_names.specs.Orders.{significant}
use Rattle.opam_names.proofs.Orders.{number_by_length, then_decided}
use Rattle.opam_names.proofs.order.number_order.Goals as goal

same_lengths : (ds es sd se : List ℕ) (o : Ordering) → sd ≡ significant ds → se ≡ significant es → o ≡ nat_cmp (length sd) (length se) → o ≡ nat_cmp (length (significant ds)) (length (significant es))
same_lengths ds es sd se o f g h = h ∙ ap (λ l. nat_cmp (length l) (length se)) f ∙ ap (λ l. nat_cmp (length (significant ds)) (length l)) g

pub returns-in-Equal : goal.returns-in-Equal
returns-in-Equal c =
    let a = c.args.a.now in
    let b = c.args.b.now in
    let lengths = same_lengths a b c.significant-a.result.now c.significant-b.result.now c.cmp.result c.significant-a.ensures c.significant-b.ensures c.cmp.ensures in
    let by = number_by_length a b c.cmp.result c.requires.a_digits c.requires.b_digits lengths in
    let bytes = c.cmp-in-Equal.ensures ∙ ap (λ l. slice_cmp nat_cmp l c.significant-b.result.now) c.significant-a.ensures ∙ ap (slice_cmp nat_cmp (significant a)) c.significant-b.ensures in
    bytes ∙ sym (by ∙ ap (λ o. ordering_then o (slice_cmp nat_cmp (significant a) (significant b))) c.in-Equal.is)

pub returns-in_default : goal.returns-in_default
returns-in_default c =
    let a = c.args.a.now in
    let b = c.args.b.now in
    let lengths = same_lengths a b c.significant-a.result.now c.significant-b.result.now c.cmp.result c.significant-a.ensures c.significant-b.ensures c.cmp.ensures in
    let by = number_by_length a b c.cmp.result c.requires.a_digits c.requires.b_digits lengths in
    sym (by ∙ then_decided c.cmp.result (slice_cmp nat_cmp (significant a) (significant b)) c.in_default.not-Equal)
