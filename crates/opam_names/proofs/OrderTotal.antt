-- The order of versions is total and transitive.
use Rattle.std.proofs.Common.{◌≡◌, List, [], ◌∷◌, ◌++◌, map, refl, sym, ap, ◌∙◌}
use Rattle.std.proofs.lemmas.Cmp.{nat_cmp_total, nat_list_cmp_total, on_total, then_total, tied_itself, alike_right}
use Rattle.std.specs.Cmp.{IsTotalOrder}
use Rattle.std.specs.Ordering.{ordering_then, ordering_reverse}
use Rattle.std.specs.declared.cmp.Ordering.{Ordering}
use Rattle.std.specs.declared.cmp.Ordering.TheVariants.{Less, Equal, Greater}
use Rattle.opam_names.specs.Orders.{Run, empty_run, rank, end_rank, word_order, number, run_order, runs_order, runs, text_order}
use Rattle.opam_names.specs.OrderLaws.{VersionsAreOrdered}

word_total : IsTotalOrder word_order
word_total = on_total (λ xs. map rank xs ++ end_rank ∷ []) nat_list_cmp_total

pub run_total : IsTotalOrder run_order
run_total = then_total (on_total (λ (p : Run). p.word) word_total) (on_total (λ (p : Run). number p.digits) nat_cmp_total)

-- what three answers say of three things in an order: a of the first two, b of the last two, c of the first and the last
record IsThree (a b c : Ordering) : Type 0 where
  less : a ≡ Less → b ≡ Less → c ≡ Less
  left : a ≡ Equal → c ≡ b
  right : b ≡ Equal → c ≡ a

then_less : (a b c : Ordering) (s t u : Ordering) → IsThree a b c → IsThree s t u → ordering_then a s ≡ Less → ordering_then b t ≡ Less → ordering_then c u ≡ Less
then_less Less Less c s t u f g h k = ap (λ o. ordering_then o u) (f.less refl refl)
then_less Less Equal c s t u f g h k = ap (λ o. ordering_then o u) (f.right refl)
then_less Less Greater c s t u f g h k = cc
then_less Equal Less c s t u f g h k = ap (λ o. ordering_then o u) (f.left refl)
then_less Equal Equal c s t u f g h k = ap (λ o. ordering_then o u) (f.left refl) ∙ g.less h k
then_less Equal Greater c s t u f g h k = cc
then_less Greater b c s t u f g h k = cc

then_left : (a b c : Ordering) (s t u : Ordering) → IsThree a b c → IsThree s t u → ordering_then a s ≡ Equal → ordering_then c u ≡ ordering_then b t
then_left Less b c s t u f g h = cc
then_left Equal b c s t u f g h = ap (λ o. ordering_then o u) (f.left refl) ∙ ap (ordering_then b) (g.left h)
then_left Greater b c s t u f g h = cc

then_right : (a b c : Ordering) (s t u : Ordering) → IsThree a b c → IsThree s t u → ordering_then b t ≡ Equal → ordering_then c u ≡ ordering_then a s
then_right a Less c s t u f g h = cc
then_right a Equal c s t u f g h = ap (λ o. ordering_then o u) (f.right refl) ∙ ap (ordering_then a) (g.right h)
then_right a Greater c s t u f g h = cc

then_three : (a b c : Ordering) (s t u : Ordering) → IsThree a b c → IsThree s t u → IsThree (ordering_then a s) (ordering_then b t) (ordering_then c u)
then_three a b c s t u f g = record { less = then_less a b c s t u f g; left = then_left a b c s t u f g; right = then_right a b c s t u f g }

run_three : (p q r : Run) → IsThree (run_order p q) (run_order q r) (run_order p r)
run_three p q r = record {
  less = run_total.trans p q r;
  left = run_total.congr p q r;
  right = λ h. sym (alike_right run_total q r p h);
}

same_first : (o : Ordering) → IsThree Equal o o
same_first o = record { less = λ h k. k; left = λ h. refl; right = λ h. h }

same_last : (o : Ordering) → IsThree o Equal o
same_last o = record { less = λ h k. h; left = λ h. h; right = λ h. refl }

runs_three : (ps qs rs : List Run) → IsThree (runs_order ps qs) (runs_order qs rs) (runs_order ps rs)
runs_three [] [] rs = same_first (runs_order [] rs)
runs_three [] (q ∷ qs) [] =
    then_three (run_order empty_run q) (run_order q empty_run) Equal (runs_order [] qs) (runs_order qs []) Equal (run_three empty_run q empty_run) (runs_three [] qs [])
runs_three [] (q ∷ qs) (r ∷ rs) =
    then_three (run_order empty_run q) (run_order q r) (run_order empty_run r) (runs_order [] qs) (runs_order qs rs) (runs_order [] rs) (run_three empty_run q r) (runs_three [] qs rs)
runs_three (p ∷ ps) [] [] = same_last (runs_order (p ∷ ps) [])
runs_three (p ∷ ps) [] (r ∷ rs) =
    then_three (run_order p empty_run) (run_order empty_run r) (run_order p r) (runs_order ps []) (runs_order [] rs) (runs_order ps rs) (run_three p empty_run r) (runs_three ps [] rs)
runs_three (p ∷ ps) (q ∷ qs) [] =
    then_three (run_order p q) (run_order q empty_run) (run_order p empty_run) (runs_order ps qs) (runs_order qs []) (runs_order ps []) (run_three p q empty_run) (runs_three ps qs [])
runs_three (p ∷ ps) (q ∷ qs) (r ∷ rs) =
    then_three (run_order p q) (run_order q r) (run_order p r) (runs_order ps qs) (runs_order qs rs) (runs_order ps rs) (run_three p q r) (runs_three ps qs rs)

then_turned : (a b s t : Ordering) → a ≡ ordering_reverse b → s ≡ ordering_reverse t → ordering_then a s ≡ ordering_reverse (ordering_then b t)
then_turned a Less s t h k = ap (λ o. ordering_then o s) h
then_turned a Equal s t h k = ap (λ o. ordering_then o s) h ∙ k
then_turned a Greater s t h k = ap (λ o. ordering_then o s) h

runs_turned : (ps qs : List Run) → runs_order ps qs ≡ ordering_reverse (runs_order qs ps)
runs_turned [] [] = refl
runs_turned [] (q ∷ qs) = then_turned (run_order empty_run q) (run_order q empty_run) (runs_order [] qs) (runs_order qs []) (run_total.antisymm empty_run q) (runs_turned [] qs)
runs_turned (p ∷ ps) [] = then_turned (run_order p empty_run) (run_order empty_run p) (runs_order ps []) (runs_order [] ps) (run_total.antisymm p empty_run) (runs_turned ps [])
runs_turned (p ∷ ps) (q ∷ qs) = then_turned (run_order p q) (run_order q p) (runs_order ps qs) (runs_order qs ps) (run_total.antisymm p q) (runs_turned ps qs)

pub runs_total : IsTotalOrder runs_order
runs_total = record {
  antisymm = runs_turned;
  trans = λ ps qs rs. (runs_three ps qs rs).less;
  congr = λ ps qs rs. (runs_three ps qs rs).left;
}

text_total : IsTotalOrder text_order
text_total = on_total runs runs_total

pub versions_are_ordered : VersionsAreOrdered
versions_are_ordered = record { total = text_total; reflexive = tied_itself text_total }
