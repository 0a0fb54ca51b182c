-- Bytes have at most one fault, and the text of a file has none but, as far as is shown here, a place that is too deep.
use Rattle.std.proofs.Common.{◌≡◌, ℕ, ◌+◌, ◌<◌, ◌≤◌, List, [], ◌++◌, take, drop, refl, sym, subst, ap, ◌∙◌, arith, ◌⊎◌, inl, inr}
use Rattle.std.proofs.lemmas.List.{take-append-drop, append_assoc, take-take, append-nil}
use Rattle.std.specs.declared.option.Option.TheVariants.{None, Some}
use Rattle.syntax_trees.specs.declared.fault.SyntaxFault.TheVariants.{Ended, Stray, Deep, Doubled, Memory}
use Rattle.syntax_trees.specs.Faults.{IsDerived, BeginsFile, IsDeepAt, IsStrayAt, IsEndedAt, IsDoubledAt}
use Rattle.syntax_trees.specs.Doubles.{doubled_at}
use Rattle.syntax_trees.specs.Laws.{OneFaultForBytes, FilesHaveNoFault}
use Rattle.syntax_trees.proofs.OneFile.{one_derivation}

-- a front of what begins a file begins one
begins_shorter : (bytes : List ℕ) (n : ℕ) → BeginsFile bytes → BeginsFile (take n bytes)
begins_shorter bytes n (more, p) =
    let whole : take n bytes ++ (drop n bytes ++ more) ≡ bytes ++ more =
    sym (append_assoc (take n bytes) (drop n bytes) more) ∙ ap (λ l. l ++ more) (take-append-drop n bytes) in
    (drop n bytes ++ more, subst IsDerived (sym whole) p)

begins_front : (bytes : List ℕ) (m n : ℕ) → m ≤ n → BeginsFile (take n bytes) → BeginsFile (take m bytes)
begins_front bytes m n l p = subst BeginsFile (take-take m n bytes l) (begins_shorter (take n bytes) m p)

derived_begins : (bytes : List ℕ) → IsDerived bytes → BeginsFile bytes
derived_begins bytes p = ([], subst IsDerived (sym (append-nil bytes)) p)

no_stray : (bytes : List ℕ) (place : ℕ) → BeginsFile bytes → IsStrayAt bytes place → ⊥
no_stray bytes place p s = s.stray (begins_shorter bytes (place + 1) p)

order : (m n : ℕ) → (m < n) ⊎ (m ≡ n) ⊎ (n < m)
order m n = grind (arith)

same_stray : (bytes : List ℕ) (m n : ℕ) → IsStrayAt bytes m → IsStrayAt bytes n → m ≡ n
same_stray bytes m n p q =
    let below : (a b : ℕ) → IsStrayAt bytes a → IsStrayAt bytes b → a < b → ⊥ = λ a b s t l. s.stray (begins_front bytes (a + 1) b (omega arith) t.begins) in
    elim (order m n) [ inl l ↦ absurd (below m n p q l) | inr (inl e) ↦ e | inr (inr l) ↦ absurd (below n m q p l) ]

same_deep : (bytes : List ℕ) (m n : ℕ) → IsDeepAt bytes m → IsDeepAt bytes n → m ≡ n
same_deep bytes m n p q =
    elim (order m n) [ inl l ↦ absurd (q.first m l p.deep) | inr (inl e) ↦ e | inr (inr l) ↦ absurd (p.first n l q.deep) ]

ended_not_stray : (bytes : List ℕ) (m n : ℕ) → IsEndedAt bytes m → IsStrayAt bytes n → ⊥
ended_not_stray bytes m n p q = no_stray bytes n p.begins q

doubled_not_stray : (bytes : List ℕ) (m n : ℕ) → IsDoubledAt bytes m → IsStrayAt bytes n → ⊥
doubled_not_stray bytes m n (es, p, e) q = no_stray bytes n (derived_begins bytes (es, p)) q

doubled_not_ended : (bytes : List ℕ) (m n : ℕ) → IsDoubledAt bytes m → IsEndedAt bytes n → ⊥
doubled_not_ended bytes m n (es, p, e) q = q.unfinished (es, p)

same_place : {m n : ℕ} → Some m ≡ Some n → m ≡ n
same_place e = cc

same_doubled : (bytes : List ℕ) (m n : ℕ) → IsDoubledAt bytes m → IsDoubledAt bytes n → m ≡ n
same_doubled bytes m n (es, p, e) (ds, q, f) = same_place (sym e ∙ ap doubled_at (one_derivation bytes es ds p q) ∙ f)

pub one_fault : OneFaultForBytes
one_fault bytes (Deep m) (Deep n) p q h k = ap Deep (same_deep bytes m n p q)
one_fault bytes (Deep m) (Stray n) p q h k = absurd (q.0 m p.deep)
one_fault bytes (Deep m) (Ended n) p q h k = absurd (q.0 m p.deep)
one_fault bytes (Deep m) (Doubled n) p q h k = absurd (q.0 m p.deep)
one_fault bytes (Stray m) (Deep n) p q h k = absurd (p.0 n q.deep)
one_fault bytes (Stray m) (Stray n) p q h k = ap Stray (same_stray bytes m n p.1 q.1)
one_fault bytes (Stray m) (Ended n) p q h k = absurd (ended_not_stray bytes n m q.1 p.1)
one_fault bytes (Stray m) (Doubled n) p q h k = absurd (doubled_not_stray bytes n m q.1 p.1)
one_fault bytes (Ended m) (Deep n) p q h k = absurd (p.0 n q.deep)
one_fault bytes (Ended m) (Stray n) p q h k = absurd (ended_not_stray bytes m n p.1 q.1)
one_fault bytes (Ended m) (Ended n) p q h k = ap Ended (p.1.all ∙ sym q.1.all)
one_fault bytes (Ended m) (Doubled n) p q h k = absurd (doubled_not_ended bytes n m q.1 p.1)
one_fault bytes (Doubled m) (Deep n) p q h k = absurd (p.0 n q.deep)
one_fault bytes (Doubled m) (Stray n) p q h k = absurd (doubled_not_stray bytes m n p.1 q.1)
one_fault bytes (Doubled m) (Ended n) p q h k = absurd (doubled_not_ended bytes m n p.1 q.1)
one_fault bytes (Doubled m) (Doubled n) p q h k = ap Doubled (same_doubled bytes m n p.1 q.1)
one_fault bytes Memory other p q h k = absurd (h refl)
one_fault bytes one Memory p q h k = absurd (k refl)

clash : {m : ℕ} → None ≡ Some m → ⊥
clash e = cc

pub no_fault : FilesHaveNoFault
no_fault bytes file place (es, p, i) = (
  (λ s. no_stray bytes place (derived_begins bytes (es, p.derived)) s),
  (λ e. e.unfinished (es, p.derived)),
  (λ d. clash (sym p.single ∙ ap doubled_at (one_derivation bytes es d.0 p.derived d.1) ∙ d.2)),
)
