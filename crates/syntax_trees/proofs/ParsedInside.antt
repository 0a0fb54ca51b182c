-- Values in a bracket, one after another.
use Rattle.std.proofs.Common.{◌≡◌, ◌≢◌, ℕ, ◌+◌, ◌-◌, ◌≤◌, true, List, [], ◌∷◌, ◌++◌, map, refl, sym, subst, ap, ◌∙◌, arith, append_assoc}
use Rattle.std.specs.declared.option.Option.TheVariants.{Some}
use Rattle.syntax_trees.specs.declared.queue.Bracket.{Bracket}
use Rattle.syntax_trees.specs.declared.queue.Bracket.TheVariants as bracket
use Rattle.syntax_trees.specs.declared.tree.Span.{Span}
use Rattle.syntax_trees.specs.declared.tree.Node.{Node}
use Rattle.syntax_trees.specs.Tokens.{Placed, placed}
use Rattle.syntax_trees.specs.Grammar.{ValueLevel, Spells, AreValues, no_value, value}
use Rattle.syntax_trees.specs.Nesting.{depth, most}
use Rattle.syntax_trees.specs.Parsing.{sign_token, next_sign, stops, closing, IsParsed, IsRefused, AreEnclosed, AreNoneEnclosed}
use Rattle.syntax_trees.proofs.OneTree.{same, starts, closes, begins, closed_begins_none, values_stop, values_too}

-- the sign and its bracket
abbrev closer : Bracket → Span → List Placed → List Placed
closer b to rest = placed (sign_token (closing b)) to ∷ rest

closer_closes : (b : Bracket) (to : Span) (rest : List Placed) → closes (closer b to rest) ≡ true
closer_closes bracket.List to rest = refl
closer_closes bracket.Group to rest = refl
closer_closes bracket.Braces to rest = refl

closer_is_next : (b : Bracket) (to : Span) (rest : List Placed) → next_sign (closer b to rest) ≡ Some (closing b)
closer_is_next bracket.List to rest = refl
closer_is_next bracket.Group to rest = refl
closer_is_next bracket.Braces to rest = refl

-- what was parsed is the beginning of whatever is enclosed
pub record ValuesSoFar (b : Bracket) (allowed : ℕ) (tokens : List Placed) (done : List Node) (now : List Placed) : Type 0 where
  pub goes_on : (more : List Node) (rest : List Placed) → AreValues now more rest → AreValues tokens (done ++ more) rest
  pub only : (all : List Node) (to : Span) (rest : List Placed) → AreValues tokens all (closer b to rest)
      → (more : List Node) × (all ≡ done ++ more) × AreValues now more (closer b to rest)
  pub shallow : 1 + most (map depth done) ≤ allowed

pub values_start : (b : Bracket) (allowed : ℕ) (tokens : List Placed) → allowed ≢ 0 → ValuesSoFar b allowed tokens [] tokens
values_start b allowed tokens l = record {
  goes_on = λ more rest p. p;
  only = λ all to rest p. (all, refl, p);
  shallow = omega arith;
}

deep_more : (allowed : ℕ) (done : List Node) (n : Node) → 1 + most (map depth done) ≤ allowed → depth n ≤ allowed - 1
    → 1 + most (map depth (done ++ n ∷ [])) ≤ allowed
deep_more allowed [] n h k = omega arith
deep_more allowed (d ∷ done) n h k = let e = deep_more allowed done n (omega arith) k in omega arith

next_only : (b : Bracket) {now next : List Placed} {n : Node} → Spells ValueLevel now n next → stops ValueLevel next ≡ true
    → {all : List Node} (to : Span) (rest : List Placed) → {end : List Placed} → closer b to rest ≡ end → AreValues now all end
    → (others : List Node) × (all ≡ (n ∷ others)) × AreValues next others end
next_only b p h to rest e no_value =
    absurd (closed_begins_none (closer b to rest) (closer_closes b to rest) (ap begins e ∙ starts p))
next_only b p h to rest {end = end} e (value {more = more} q u) =
    let s = values_stop u (ap closes (sym e) ∙ closer_closes b to rest) in
    let f = same p h q s in
    (more, ap (λ z. z ∷ more) (sym f.0), values_too f.1 u)

pub values_step : (b : Bracket) (allowed : ℕ) (tokens : List Placed) (done : List Node) (now : List Placed) (n : Node) (next : List Placed)
    → ValuesSoFar b allowed tokens done now → IsParsed ValueLevel (allowed - 1) now n next → ValuesSoFar b allowed tokens (done ++ n ∷ []) next
values_step b allowed tokens done now n next s p = record {
  goes_on = λ more rest q.
      subst (λ ns. AreValues tokens ns rest) (sym (append_assoc done (n ∷ []) more)) (s.goes_on (n ∷ more) rest (value p.spelled q));
  only = λ all to rest q.
      let a = s.only all to rest q in
      let d = next_only b p.spelled p.stopped to rest refl a.2 in
      (d.0, a.1 ∙ ap (λ ns. done ++ ns) d.1 ∙ sym (append_assoc done (n ∷ []) d.0), d.2);
  shallow = deep_more allowed done n s.shallow p.shallow;
}

nothing_more : (done : List Node) → done ++ [] ≡ done
nothing_more [] = refl
nothing_more (d ∷ done) = ap (λ ns. d ∷ ns) (nothing_more done)

pub values_end : (b : Bracket) (allowed : ℕ) (tokens : List Placed) (done : List Node) (to : Span) (rest : List Placed)
    → ValuesSoFar b allowed tokens done (closer b to rest) → AreEnclosed b allowed tokens done to rest
values_end b allowed tokens done to rest s = record {
  spelled = subst (λ ns. AreValues tokens ns (closer b to rest)) (nothing_more done) (s.goes_on [] (closer b to rest) no_value);
  shallow = s.shallow;
}

next_none : (b : Bracket) {allowed : ℕ} {now : List Placed} → next_sign now ≢ Some (closing b) → IsRefused ValueLevel allowed now
    → {all : List Node} (to : Span) (rest : List Placed) → {end : List Placed} → closer b to rest ≡ end → AreValues now all end
    → most (map depth all) ≤ allowed → ⊥
next_none b h k to rest e no_value s = h (ap next_sign (sym e) ∙ closer_is_next b to rest)
next_none b h k to rest e (value p q) s =
    k _ _ (record { spelled = p; stopped = values_stop q (ap closes (sym e) ∙ closer_closes b to rest); shallow = omega arith })

deep_later : (allowed : ℕ) (done more all : List Node) → all ≡ done ++ more → 1 + most (map depth all) ≤ allowed → most (map depth more) ≤ allowed - 1
deep_later allowed [] more all e h =
    let f = subst (λ ns. 1 + most (map depth ns) ≤ allowed) e h in omega arith
deep_later allowed (d ∷ done) more all e h =
    let f : 1 + most (map depth (d ∷ (done ++ more))) ≤ allowed = subst (λ ns. 1 + most (map depth ns) ≤ allowed) e h in
    deep_later allowed done more (done ++ more) refl (omega arith)

pub values_refused : (b : Bracket) (allowed : ℕ) (tokens : List Placed) (done : List Node) (now : List Placed) → ValuesSoFar b allowed tokens done now
    → next_sign now ≢ Some (closing b) → IsRefused ValueLevel (allowed - 1) now → AreNoneEnclosed b allowed tokens
values_refused b allowed tokens done now s h k all to rest p =
    let a = s.only all to rest p.spelled in
    next_none b h k to rest refl a.2 (deep_later allowed done a.0 all a.1 p.shallow)

pub nothing_inside : (b : Bracket) (tokens : List Placed) → AreNoneEnclosed b 0 tokens
nothing_inside b tokens all to rest p = let s = p.shallow in absurd (omega arith)

pub listed_so_far : {b : Bracket} {allowed : ℕ} {tokens : List Placed} {done listed : List Node} {now : List Placed} → listed ≡ done
    → ValuesSoFar b allowed tokens done now → ValuesSoFar b allowed tokens listed now
listed_so_far {b} {allowed} {tokens} {now = now} e s = subst (λ ns. ValuesSoFar b allowed tokens ns now) (sym e) s

pub so_far_at : {b : Bracket} {allowed : ℕ} {tokens : List Placed} {done : List Node} {now next : List Placed} → now ≡ next
    → ValuesSoFar b allowed tokens done now → ValuesSoFar b allowed tokens done next
so_far_at {b} {allowed} {tokens} {done} e s = subst (λ ts. ValuesSoFar b allowed tokens done ts) e s
