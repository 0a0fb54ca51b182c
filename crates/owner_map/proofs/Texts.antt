-- Texts in byte order, and which stands above which.
use Rattle.std.proofs.Common.{◌≡◌, ℕ, zero, suc, ◌<◌, ◌⊎◌, inl, inr, Bool, true, false, List, [], ◌∷◌, ◌++◌, length, take, drop, refl, sym, ◌∙◌, ap, subst, arith, cond, eqb}
use Rattle.std.specs.Prelude.{bytes_eq, ◌&&◌}
use Rattle.std.specs.Ordering.{MatchOrdering, is_lt, nat_cmp, ordering_reverse, ordering_then}
use Rattle.std.specs.declared.cmp.Ordering.{Ordering}
use Rattle.std.specs.declared.cmp.Ordering.TheVariants.{Less, Equal, Greater}
use Rattle.std.proofs.lemmas.Bool.{eq-eqb, eqb-true, false≢true}
use Rattle.std.proofs.lemmas.Cmp.{nat_cmp_total, nat_list_cmp_total, ranked, tied_itself}
use Rattle.std.proofs.lemmas.List.{length-append}
use Rattle.std.proofs.lemmas.Map.Lookups.{exact_bytes}
use Rattle.opam_names.specs.ByteOrders.{byte_order, precedes}
use Rattle.opam_names.specs.Paths.{is_above}
use Rattle.opam_names.proofs.ByteOrders.{equal_bytes}
use Rattle.owner_map.specs.Searching.{below_bound}

-- ---- the order

pub less_is : (r : Ordering) → is_lt r ≡ true → r ≡ Less
less_is Less is = refl
less_is Equal is = absurd (false≢true is)
less_is Greater is = absurd (false≢true is)

pub never : (a b : List ℕ) → byte_order a b ≡ Less → precedes a b ≡ false → ⊥
never a b less stays = false≢true (sym stays ∙ ap is_lt less)

pub not_itself : (a : List ℕ) → byte_order a a ≡ Less → ⊥
not_itself a less = let same = tied_itself nat_list_cmp_total a in cc

pub itself_not : (a b : List ℕ) → a ≡ b → precedes a b ≡ false
itself_not a b same = ap (λ c. is_lt (byte_order a c)) (sym same) ∙ ap is_lt (tied_itself nat_list_cmp_total a)

pub not_both : (a b : List ℕ) → byte_order a b ≡ Less → byte_order b a ≡ Less → ⊥
not_both a b less back = not_itself a (nat_list_cmp_total.trans a b a less back)

pub turned : (a b : List ℕ) → byte_order a b ≡ Less → precedes b a ≡ false
turned a b less = ap is_lt (nat_list_cmp_total.antisymm b a ∙ ap ordering_reverse less)

three_by : (a b : List ℕ) (o : Ordering) → byte_order a b ≡ o → (byte_order a b ≡ Less) ⊎ ((a ≡ b) ⊎ (byte_order b a ≡ Less))
three_by a b Less e = inl e
three_by a b Equal e = inr (inl (exact_bytes a b e))
three_by a b Greater e = inr (inr (nat_list_cmp_total.antisymm b a ∙ ap ordering_reverse e))

-- a text stands before another, is the same, or stands after it
pub three : (a b : List ℕ) → (byte_order a b ≡ Less) ⊎ ((a ≡ b) ⊎ (byte_order b a ≡ Less))
three a b = three_by a b (byte_order a b) refl

-- neither of two stands before the other: they are the same
pub same_of : (a b : List ℕ) → precedes a b ≡ false → precedes b a ≡ false → a ≡ b
same_of a b stays back = elim (three a b) [
  | inl less ↦ absurd (never a b less stays)
  | inr (inl same) ↦ same
  | inr (inr less) ↦ absurd (never b a less back)
]

-- what does not stand before a text that does not stand before a third
pub chain : (a b c : List ℕ) → precedes b a ≡ false → precedes c b ≡ false → precedes c a ≡ false
chain a b c stays more = elim (three c a) [
  | inl less ↦ elim (three a b) [
    | inl e ↦ absurd (never c b (nat_list_cmp_total.trans c a b less e) more)
    | inr (inl e) ↦ let P : List ℕ → Type 0 = λ x. byte_order c x ≡ Less in absurd (never c b (subst P e less) more)
    | inr (inr e) ↦ absurd (never b a e stays)
  ]
  | inr (inl same) ↦ itself_not c a same
  | inr (inr less) ↦ turned a c less
]

-- ---- above

above_by : (x y : ℕ) (p q : List ℕ) (b : Bool) → eqb x y ≡ b → cond b (is_above p q) false ≡ true → (is_above p q ≡ true → (c : ℕ) × (s : List ℕ) × (q ≡ p ++ 47 ∷ c ∷ s))
    → (c : ℕ) × (s : List ℕ) × (y ∷ q ≡ x ∷ p ++ 47 ∷ c ∷ s)
above_by x y p q true same above more = let rest = more above in let head = sym (eqb-true x y same) in (rest.0, rest.1, λ i. head i ∷ rest.2 i)
above_by x y p q false same above more = absurd cc

pub above_is : (p q : List ℕ) → is_above p q ≡ true → (c : ℕ) × (s : List ℕ) × (q ≡ p ++ 47 ∷ c ∷ s)
above_is [] [] e = absurd cc
above_is [] (b ∷ []) e = absurd cc
above_is [] (b ∷ c ∷ s) e = let slash = eqb-true b 47 e in (c, s, λ i. slash i ∷ c ∷ s)
above_is (x ∷ p) [] e = absurd cc
above_is (x ∷ p) (y ∷ q) e = above_by x y p q (eqb x y) refl e (above_is p q)

number_itself : (n : ℕ) → nat_cmp n n ≡ Equal
number_itself n = tied_itself nat_cmp_total n

-- a text stands before one that begins with it and goes on
front_less : (p : List ℕ) (b : ℕ) (s : List ℕ) → byte_order p (p ++ b ∷ s) ≡ Less
front_less [] b s = refl
front_less (x ∷ p) b s = rw (number_itself x) (front_less p b s)

pub above_less : (p q : List ℕ) → is_above p q ≡ true → byte_order p q ≡ Less
above_less p q above = let parts = above_is p q above in rw parts.2 (front_less p 47 (parts.0 ∷ parts.1))

-- ---- the least text below another

no_zero_more : (s : List ℕ) → is_lt (byte_order s []) ≡ false
no_zero_more [] = refl
no_zero_more (x ∷ s) = refl

from_zero_by : (c : ℕ) (s : List ℕ) (r : Ordering) → MatchOrdering r (c < 0) (c ≡ 0) (0 < c) → is_lt (ordering_then r (byte_order s [])) ≡ false
from_zero_by c s Less m = absurd (omega (arith, m))
from_zero_by c s Equal m = no_zero_more s
from_zero_by c s Greater m = refl

from_bound : (p : List ℕ) (c : ℕ) (s : List ℕ) → precedes (p ++ 47 ∷ c ∷ s) (below_bound p) ≡ false
from_bound [] c s = from_zero_by c s (nat_cmp c 0) (ranked c 0 (nat_cmp c 0) refl)
from_bound (x ∷ p) c s = rw (number_itself x) (from_bound p c s)

-- what stands below a text does not stand before the least one that could
pub below_from : (p q : List ℕ) → is_above p q ≡ true → precedes q (below_bound p) ≡ false
below_from p q above = let parts = above_is p q above in rw parts.2 (from_bound p parts.0 parts.1)

slash_by : (x : ℕ) (a s : List ℕ) (c : ℕ) (r : Ordering) → nat_cmp x 47 ≡ r → MatchOrdering r (x < 47) (x ≡ 47) (47 < x)
    → is_lt (ordering_then r (byte_order a (0 ∷ []))) ≡ false → is_lt (ordering_then (ordering_reverse r) (byte_order (c ∷ s) a)) ≡ false → is_above [] (x ∷ a) ≡ true
slash_by x a s c Less is m low high = absurd (false≢true (sym low))
slash_by x [] s c Equal is m low high = absurd (false≢true (sym low))
slash_by x (y ∷ a) s c Equal is m low high = eq-eqb x 47 m
slash_by x a s c Greater is m low high = absurd (false≢true (sym high))

step_by : (x t : ℕ) (p a q : List ℕ) (r : Ordering) → nat_cmp x t ≡ r → MatchOrdering r (x < t) (x ≡ t) (t < x)
    → is_lt (ordering_then r (byte_order a (below_bound p))) ≡ false → is_lt (ordering_then (ordering_reverse r) (byte_order q a)) ≡ false
    → (is_lt (byte_order a (below_bound p)) ≡ false → is_lt (byte_order q a) ≡ false → is_above p a ≡ true) → cond (eqb t x) (is_above p a) false ≡ true
step_by x t p a q Less is m low high more = absurd (false≢true (sym low))
step_by x t p a q Equal is m low high more = ap (λ b. cond b (is_above p a) false) (eq-eqb t x (sym m)) ∙ more low high
step_by x t p a q Greater is m low high more = absurd (false≢true (sym high))

squeezed_by : (p a : List ℕ) (c : ℕ) (s : List ℕ) → precedes a (below_bound p) ≡ false → precedes (p ++ 47 ∷ c ∷ s) a ≡ false → is_above p a ≡ true
squeezed_by [] [] c s low high = absurd (false≢true (sym low))
squeezed_by [] (x ∷ a) c s low high =
    slash_by x a s c (nat_cmp x 47) refl (ranked x 47 (nat_cmp x 47) refl) low
    (ap (λ r. is_lt (ordering_then r (byte_order (c ∷ s) a))) (sym (nat_cmp_total.antisymm 47 x)) ∙ high)
squeezed_by (t ∷ p) [] c s low high = absurd (false≢true (sym low))
squeezed_by (t ∷ p) (x ∷ a) c s low high =
    step_by x t p a (p ++ 47 ∷ c ∷ s) (nat_cmp x t) refl (ranked x t (nat_cmp x t) refl) low
    (ap (λ r. is_lt (ordering_then r (byte_order (p ++ 47 ∷ c ∷ s) a))) (sym (nat_cmp_total.antisymm t x)) ∙ high) (squeezed_by p a c s)

-- what stands between the least text below another and one that is below it is below it, too
pub squeezed : (p a q : List ℕ) → precedes a (below_bound p) ≡ false → is_above p q ≡ true → precedes q a ≡ false → is_above p a ≡ true
squeezed p a q low above high =
    let parts = above_is p q above in
    squeezed_by p a parts.0 parts.1 low (ap (λ x. precedes x a) (sym parts.2) ∙ high)

-- ---- above, by its length

pub above_short : (p q : List ℕ) → length q < length p → is_above p q ≡ false
above_short [] q short = absurd (omega (arith, short))
above_short (x ∷ p) [] short = refl
above_short (x ∷ p) (y ∷ q) short = by (eqb x y) (above_short p q (omega (arith, short)))
  where
    by : (b : Bool) → is_above p q ≡ false → cond b (is_above p q) false ≡ false
    by true is = is
    by false is = refl

pub above_splits : (p q : List ℕ) → length p < suc (length q) → is_above p q ≡ (bytes_eq (take (length p) q) p && is_above [] (drop (length p) q))
above_splits [] q long = refl
above_splits (x ∷ p) [] long = absurd (omega (arith, long))
above_splits (x ∷ p) (y ∷ q) long = by (eqb x y) (eqb y x) (turn x y) (above_splits p q (omega (arith, long)))
  where
    turn : (x y : ℕ) → eqb x y ≡ eqb y x
    turn x y = grind arith

    by : (b c : Bool) → b ≡ c → is_above p q ≡ (bytes_eq (take (length p) q) p && is_above [] (drop (length p) q))
        → cond b (is_above p q) false ≡ ((c && bytes_eq (take (length p) q) p) && is_above [] (drop (length p) q))
    by true true is more = more
    by true false is more = absurd (false≢true (sym is))
    by false true is more = absurd (false≢true is)
    by false false is more = refl

and_left : (a b : Bool) → (a && b) ≡ true → a ≡ true
and_left true b is = refl
and_left false b is = absurd (false≢true is)

and_right : (a b : Bool) → (a && b) ≡ true → b ≡ true
and_right true b is = is
and_right false b is = absurd (false≢true is)

-- what is above a text is a front of it, before a slash and more
pub record IsFront (p q : List ℕ) : Type 0 where
  pub short : length p < length q
  pub front : take (length p) q ≡ p
  pub slash : is_above [] (drop (length p) q) ≡ true

pub front_of : (p q : List ℕ) → is_above p q ≡ true → IsFront p q
front_of p q above =
    let parts = above_is p q above in
    let short : length p < length q = omega (arith, ap length parts.2, length-append p (47 ∷ parts.0 ∷ parts.1)) in
    let both = sym (above_splits p q (omega (arith, short))) ∙ above in
    record {
      short = short;
      front = equal_bytes (take (length p) q) p (and_left (bytes_eq (take (length p) q) p) (is_above [] (drop (length p) q)) both);
      slash = and_right (bytes_eq (take (length p) q) p) (is_above [] (drop (length p) q)) both;
    }

pub above_take : (n : ℕ) (q : List ℕ) → n < suc (length q) → is_above (take n q) q ≡ is_above [] (drop n q)
above_take zero q long = refl
above_take (suc n) [] long = absurd (omega (arith, long))
above_take (suc n) (x ∷ q) long = ap (λ b. cond b (is_above (take n q) q) false) (eq-eqb x x refl) ∙ above_take n q (omega (arith, long))

-- of two fronts the longer one does not stand before the other
pub longer_not_before : (m n : ℕ) (q : List ℕ) → m < suc n → precedes (take n q) (take m q) ≡ false
longer_not_before zero n q long = no_zero_more (take n q)
longer_not_before (suc m) zero q long = absurd (omega (arith, long))
longer_not_before (suc m) (suc n) [] long = refl
longer_not_before (suc m) (suc n) (x ∷ q) long =
    ap (λ r. is_lt (ordering_then r (byte_order (take n q) (take m q)))) (number_itself x) ∙ longer_not_before m n q (omega (arith, long))
