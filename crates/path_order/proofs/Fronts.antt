-- Texts in byte order, and the fronts that they share.
use Rattle.std.proofs.Common.{◌≡◌, ℕ, ◌+◌, ◌<◌, ◌⊎◌, inl, inr, Bool, true, false, List, [], ◌∷◌, ◌++◌, length, take, get_or, refl, sym, ◌∙◌, ap, subst, arith, cond, eqb}
use Rattle.std.specs.Prelude.{◌&&◌}
use Rattle.std.specs.List.{list_all}
use Rattle.std.specs.Ordering.{MatchOrdering, nat_cmp, ordering_reverse, ordering_then}
use Rattle.std.specs.declared.cmp.Ordering.{Ordering}
use Rattle.std.specs.declared.cmp.Ordering.TheVariants.{Less, Equal, Greater}
use Rattle.std.proofs.lemmas.Bool.{eq-eqb, eqb-true, false≢true}
use Rattle.std.proofs.lemmas.Cmp.{nat_cmp_total, nat_list_cmp_total, ranked, tied_itself}
use Rattle.std.proofs.lemmas.List.{length-append, take_at}
use Rattle.std.proofs.lemmas.Map.Lookups.{exact_bytes}
use Rattle.opam_names.specs.ByteOrders.{byte_order}
use Rattle.opam_names.specs.Paths.{IsPath, is_above, is_part, onto_first, parts}
use Rattle.path_order.specs.Parting.{common_len}

-- ---- the order

abbrev pub C : List ℕ → List ℕ → Ordering
C = byte_order

pub not_itself : (a : List ℕ) → C a a ≡ Less → ⊥
not_itself a less = let same = tied_itself nat_list_cmp_total a in cc

pub not_back : (a b : List ℕ) → C a b ≡ Less → C b a ≡ Less → ⊥
not_back a b less back = not_itself a (nat_list_cmp_total.trans a b a less back)

three_by : (a b : List ℕ) (o : Ordering) → C a b ≡ o → (C a b ≡ Less) ⊎ ((a ≡ b) ⊎ (C b a ≡ Less))
three_by a b Less e = inl e
three_by a b Equal e = inr (inl (exact_bytes a b e))
three_by a b Greater e = inr (inr (nat_list_cmp_total.antisymm b a ∙ ap ordering_reverse e))

-- a text stands before another, is the same, or stands after it
pub three : (a b : List ℕ) → (C a b ≡ Less) ⊎ ((a ≡ b) ⊎ (C b a ≡ Less))
three a b = three_by a b (C a b) refl

-- a text that is not before one that is before a third
pub less_from : (a b c : List ℕ) → (C b a ≡ Less → ⊥) → C b c ≡ Less → C a c ≡ Less
less_from a b c not_less less = elim (three a b) [
  | inl e ↦ nat_list_cmp_total.trans a b c e less
  | inr (inl e) ↦ let P : List ℕ → Type 0 = λ x. C x c ≡ Less in subst P (sym e) less
  | inr (inr e) ↦ absurd (not_less e)
]

-- ---- fronts

-- what stands between a text and a longer one that begins with it begins with it, too
between_by : (x y : ℕ) (p o s : List ℕ) (r : Ordering) → r ≡ nat_cmp y x → MatchOrdering r (y < x) (y ≡ x) (x < y)
    → (ordering_then r (C o p) ≡ Less → ⊥) → ordering_then r (C o (p ++ s)) ≡ Less
    → ((C o p ≡ Less → ⊥) → C o (p ++ s) ≡ Less → (t : List ℕ) × (o ≡ p ++ t)) → (t : List ℕ) × (y ∷ o ≡ x ∷ p ++ t)
between_by x y p o s Less e m not_less less more = absurd (not_less refl)
between_by x y p o s Equal e m not_less less more = let rest = more not_less less in (rest.0, λ i. m i ∷ rest.1 i)
between_by x y p o s Greater e m not_less less more = absurd cc

pub between : (p o s : List ℕ) → (C o p ≡ Less → ⊥) → C o (p ++ s) ≡ Less → (t : List ℕ) × (o ≡ p ++ t)
between [] o s not_less less = (o, refl)
between (x ∷ p) [] s not_less less = absurd (not_less refl)
between (x ∷ p) (y ∷ o) s not_less less =
    between_by x y p o s (nat_cmp y x) refl (ranked y x (nat_cmp y x) refl) not_less less (between p o s)

-- ---- above

above_by : (x y : ℕ) (p q : List ℕ) (b : Bool) → eqb x y ≡ b → cond b (is_above p q) false ≡ true → (is_above p q ≡ true → (c : ℕ) × (s : List ℕ) × (q ≡ p ++ 47 ∷ c ∷ s))
    → (c : ℕ) × (s : List ℕ) × (y ∷ q ≡ x ∷ p ++ 47 ∷ c ∷ s)
above_by x y p q true same above more = let rest = more above in let head = sym (eqb-true x y same) in (rest.0, rest.1, λ i. head i ∷ rest.2 i)
above_by x y p q false same above more = absurd cc

pub above_is : (p q : List ℕ) → is_above p q ≡ true → (c : ℕ) × (s : List ℕ) × (q ≡ p ++ 47 ∷ c ∷ s)
above_is [] [] e = absurd cc
above_is [] (b ∷ []) e = absurd cc
above_is [] (b ∷ c ∷ s) e = let slash = eqb-true b 47 e in (c, s, λ i. slash i ∷ c ∷ s)
above_is (x ∷ p) [] e = absurd cc
above_is (x ∷ p) (y ∷ q) e = above_by x y p q (eqb x y) refl e (above_is p q)

pub above_from : (p : List ℕ) (c : ℕ) (s : List ℕ) → is_above p (p ++ 47 ∷ c ∷ s) ≡ true
above_from [] c s = refl
above_from (x ∷ p) c s = rw (eq-eqb x x refl) (above_from p c s)

pub common_front : (p t s : List ℕ) → common_len t s ≡ 0 → common_len (p ++ t) (p ++ s) ≡ length p
common_front [] t s none = none
common_front (x ∷ p) t s none = rw (eq-eqb x x refl) (omega (arith, common_front p t s none))

-- a text stands before one that begins with it and goes on
pub front_less : (p : List ℕ) (b : ℕ) (s : List ℕ) → C p (p ++ b ∷ s) ≡ Less
front_less [] b s = refl
front_less (x ∷ p) b s = rw (number_itself x) (front_less p b s)
  where
    number_itself : (n : ℕ) → nat_cmp n n ≡ Equal
    number_itself n = tied_itself nat_cmp_total n

pub above_less : (p q : List ℕ) → is_above p q ≡ true → C p q ≡ Less
above_less p q above = let parts = above_is p q above in rw parts.2 (front_less p 47 (parts.0 ∷ parts.1))

pub is_false : (b : Bool) → (b ≡ true → ⊥) → b ≡ false
is_false true h = absurd (h refl)
is_false false h = refl

-- what does not stand before a text is not above it
pub not_above : (p q : List ℕ) → (C p q ≡ Less → ⊥) → is_above p q ≡ false
not_above p q not_less = is_false (is_above p q) (λ above. not_less (above_less p q above))

-- ---- paths

-- the parts of a text that ends in a slash end in an empty one
abbrev ends_empty : List (List ℕ) → Type 0
ends_empty ps = (first : List ℕ) × (more : List (List ℕ)) × (ps ≡ first ∷ more ++ [] ∷ [])

onto_ends : (b : ℕ) (ps : List (List ℕ)) → ends_empty ps → ends_empty (onto_first b ps)
onto_ends b ps h = (b ∷ h.0, h.1, ap (onto_first b) h.2)

slash_by : (b : ℕ) (ps : List (List ℕ)) (t : Bool) → ends_empty ps → ends_empty (cond t ([] ∷ ps) (onto_first b ps))
slash_by b ps true h = ([], h.0 ∷ h.1, λ i. [] ∷ h.2 i)
slash_by b ps false h = onto_ends b ps h

slash_ends : (p : List ℕ) → ends_empty (parts (p ++ 47 ∷ []))
slash_ends [] = ([], [], refl)
slash_ends (b ∷ p) = slash_by b (parts (p ++ 47 ∷ [])) (eqb b 47) (slash_ends p)

list_all-last : (test : List ℕ → Bool) (more : List (List ℕ)) (last : List ℕ) → test last ≡ false → list_all test (more ++ last ∷ []) ≡ false
list_all-last test [] last no_pass = rw no_pass refl
list_all-last test (first ∷ more) last no_pass = and_false (test first) (list_all test (more ++ last ∷ [])) (list_all-last test more last no_pass)
  where
    and_false : (a b : Bool) → b ≡ false → a && b ≡ false
    and_false true b e = e
    and_false false b e = refl

-- no path ends in a slash
pub no_last_slash : (p : List ℕ) → IsPath (p ++ 47 ∷ []) → ⊥
no_last_slash p path =
    let ends = slash_ends p in
    let bad : list_all is_part (parts (p ++ 47 ∷ [])) ≡ false = ap (list_all is_part) ends.2 ∙ list_all-last is_part (ends.0 ∷ ends.1) [] refl in
    false≢true (sym bad ∙ path.1.good_parts)

-- what a path that begins as this one does goes on with, where this one is not above it
slash_or : (p t s : List ℕ) (c b : ℕ) (same : Bool) → eqb b 47 ≡ same → IsPath (p ++ b ∷ t) → is_above p (p ++ b ∷ t) ≡ false → cond same (1 + common_len t (c ∷ s)) 0 ≡ 0
slash_or p t s c b false same path free = refl
slash_or p [] s c b true same path free =
    let slash : b ≡ 47 = eqb-true b 47 same in
    let P : ℕ → Type 0 = λ x. IsPath (p ++ x ∷ []) in absurd (no_last_slash p (subst P slash path))
slash_or p (d ∷ t) s c b true same path free =
    let slash : b ≡ 47 = eqb-true b 47 same in
    let P : ℕ → Type 0 = λ x. is_above p (p ++ x ∷ d ∷ t) ≡ false in absurd (false≢true (sym (subst P slash free) ∙ above_from p d t))

parts_there : (p t s : List ℕ) (c : ℕ) → IsPath (p ++ t) → is_above p (p ++ t) ≡ false → common_len t (47 ∷ c ∷ s) ≡ 0
parts_there p [] s c path free = refl
parts_there p (b ∷ t) s c path free = slash_or p t s c b (eqb b 47) refl path free

-- where a path ends that is above this one: it is what the last path before this one shares with it, and a slash follows
pub record IsParent (p o q : List ℕ) : Type 0 where
  pub front : p ≡ take (common_len o q) q
  pub slash : get_or q (common_len o q) 0 ≡ 47
  pub within : common_len o q < length q

pub parent : (p o q : List ℕ) → is_above p q ≡ true → (C o p ≡ Less → ⊥) → C o q ≡ Less → is_above p o ≡ false → IsPath o → IsParent p o q
parent p o q above not_less less free path =
    let parts = above_is p q above in
    let rest = 47 ∷ parts.0 ∷ parts.1 in
    let less_rest : C o (p ++ rest) ≡ Less = let P : List ℕ → Type 0 = λ x. C o x ≡ Less in subst P parts.2 less in
    let begins = between p o rest not_less less_rest in
    let P : List ℕ → Type 0 = λ x. IsPath x in
    let Q : List ℕ → Type 0 = λ x. is_above p x ≡ false in
    let apart = parts_there p begins.0 parts.1 parts.0 (subst P begins.1 path) (subst Q begins.1 free) in
    let len : common_len o q ≡ length p = ap (λ (x : List ℕ). common_len x q) begins.1 ∙ ap (λ (x : List ℕ). common_len (p ++ begins.0) x) parts.2 ∙ common_front p begins.0 rest apart in
    record {
      front = sym (ap (λ (n : ℕ). take n q) len ∙ ap (take (length p)) parts.2 ∙ take_at p rest (length p) refl);
      slash = ap (λ (n : ℕ). get_or q n 0) len ∙ ap (λ (x : List ℕ). get_or x (length p) 0) parts.2 ∙ seam p rest;
      within = omega (arith, len, ap length parts.2, length-append p rest);
    }
  where
    seam : (p rest : List ℕ) → get_or (p ++ rest) (length p) 0 ≡ get_or rest 0 0
    seam [] rest = refl
    seam (x ∷ p) rest = seam p rest
