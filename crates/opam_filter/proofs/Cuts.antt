-- Where texts are cut.
use Rattle.std.proofs.Common.{◌≡◌, ℕ, zero, suc, ◌+◌, ◌<◌, ◌≤◌, ◌==◌, ◌&&◌, Bool, true, false, cond, not, ◌||◌, List, [], ◌∷◌, ◌++◌, length, refl, sym, ap, subst, ◌∙◌, arith, Bor, eq-eqb, eqb-true, length-append}
use Rattle.std.specs.List.{after_first, before_first, list_any, position_or_len}
use Rattle.std.specs.Option.{MatchOption, option_map}
use Rattle.std.specs.Str.Pattern.{FindsText, SplitsAroundMatch, LacksTextAt}
use Rattle.std.proofs.lemmas.Str.Pattern.{split_text_parts}
use Rattle.std.specs.declared.option.Option.{Option}
use Rattle.std.specs.declared.option.Option.TheVariants.{None, Some}
use Rattle.opam_filter.specs.Scopes.{plain, scoped}
use Rattle.opam_filter.specs.Texts.{Cut, Parts, behind, closed, cut_at, is_colon, opened, parts_after, parts_from, parts_of, parts_up_to, variable_of, with_hole, without_holes}

-- whether the two bytes stand here
abbrev stands : ℕ → ℕ → ℕ → ℕ → Bool
stands a b x y = x == a && y == b

abbrev onto : ℕ → Option Cut → Option Cut
onto x o = option_map (behind x) o

both_hold : (x y : Bool) → (x && y) ≡ true → (x ≡ true) × (y ≡ true)
both_hold true y h = (refl, h)
both_hold false y h = cc

two_stand : (a b x y : ℕ) → stands a b x y ≡ true → (x ≡ a) × (y ≡ b)
two_stand a b x y h =
    let both = both_hold (x == a) (y == b) h in
    (eqb-true x a both.0, eqb-true y b both.1)

-- a byte at which the two do not stand is passed over
passed : (a b x : ℕ) (rest : List ℕ) → LacksTextAt (a ∷ b ∷ []) (x ∷ rest) 0 → cut_at a b (x ∷ rest) ≡ onto x (cut_at a b rest)
passed a b x [] lacks = refl
passed a b x (y ∷ rest) lacks = by (stands a b x y) refl
  where
    by : (t : Bool) → stands a b x y ≡ t → cond t (Some (record { before = []; after = rest })) (onto x (cut_at a b (y ∷ rest))) ≡ onto x (cut_at a b (y ∷ rest))
    by false e = refl
    by true e =
        let two = two_stand a b x y e in
        let same : x ∷ y ∷ rest ≡ a ∷ b ∷ rest = (λ k. two.0 k ∷ two.1 k ∷ rest) in
        absurd (lacks rest same)

-- nothing is cut where they stand nowhere
none_cut : (a b : ℕ) (s : List ℕ) → ((i : ℕ) → i ≤ length s → LacksTextAt (a ∷ b ∷ []) s i) → cut_at a b s ≡ None
none_cut a b [] lacks = refl
none_cut a b (x ∷ rest) lacks =
    passed a b x rest (lacks 0 (omega arith)) ∙ ap (onto x) (none_cut a b rest (λ i h. lacks (suc i) (omega arith)))

here_cut : (a b : ℕ) (ys : List ℕ) → cut_at a b (a ∷ b ∷ ys) ≡ Some (record { before = []; after = ys })
here_cut a b ys = ap (λ t. cond (t && b == b) (Some (record { before = []; after = ys })) (onto a (cut_at a b (b ∷ ys)))) (eq-eqb a a refl)
    ∙ ap (λ t. cond t (Some (record { before = []; after = ys })) (onto a (cut_at a b (b ∷ ys)))) (eq-eqb b b refl)

-- what is cut where they stand first
first_cut : (a b : ℕ) (xs ys : List ℕ) → ((i : ℕ) → i < length xs → LacksTextAt (a ∷ b ∷ []) (xs ++ a ∷ b ∷ ys) i)
    → cut_at a b (xs ++ a ∷ b ∷ ys) ≡ Some (record { before = xs; after = ys })
first_cut a b [] ys lacks = here_cut a b ys
first_cut a b (x ∷ xs) ys lacks =
    passed a b x (xs ++ a ∷ b ∷ ys) (lacks 0 (omega arith))
    ∙ ap (onto x) (first_cut a b xs ys (λ i h. lacks (suc i) (omega arith)))

cut_found : (a b : ℕ) (s front back : List ℕ) → s ≡ front ++ a ∷ b ∷ back → ((i : ℕ) → i < length front → LacksTextAt (a ∷ b ∷ []) s i)
    → cut_at a b s ≡ Some (record { before = front; after = back })
cut_found a b s front back whole lacks =
    ap (cut_at a b) whole ∙ first_cut a b front back (λ i h. subst (λ (t : List ℕ). LacksTextAt (a ∷ b ∷ []) t i) whole (lacks i h))

-- a text is cut where the two bytes are found first
pub cut_at_match : (a b : ℕ) (s : List ℕ) (r : Option (Bor (List ℕ) × Bor (List ℕ)))
    → MatchOption r (FindsText (a ∷ b ∷ []) s None) (λ x. SplitsAroundMatch (FindsText (a ∷ b ∷ [])) s x.0.now x.1.now)
    → MatchOption r (cut_at a b s ≡ None) (λ x. cut_at a b s ≡ Some (record { before = x.0.now; after = x.1.now }))
cut_at_match a b s None h = none_cut a b s h
cut_at_match a b s (Some x) h =
    cut_found a b s x.0.now x.1.now (split_text_parts (a ∷ b ∷ []) s (Some x) h) (λ i l. h.2.0 i (omega arith))

-- what a cut is
pub record IsCut (a b : ℕ) (s : List ℕ) (cut : Cut) : Type 0 where
  pub whole : s ≡ cut.before ++ a ∷ b ∷ cut.after
  pub first : cut_at a b cut.before ≡ None

-- one more byte before a cut is passed over as well
still_none : (a b x y : ℕ) (rest before after : List ℕ) → stands a b x y ≡ false → y ∷ rest ≡ before ++ a ∷ b ∷ after → cut_at a b before ≡ None → cut_at a b (x ∷ before) ≡ None
still_none a b x y rest [] after apart whole none = refl
still_none a b x y rest (z ∷ before) after apart whole none =
    let same : y ≡ z = cc in
    let here : stands a b x z ≡ false = ap (stands a b x) (sym same) ∙ apart in
    ap (λ t. cond t (Some (record { before = []; after = before })) (onto x (cut_at a b (z ∷ before)))) here ∙ ap (onto x) none

-- each cut is one
pub is_cut : (a b : ℕ) (s : List ℕ) (cut : Cut) → cut_at a b s ≡ Some cut → IsCut a b s cut
is_cut a b [] cut h = cc
is_cut a b (x ∷ []) cut h = cc
is_cut a b (x ∷ y ∷ rest) cut h = by (stands a b x y) refl (cut_at a b (y ∷ rest)) refl (λ more f. is_cut a b (y ∷ rest) more f) h
  where
    by : (t : Bool) → stands a b x y ≡ t → (o : Option Cut) → cut_at a b (y ∷ rest) ≡ o → ((more : Cut) → cut_at a b (y ∷ rest) ≡ Some more → IsCut a b (y ∷ rest) more)
        → cond t (Some (record { before = []; after = rest })) (onto x o) ≡ Some cut → IsCut a b (x ∷ y ∷ rest) cut
    by true e o f later h =
        let two = two_stand a b x y e in
        let whole : x ∷ y ∷ rest ≡ a ∷ b ∷ rest = (λ k. two.0 k ∷ two.1 k ∷ rest) in
        let here : IsCut a b (x ∷ y ∷ rest) (record { before = []; after = rest }) = record { whole = whole; first = refl } in
        let same : record { before = []; after = rest } ≡ cut = cc in
        subst (IsCut a b (x ∷ y ∷ rest)) same here
    by false e None f later h = cc
    by false e (Some more) f later h =
        let then = later more f in
        let here : IsCut a b (x ∷ y ∷ rest) (behind x more) =
        record { whole = ap (λ s. x ∷ s) then.whole; first = still_none a b x y rest more.before more.after e then.whole then.first } in
        let same : behind x more ≡ cut = cc in
        subst (IsCut a b (x ∷ y ∷ rest)) same here

-- what stands after a cut is shorter
pub cut_shorter : (a b : ℕ) (s : List ℕ) (cut : Cut) → cut_at a b s ≡ Some cut → length cut.after < length s
cut_shorter a b s cut h =
    let whole = (is_cut a b s cut h).whole in
    let longer = length-append cut.before (a ∷ b ∷ cut.after) in
    let same = ap length whole in
    omega arith

-- parts are made by functions that agree on shorter texts
same_after : (f g : List ℕ → Parts) (text : List ℕ) (opening : Cut) (o : Option Cut) → length opening.after < length text → closed opening.after ≡ o
    → ((s : List ℕ) → length s < length text → f s ≡ g s) → parts_after f text opening o ≡ parts_after g text opening o
same_after f g text opening None short e same = refl
same_after f g text opening (Some closing) short e same =
    let shorter = cut_shorter 125 37 opening.after closing e in
    ap (with_hole opening.before closing.before) (same closing.after (omega arith))

same_from : (f g : List ℕ → Parts) (text : List ℕ) (o : Option Cut) → opened text ≡ o
    → ((s : List ℕ) → length s < length text → f s ≡ g s) → parts_from f text o ≡ parts_from g text o
same_from f g text None e same = refl
same_from f g text (Some opening) e same = same_after f g text opening (closed opening.after) (cut_shorter 37 123 text opening e) refl same

no_parts : (n : ℕ) → parts_up_to n [] ≡ without_holes []
no_parts zero = refl
no_parts (suc n) = refl

-- a count is enough from the length on
enough : (m n : ℕ) (text : List ℕ) → length text ≤ m → length text ≤ n → parts_up_to m text ≡ parts_up_to n text
enough m n [] h k = no_parts m ∙ sym (no_parts n)
enough zero n (x ∷ text) h k = absurd (omega arith)
enough (suc m) zero (x ∷ text) h k = absurd (omega arith)
enough (suc m) (suc n) (x ∷ text) h k =
    same_from (parts_up_to m) (parts_up_to n) (x ∷ text) (opened (x ∷ text)) refl (λ s l. enough m n s (omega arith) (omega arith))

-- the parts of a text, one step
pub parts_step : (text : List ℕ) → parts_of text ≡ parts_from parts_of text (opened text)
parts_step [] = refl
parts_step (x ∷ text) =
    same_from (parts_up_to (length text)) parts_of (x ∷ text) (opened (x ∷ text)) refl (λ s l. enough (length text) (length s) s (omega arith) (omega arith))

-- the first interpolation and what follows it
pub one_hole : (text : List ℕ) (opening closing : Cut) → opened text ≡ Some opening → closed opening.after ≡ Some closing
    → parts_of text ≡ with_hole opening.before closing.before (parts_of closing.after)
one_hole text opening closing h k = parts_step text ∙ ap (parts_from parts_of text) h ∙ ap (parts_after parts_of text opening) k

pub hole_shorter : (text : List ℕ) (opening closing : Cut) → opened text ≡ Some opening → closed opening.after ≡ Some closing → length closing.after < length text
hole_shorter text opening closing h k =
    let one = cut_shorter 37 123 text opening h in
    let two = cut_shorter 125 37 opening.after closing k in
    omega arith

-- where no byte passes, none is found
none_found : (p : ℕ → Bool) (xs : List ℕ) → position_or_len p xs ≡ length xs → list_any p xs ≡ false
none_found p [] h = refl
none_found p (x ∷ xs) h =
    elim (p x) as (λ b. cond (not b) (1 + position_or_len p xs) 0 ≡ suc (length xs) → (b || list_any p xs) ≡ false) [
      | true ↦ λ e. absurd (omega arith)
      | false ↦ λ e. none_found p xs (omega arith)
    ] h

-- a variable without a scope
pub without_colon : (text : List ℕ) → position_or_len is_colon text ≡ length text → plain text ≡ variable_of text
without_colon text h =
    sym (ap (λ b. cond b (scoped (before_first is_colon text) (after_first is_colon text)) (plain text)) (none_found is_colon text h))
