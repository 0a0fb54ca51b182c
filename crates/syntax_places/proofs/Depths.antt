-- Which places of bytes are too deep, told from a text that begins like them.
use Rattle.std.proofs.Common.{◌≡◌, ℕ, zero, suc, ◌+◌, ◌<◌, ◌≤◌, Bool, true, false, not, nat_lt, ◌&&◌, ◌||◌, List, [], ◌∷◌, ◌++◌, length, take, drop, get_or, refl, ap, sym, subst, ◌∙◌, arith, ◌⊎◌, inl, inr, if◌then◌else◌}
use Rattle.std.proofs.Math.ListN.{length-take}
use Rattle.std.proofs.lemmas.Bool.{cases_lt}
use Rattle.std.proofs.lemmas.Bool.Decides.{nat_tests}
use Rattle.std.proofs.lemmas.List.{length-append, take-append-drop}
use Rattle.std.specs.declared.option.Option.{Option}
use Rattle.std.specs.declared.option.Option.TheVariants.{None, Some}
use Rattle.opam_names.proofs.Bytes.{both_left, both_right}
use Rattle.syntax_trees.specs.Faults.{BeginsFile, NestsAt, IsTooDeep, begins_longer}
use Rattle.syntax_trees.specs.Following.{at_entry, tokens_followed as followed}
use Rattle.syntax_trees.specs.Tokens.{first, Single, Placed, placed, span_between, AreTokens, ends, gap, single}
use Rattle.syntax_trees.proofs.NowhereDeep.{OpensWith, opens_with, opening_first, lexes_onto}
use Rattle.syntax_faults.specs.Endings.{TokensFollow}
use Rattle.syntax_faults.proofs.Begun.{begins_front}
use Rattle.syntax_faults.proofs.DeepPlaces.{deep_places_are_told}
use Rattle.syntax_places.specs.Beginnings.{IsLongest}
use Rattle.syntax_places.specs.Depths.{IsFirstDeep, place_before, place_within}
use Rattle.syntax_places.proofs.Walked.{kinds_more}

-- bytes that begin alike
front_same : (bytes e : List ℕ) (n k : ℕ) → k ≤ n → n ≤ length bytes → take k (take n bytes ++ e) ≡ take k bytes
front_same bytes e n zero l w = refl
front_same [] e n (suc k) l w = absurd (omega arith)
front_same (b ∷ bytes) e zero (suc k) l w = absurd (omega arith)
front_same (b ∷ bytes) e (suc n) (suc k) l w = ap (λ z. b ∷ z) (front_same bytes e n k (omega arith) (omega arith))

take_take : (bytes : List ℕ) (k m : ℕ) → k ≤ m → take k (take m bytes) ≡ take k bytes
take_take bytes zero m l = refl
take_take [] (suc k) zero l = refl
take_take [] (suc k) (suc m) l = refl
take_take (b ∷ bytes) (suc k) zero l = absurd (omega arith)
take_take (b ∷ bytes) (suc k) (suc m) l = ap (λ z. b ∷ z) (take_take bytes k m (omega arith))

-- the two bytes from which a longer sign is told
longer_same : (bytes e : List ℕ) (n q : ℕ) → q + 1 < n → n ≤ length bytes → begins_longer (drop q (take n bytes ++ e)) ≡ begins_longer (drop q bytes)
longer_same [] e n q l w = absurd (omega arith)
longer_same (x ∷ bytes) e zero q l w = absurd (omega arith)
longer_same (x ∷ bytes) e (suc n) (suc q) l w = longer_same bytes e n q (omega arith) (omega arith)
longer_same (x ∷ []) e (suc n) zero l w = absurd (omega arith)
longer_same (x ∷ y ∷ bytes) e (suc zero) zero l w = absurd (omega arith)
longer_same (x ∷ y ∷ bytes) e (suc (suc n)) zero l w = refl

last_drop : (bytes e : List ℕ) (n q : ℕ) → q + 1 ≡ n → n ≤ length bytes → drop q (take n bytes ++ e) ≡ get_or bytes q 0 ∷ e
last_drop [] e n q l w = absurd (omega arith)
last_drop (x ∷ bytes) e zero q l w = absurd (omega arith)
last_drop (x ∷ bytes) e (suc n) (suc q) l w = last_drop bytes e n q (omega arith) (omega arith)
last_drop (x ∷ bytes) e (suc zero) zero l w = refl
last_drop (x ∷ bytes) e (suc (suc n)) zero l w = absurd (omega arith)

no_two : (a b : Bool) → ((a && false) || (b && false)) ≡ false
no_two true true = refl
no_two true false = refl
no_two false true = refl
no_two false false = refl

last_blank : (x : ℕ) → begins_longer (x ∷ 32 ∷ []) ≡ false
last_blank x = no_two _ _

-- what is too deep stands where the bytes begin a file
deep_within : (bytes : List ℕ) (n q : ℕ) → IsLongest bytes n → IsTooDeep bytes q → q < n
deep_within bytes n q g d = elim (cases_lt q n) [
  | inl l ↦ l
  | inr m ↦ (
      let within = d.within in
      let s = d.nests in
      let all : BeginsFile (take (q + 1) bytes) = (s.more, (s.entries, (s.tokens, s.spelled, s.derived))) in
      let split : take (n + 1) bytes ++ drop (n + 1) (take (q + 1) bytes) ≡ take (q + 1) bytes =
      ap (λ z. z ++ drop (n + 1) (take (q + 1) bytes)) (sym (take_take bytes (n + 1) (q + 1) (omega arith))) ∙ take-append-drop (n + 1) (take (q + 1) bytes) in
      absurd (g.stray (omega arith) (begins_front (take (n + 1) bytes) (drop (n + 1) (take (q + 1) bytes)) (subst BeginsFile (sym split) all))))
]

long_text : (bytes e : List ℕ) (n : ℕ) → n ≤ length bytes → n ≤ length (take n bytes ++ e)
long_text bytes e n w = omega (arith, length-append (take n bytes) e, length-take n bytes)

nests_there : (bytes e : List ℕ) (n q : ℕ) → q < n → n ≤ length bytes → NestsAt (take (q + 1) bytes) q → NestsAt (take (q + 1) (take n bytes ++ e)) q
nests_there bytes e n q l w s = subst (λ z. NestsAt z q) (sym (front_same bytes e n (q + 1) (omega arith) w)) s

nests_back : (bytes e : List ℕ) (n q : ℕ) → q < n → n ≤ length bytes → NestsAt (take (q + 1) (take n bytes ++ e)) q → NestsAt (take (q + 1) bytes) q
nests_back bytes e n q l w s = subst (λ z. NestsAt z q) (front_same bytes e n (q + 1) (omega arith) w) s

-- a place before the last byte of those that are the same
to_text : (bytes e : List ℕ) (n q : ℕ) → q + 1 < n → n ≤ length bytes → IsTooDeep bytes q → IsTooDeep (take n bytes ++ e) q
to_text bytes e n q l w d =
    let long = long_text bytes e n w in
    record { within = omega arith; nests = nests_there bytes e n q (omega arith) w d.nests; whole = longer_same bytes e n q l w ∙ d.whole }

of_text : (bytes e : List ℕ) (n q : ℕ) → q + 1 < n → n ≤ length bytes → IsTooDeep (take n bytes ++ e) q → IsTooDeep bytes q
of_text bytes e n q l w d =
    record { within = omega arith; nests = nests_back bytes e n q (omega arith) w d.nests; whole = sym (longer_same bytes e n q l w) ∙ d.whole }

-- and the last byte, before a blank
to_blank : (bytes : List ℕ) (n q : ℕ) → q + 1 ≡ n → n ≤ length bytes → IsTooDeep bytes q → IsTooDeep (take n bytes ++ 32 ∷ []) q
to_blank bytes n q l w d =
    let long = long_text bytes (32 ∷ []) n w in
    record {
      within = omega arith;
      nests = nests_there bytes (32 ∷ []) n q (omega arith) w d.nests;
      whole = ap begins_longer (last_drop bytes (32 ∷ []) n q l w) ∙ last_blank (get_or bytes q 0);
    }

of_blank : (bytes : List ℕ) (n q : ℕ) → q < n → n ≤ length bytes → IsTooDeep (take n bytes ++ 32 ∷ []) q → begins_longer (drop q bytes) ≡ false → IsTooDeep bytes q
of_blank bytes n q l w d h = record { within = omega arith; nests = nests_back bytes (32 ∷ []) n q l w d.nests; whole = h }

all_to_blank : (bytes : List ℕ) (n q : ℕ) → IsLongest bytes n → IsTooDeep bytes q → IsTooDeep (take n bytes ++ 32 ∷ []) q
all_to_blank bytes n q g d =
    let l = deep_within bytes n q g d in
    elim (cases_lt (q + 1) n) [ inl m ↦ to_text bytes (32 ∷ []) n q m g.within d | inr m ↦ to_blank bytes n q (omega arith) g.within d ]

-- where the last byte is too deep, a blank makes of the bytes tokens that follow one another
last_follows : (bytes : List ℕ) (n q : ℕ) → q + 1 ≡ n → n ≤ length bytes → IsTooDeep bytes q → TokensFollow (at_entry false) (take n bytes ++ 32 ∷ [])
last_follows bytes n q l w d =
    let text = take n bytes ++ 32 ∷ [] in
    let x = get_or bytes q 0 in
    let o = (deep_places_are_told text q).0 (to_blank bytes n q l w d) in
    let s : drop q text ≡ x ∷ 32 ∷ [] = last_drop bytes (32 ∷ []) n q l w in
    let opens : OpensWith x o.token = opens_with x (32 ∷ []) o.rest o.token (sym (ap first s) ∙ o.here) o.opening in
    let f : first (drop q text) ≡ Single o.token (32 ∷ []) = ap first s ∙ opening_first opens (32 ∷ []) (last_blank x) in
    let one : Placed = placed o.token (span_between (length text) (drop q text) (32 ∷ [])) in
    let all : AreTokens (length text) text (o.tokens ++ one ∷ []) = lexes_onto o.before (single f (gap refl (ends refl))) in
    (o.tokens ++ one ∷ [], o.control, all, ap (followed (at_entry false)) (kinds_more o.tokens one) ∙ o.follow)

below_last : (bytes : List ℕ) (n q : ℕ) → IsLongest bytes n → ¬ (TokensFollow (at_entry false) (take n bytes ++ 32 ∷ [])) → IsTooDeep bytes q → q + 1 < n
below_last bytes n q g none d =
    let l = deep_within bytes n q g d in
    elim (cases_lt (q + 1) n) [ inl m ↦ m | inr m ↦ absurd (none (last_follows bytes n q (omega arith) g.within d)) ]

-- tests of places
both_so : (a b : Bool) → a ≡ true → b ≡ true → (a && b) ≡ true
both_so true b e h = h
both_so false b e h = absurd cc

left_so : (a b : Bool) → a ≡ true → (a || b) ≡ true
left_so true b e = refl
left_so false b e = absurd cc

right_so : (a b : Bool) → b ≡ true → (a || b) ≡ true
right_so true b e = refl
right_so false b e = e

one_of : (a b : Bool) → (a || b) ≡ true → (a ≡ true) ⊎ (b ≡ true)
one_of true b e = inl refl
one_of false b e = inr e

less_so : (a b : ℕ) → a < b → nat_lt a b ≡ true
less_so a b l = grind (arith, nat_tests)

so_less : (a b : ℕ) → nat_lt a b ≡ true → a < b
so_less a b e = grind (arith, nat_tests)

not_longer : (b : Bool) → not b ≡ true → b ≡ false
not_longer true e = absurd cc
not_longer false e = refl

abbrev stays : List ℕ → ℕ → ℕ → Bool
stays bytes n at = nat_lt at n && (nat_lt (at + 1) n || not (begins_longer (drop at bytes)))

so_stays : (bytes : List ℕ) (n at : ℕ) → at < n → (at + 1 < n) ⊎ (begins_longer (drop at bytes) ≡ false) → stays bytes n at ≡ true
so_stays bytes n at l (inl m) =
    both_so (nat_lt at n) _ (less_so at n l) (left_so (nat_lt (at + 1) n) (not (begins_longer (drop at bytes))) (less_so (at + 1) n m))
so_stays bytes n at l (inr h) =
    both_so (nat_lt at n) _ (less_so at n l) (right_so (nat_lt (at + 1) n) (not (begins_longer (drop at bytes))) (ap not h))

clash : {A : Type 0} (b : Bool) → b ≡ true → b ≡ false → A
clash true e f = absurd cc
clash false e f = absurd cc

-- the first place of the text with a blank
pub blank_told : (bytes : List ℕ) (n : ℕ) (place : Option ℕ) → IsLongest bytes n → IsFirstDeep (take n bytes ++ 32 ∷ []) place
    → IsFirstDeep bytes (place_within bytes n place)
blank_told bytes n None g f = λ q d. f q (all_to_blank bytes n q g d)
blank_told bytes n (Some at) g f = by_test (stays bytes n at) refl
  where
    deep_there : (at < n) → (nat_lt (at + 1) n ≡ true) ⊎ (not (begins_longer (drop at bytes)) ≡ true) → IsTooDeep bytes at
    deep_there l (inl m) = of_text bytes (32 ∷ []) n at (so_less (at + 1) n m) g.within f.deep
    deep_there l (inr h) = of_blank bytes n at l g.within f.deep (not_longer (begins_longer (drop at bytes)) h)

    by_test : (c : Bool) → stays bytes n at ≡ c → IsFirstDeep bytes (if c then Some at else None)
    by_test true e = record {
      deep = deep_there (so_less at n (both_left (nat_lt at n) _ e)) (one_of (nat_lt (at + 1) n) _ (both_right (nat_lt at n) _ e));
      first = λ q l d. f.first q l (all_to_blank bytes n q g d);
    }
    by_test false e = λ q d.
        let l = deep_within bytes n q g d in
        elim (cases_lt q at) [
          | inl m ↦ f.first q m (all_to_blank bytes n q g d)
          | inr m ↦ elim (cases_lt (at + 1) n) [
            | inl k ↦ clash (stays bytes n at) (so_stays bytes n at (omega arith) (inl k)) e
            | inr k ↦ (
                let same : q ≡ at = omega arith in
                let here : IsTooDeep bytes at = subst (IsTooDeep bytes) same d in
                clash (stays bytes n at) (so_stays bytes n at (omega arith) (inr here.whole)) e)
          ]
        ]

-- the first place of a text of which the last token is unfinished before the ending
pub ending_told : (bytes e : List ℕ) (n : ℕ) (place : Option ℕ) → IsLongest bytes n → ¬ (TokensFollow (at_entry false) (take n bytes ++ 32 ∷ []))
    → IsFirstDeep (take n bytes ++ e) place → IsFirstDeep bytes (place_before n place)
ending_told bytes e n None g none f = λ q d. f q (to_text bytes e n q (below_last bytes n q g none d) g.within d)
ending_told bytes e n (Some at) g none f = by_test (nat_lt (at + 1) n) refl
  where
    by_test : (c : Bool) → nat_lt (at + 1) n ≡ c → IsFirstDeep bytes (if c then Some at else None)
    by_test true h = record {
      deep = of_text bytes e n at (so_less (at + 1) n h) g.within f.deep;
      first = λ q l d. f.first q l (to_text bytes e n q (below_last bytes n q g none d) g.within d);
    }
    by_test false h = λ q d.
        let l = below_last bytes n q g none d in
        elim (cases_lt q at) [
          | inl m ↦ f.first q m (to_text bytes e n q l g.within d)
          | inr m ↦ clash (nat_lt (at + 1) n) (less_so (at + 1) n (omega arith)) h
        ]
