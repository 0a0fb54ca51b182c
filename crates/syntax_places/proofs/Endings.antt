-- The endings of unfinished bytes, one after another.
use Rattle.std.proofs.Common.{◌≡◌, ℕ, zero, suc, ◌+◌, ◌-◌, ◌∙◌, ◌<◌, ◌≤◌, ◌⊎◌, inl, inr, ap, false, take, List, [], ◌∷◌, ◌++◌, length, refl, sym, subst, arith, get_or}
use Rattle.std.specs.declared.option.Option.{Option}
use Rattle.std.specs.declared.option.Option.TheVariants.{Some}
use Rattle.syntax_trees.specs.Faults.{BeginsFile}
use Rattle.syntax_trees.specs.Following.{at_entry}
use Rattle.syntax_faults.specs.Endings.{TokensFollow, IsEnding, no_ending, comment_ending, name_ending, scope_ending, equals_ending, plus_ending, colon_ending, text_ending, IsEscapeEnd, no_escape, escaped_quote, last_digit, two_digits, escaped_newline, AreQuotes, one_quote, three_quotes}
use Rattle.syntax_faults.proofs.Begun.{beginnings_are_told}
use Rattle.syntax_trees.specs.Tokens.{ends}
use Rattle.syntax_places.specs.Beginnings.{IsNear, IsLongest, IsBetween, IsEndingOf, endings}

data AreEndings : List (List ℕ) → Type 0 where
  no_more : AreEndings []
  one_more : {e : List ℕ} {es : List (List ℕ)} → IsEnding e → AreEndings es → AreEndings (e ∷ es)

all_endings : AreEndings endings
all_endings =
    one_more no_ending (one_more name_ending (one_more scope_ending (one_more comment_ending (one_more equals_ending (one_more plus_ending (one_more colon_ending
    (one_more (text_ending no_escape one_quote) (one_more (text_ending escaped_quote one_quote) (one_more (text_ending last_digit one_quote)
    (one_more (text_ending two_digits one_quote) (one_more (text_ending escaped_newline one_quote)
    (one_more (text_ending no_escape three_quotes) (one_more (text_ending escaped_quote three_quotes) (one_more (text_ending last_digit three_quotes)
    (one_more (text_ending two_digits three_quotes) (one_more (text_ending escaped_newline three_quotes) no_more))))))))))))))))

ending_at : {es : List (List ℕ)} → AreEndings es → (k : ℕ) → k < length es → IsEnding (get_or es k [])
ending_at no_more k l = absurd (omega arith)
ending_at (one_more i a) zero l = i
ending_at (one_more i a) (suc k) l = ending_at a k (omega arith)

-- where an ending stands among them
record Stands (e : List ℕ) : Type 0 where
  place : ℕ
  below : place < 17
  is : get_or endings place [] ≡ e

text_stands : {escape quotes : List ℕ} → IsEscapeEnd escape → AreQuotes quotes → Stands (escape ++ quotes)
text_stands no_escape one_quote = record { place = 7; below = omega arith; is = refl }
text_stands escaped_quote one_quote = record { place = 8; below = omega arith; is = refl }
text_stands last_digit one_quote = record { place = 9; below = omega arith; is = refl }
text_stands two_digits one_quote = record { place = 10; below = omega arith; is = refl }
text_stands escaped_newline one_quote = record { place = 11; below = omega arith; is = refl }
text_stands no_escape three_quotes = record { place = 12; below = omega arith; is = refl }
text_stands escaped_quote three_quotes = record { place = 13; below = omega arith; is = refl }
text_stands last_digit three_quotes = record { place = 14; below = omega arith; is = refl }
text_stands two_digits three_quotes = record { place = 15; below = omega arith; is = refl }
text_stands escaped_newline three_quotes = record { place = 16; below = omega arith; is = refl }

stands : {e : List ℕ} → IsEnding e → Stands e
stands no_ending = record { place = 0; below = omega arith; is = refl }
stands name_ending = record { place = 1; below = omega arith; is = refl }
stands scope_ending = record { place = 2; below = omega arith; is = refl }
stands comment_ending = record { place = 3; below = omega arith; is = refl }
stands equals_ending = record { place = 4; below = omega arith; is = refl }
stands plus_ending = record { place = 5; below = omega arith; is = refl }
stands colon_ending = record { place = 6; below = omega arith; is = refl }
stands (text_ending e q) = text_stands e q

pub one_ends : (bytes : List ℕ) (k : ℕ) → k < 17 → TokensFollow (at_entry false) (bytes ++ get_or endings k []) → BeginsFile bytes
one_ends bytes k l t = (beginnings_are_told bytes).1 (get_or endings k [], ending_at all_endings k l, t)

pub none_ends : (bytes : List ℕ) → ((k : ℕ) → k < 17 → ¬ (TokensFollow (at_entry false) (bytes ++ get_or endings k []))) → ¬ (BeginsFile bytes)
none_ends bytes none p =
    let (ending, i, t) = (beginnings_are_told bytes).0 p in
    let s = stands i in
    let Here : List ℕ → Type 0 = λ e. TokensFollow (at_entry false) (bytes ++ e) in none s.place s.below (subst Here (sym s.is) t)

before_or_last : (k n : ℕ) → k < n + 1 → (k < n) ⊎ (k ≡ n)
before_or_last zero zero l = inr refl
before_or_last zero (suc n) l = inl (omega arith)
before_or_last (suc k) zero l = absurd (omega arith)
before_or_last (suc k) (suc n) l = elim (before_or_last k n (omega arith)) [ inl h ↦ inl (omega arith) | inr e ↦ inr (ap suc e) ]

-- one ending more does not serve
pub none_more : (bytes ending : List ℕ) (n : ℕ) → ((k : ℕ) → k < n → ¬ (TokensFollow (at_entry false) (bytes ++ get_or endings k [])))
    → ending ≡ get_or endings n [] → ¬ (TokensFollow (at_entry false) (bytes ++ ending)) → (k : ℕ) → k < n + 1
    → ¬ (TokensFollow (at_entry false) (bytes ++ get_or endings k []))
none_more bytes ending n before is none k l p =
    elim (before_or_last k n l) [
      | inl h ↦ before k h p
      | inr e ↦ none (subst (λ z. TokensFollow (at_entry false) (bytes ++ z)) (ap (λ j. get_or endings j []) e ∙ sym is) p)
    ]

-- no bytes begin a file
pub none_begin : (bytes : List ℕ) → IsNear bytes 0
none_begin bytes = record { within = omega arith; begins = (beginnings_are_told []).1 ([], no_ending, ([], at_entry false, ends refl, refl)) }

-- between the two places no byte is left
pub longest : (bytes : List ℕ) (low high : ℕ) → IsBetween bytes low high → high - low ≤ 1 → IsLongest bytes low
longest bytes low high b l =
    let order = b.order in
    let within = b.within in
    let next : high ≡ low + 1 = omega arith in
    record { within = omega arith; begins = b.begins; stray = λ inside p. b.stray (subst (λ k. BeginsFile (take k bytes)) (sym next) p) }

-- bytes with an ending begin a file
pub ending_begins : (bytes : List ℕ) (found : Option ℕ) (number : ℕ) → found ≡ Some number → IsEndingOf bytes found → BeginsFile bytes
ending_begins bytes found number e i =
    let j : IsEndingOf bytes (Some number) = subst (λ o. IsEndingOf bytes o) e i in one_ends bytes number j.0 j.1
