-- A word reads back as itself, whatever stands after it that does not join to it.
use Rattle.std.proofs.Common.{◌≡◌, ℕ, Bool, true, false, not, ◌&&◌, ◌||◌, ◌==◌, List, [], ◌∷◌, ◌++◌, length, drop, if◌then◌else◌, refl, sym, ap, subst, ◌∙◌}
use Rattle.std.proofs.lemmas.Bool.{ne_eqb}
use Rattle.std.specs.declared.option.Option.TheVariants.{Some}
use Rattle.syntax_trees.specs.declared.token.Token.{Token}
use Rattle.syntax_trees.specs.Words.{is_word_byte, begins_word, joins, word_of, word_token}
use Rattle.syntax_trees.specs.Signs.{begins_with}
use Rattle.syntax_trees.specs.Tokens.{Single, first, is_blank, word_first}

-- the bytes do not go on with a word that stands before them
abbrev pub ends_word : List ℕ → Bool
ends_word [] = true
ends_word (b ∷ bytes) = not (is_word_byte b) && not (joins b bytes)

-- a word, and the token that it is
pub record Reads (word : List ℕ) (token : Token) : Type 0 where
  pub begins : begins_word word ≡ true
  pub whole : word_of true word ≡ word
  pub means : word_token word ≡ Some token

pub skip : {A : Type 0} (c : Bool) (x y : A) → c ≡ false → (if c then x else y) ≡ y
skip true x y e = absurd cc
skip false x y e = refl

pub enter : {A : Type 0} (c : Bool) (x y : A) → c ≡ true → (if c then x else y) ≡ x
enter true x y e = refl
enter false x y e = absurd cc

neither : (x y joining : Bool) (u v : List ℕ) → (not x && not y) ≡ true → (if x || (joining && y) then u else v) ≡ v
neither false false true u v h = refl
neither false false false u v h = refl
neither false true joining u v h = absurd cc
neither true y joining u v h = absurd cc

no_word : (joining : Bool) (rest : List ℕ) → ends_word rest ≡ true → word_of joining rest ≡ []
no_word joining [] h = refl
no_word joining (b ∷ rest) h = neither (is_word_byte b) (joins b rest) joining (b ∷ word_of (joining && not (b == 58)) rest) [] h

taken : {b : ℕ} {x w : List ℕ} (c : Bool) → (if c then b ∷ x else []) ≡ b ∷ w → (c ≡ true) × (x ≡ w)
taken true e = (refl, cc)
taken false e = absurd cc

begins_more : (word rest : List ℕ) → begins_word word ≡ true → begins_word (word ++ rest) ≡ true
begins_more [] rest h = absurd cc
begins_more (b ∷ word) rest h = h

-- what joins to a word joins to what begins like it
joined_too : (x joining p q r : Bool) → (q ≡ true → r ≡ true) → (x || (joining && (p && q))) ≡ true → (x || (joining && (p && r))) ≡ true
joined_too true joining p q r f h = refl
joined_too false true true q r f h = f h
joined_too false true false q r f h = h
joined_too false false p q r f h = h

pub word_more : (joining : Bool) (word rest : List ℕ) → word_of joining word ≡ word → ends_word rest ≡ true → word_of joining (word ++ rest) ≡ word
word_more joining [] rest e h = no_word joining rest h
word_more joining (b ∷ word) rest e h =
    let t = taken (is_word_byte b || (joining && joins b word)) e in
    let more = word_more (joining && not (b == 58)) word rest t.1 h in
    enter _ _ _ (joined_too (is_word_byte b) joining (b == 43 || b == 58) (begins_word word) (begins_word (word ++ rest)) (begins_more word rest) t.0)
    ∙ ap (λ w. b ∷ w) more

-- a byte that passes a test is none that does not
pub other_byte : (passes : ℕ → Bool) (b c : ℕ) → passes b ≡ true → passes c ≡ false → (b == c) ≡ false
other_byte passes b c h k = ne_eqb b c (λ e. let f : passes c ≡ true = subst (λ x. passes x ≡ true) e h in absurd (let g = sym f ∙ k in cc))

pub byte_other : (passes : ℕ → Bool) (b c : ℕ) → passes b ≡ true → passes c ≡ false → (c == b) ≡ false
byte_other passes b c h k = ne_eqb c b (λ e. let f : passes c ≡ true = subst (λ x. passes x ≡ true) (sym e) h in absurd (let g = sym f ∙ k in cc))

neither_of : (x y : Bool) → x ≡ false → y ≡ false → (x || y) ≡ false
neither_of false false e f = refl
neither_of false true e f = f
neither_of true y e f = absurd cc

first_fails : (x y : Bool) → x ≡ false → (x && y) ≡ false
first_fails false y e = refl
first_fails true y e = absurd cc

not_blank : (b : ℕ) → is_word_byte b ≡ true → is_blank b ≡ false
not_blank b h =
    neither_of (b == 32 || b == 9 || b == 13) (b == 10)
    (neither_of (b == 32 || b == 9) (b == 13)
    (neither_of (b == 32) (b == 9) (other_byte is_word_byte b 32 h refl) (other_byte is_word_byte b 9 h refl))
    (other_byte is_word_byte b 13 h refl)) (other_byte is_word_byte b 10 h refl)

-- what begins with a byte of a word is a word
pub word_stands_first : (b : ℕ) (bytes : List ℕ) → is_word_byte b ≡ true
    → first (b ∷ bytes) ≡ word_first (word_token (word_of true (b ∷ bytes))) (drop (length (word_of true (b ∷ bytes))) (b ∷ bytes))
word_stands_first b bytes h =
    skip _ _ _ (not_blank b h)
    ∙ skip _ _ _ (other_byte is_word_byte b 35 h refl)
    ∙ skip _ _ _ (first_fails (40 == b) (begins_with (42 ∷ []) bytes) (byte_other is_word_byte b 40 h refl))
    ∙ skip _ _ _ (first_fails (34 == b) (begins_with (34 ∷ 34 ∷ []) bytes) (byte_other is_word_byte b 34 h refl))
    ∙ skip _ _ _ (other_byte is_word_byte b 34 h refl)
    ∙ enter _ _ _ h

drop_front : (front rest : List ℕ) → drop (length front) (front ++ rest) ≡ rest
drop_front [] rest = refl
drop_front (b ∷ front) rest = drop_front front rest

pub reads_first : (word rest : List ℕ) (token : Token) → Reads word token → ends_word rest ≡ true → first (word ++ rest) ≡ Single token rest
reads_first [] rest token r h = absurd (let b = r.begins in cc)
reads_first (b ∷ word) rest token r h =
    word_stands_first b (word ++ rest) r.begins
    ∙ ap (λ w. word_first (word_token w) (drop (length w) (b ∷ word ++ rest))) (word_more true (b ∷ word) rest r.whole h)
    ∙ ap (λ t. word_first t (drop (length (b ∷ word)) (b ∷ word ++ rest))) r.means
    ∙ ap (λ l. Single token l) (drop_front (b ∷ word) rest)

-- the word that bytes begin with is a word
begins_again : (joining : Bool) (bytes : List ℕ) → begins_word bytes ≡ true → begins_word (word_of joining bytes) ≡ true
begins_again joining [] h = h
begins_again joining (b ∷ bytes) h =
    subst (λ w. begins_word w ≡ true) (sym (enter _ _ _ (ap (λ x. x || (joining && joins b bytes)) h))) h

longer_again : (joining : Bool) (b : ℕ) (bytes : List ℕ) (c : Bool) → (is_word_byte b || (joining && joins b bytes)) ≡ c
    → word_of (joining && not (b == 58)) (word_of (joining && not (b == 58)) bytes) ≡ word_of (joining && not (b == 58)) bytes
    → word_of joining (if c then b ∷ word_of (joining && not (b == 58)) bytes else []) ≡ (if c then b ∷ word_of (joining && not (b == 58)) bytes else [])
longer_again joining b bytes true e more =
    enter _ _ _ (joined_too (is_word_byte b) joining (b == 43 || b == 58) (begins_word bytes) (begins_word (word_of (joining && not (b == 58)) bytes))
    (begins_again (joining && not (b == 58)) bytes) e)
    ∙ ap (λ w. b ∷ w) more
longer_again joining b bytes false e more = refl

word_again : (joining : Bool) (bytes : List ℕ) → word_of joining (word_of joining bytes) ≡ word_of joining bytes
word_again joining [] = refl
word_again joining (b ∷ bytes) = longer_again joining b bytes (is_word_byte b || (joining && joins b bytes)) refl (word_again (joining && not (b == 58)) bytes)

pub word_reads : (b : ℕ) (bytes : List ℕ) (token : Token) → is_word_byte b ≡ true → word_token (word_of true (b ∷ bytes)) ≡ Some token
    → Reads (word_of true (b ∷ bytes)) token
word_reads b bytes token h e = record {
  begins = begins_again true (b ∷ bytes) h;
  whole = word_again true (b ∷ bytes);
  means = e;
}
