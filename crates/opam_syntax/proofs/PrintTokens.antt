-- What the tokens of a text hold: words that read back, and integers in range.
use Rattle.std.proofs.Common.{◌≡◌, ℕ, ℤ, zero, suc, pos, ◌^◌, ◌≤◌, Bool, true, false, ◌&&◌, ◌||◌, ◌==◌, List, [], ◌∷◌, ◌++◌, length, drop, if◌then◌else◌, refl, sym, ap, subst, arith}
use Rattle.std.specs.Prelude.{codes, neg_ℤ, nat_lt, nat_le, bytes_eq, ⊤}
use Rattle.std.proofs.lemmas.Bool.{eqb-true}
use Rattle.std.proofs.lemmas.Bool.Decides.{nat_tests}
use Rattle.std.specs.List.{list_all, list_any}
use Rattle.std.specs.declared.option.Option.{Option}
use Rattle.std.specs.declared.option.Option.TheVariants.{None, Some}
use Rattle.std.specs.Fmt.{signed_decimal}
use Rattle.opam_names.proofs.Bytes.{both_left, both_right}
use Rattle.opam_names.specs.Orders.{number}
use Rattle.syntax_trees.specs.declared.token.Token.{Token}
use Rattle.syntax_trees.specs.declared.token.Token.TheVariants.{Int, Plain, Scoped, Update}
use Rattle.syntax_trees.specs.declared.tree.EnvOp.TheVariants.{Set, Before, After, BeforeKeep, AfterKeep}
use Rattle.syntax_trees.specs.Words.{is_word_byte, word_of, word_token, are_digits, natural_of, negative_of, int_of, before, after, is_plain, is_scoped, is_scope_part, scope_parts, identifier_of, int_or_identifier}
use Rattle.opam_names.specs.Names.{is_letter}
use Rattle.syntax_trees.specs.Signs.{signs, sign_among, begins_with}
use Rattle.syntax_trees.specs.Tokens.{First, Single, first, is_blank, after_comment, word_first, sign_first, Placed, placed, AreTokens, ends, gap, single, text}
use Rattle.syntax_trees.proofs.WordsAgain.{Reads, word_reads}
use Rattle.opam_syntax.proofs.PrintNumbers.{InRange, integer_reads}

-- a word reads back as the token; `=` is a relation and no update
abbrev pub IsToken : Token → Type 0
IsToken (Int n) = Reads (signed_decimal n) (Int n)
IsToken (Plain name) = Reads name (Plain name)
IsToken (Scoped scope name) = Reads (scope ++ codes ":" ++ name) (Scoped scope name)
IsToken (Update Set) = ⊥
IsToken token = ⊤

abbrev pub AreRead : List Placed → Type 0
AreRead [] = ⊤
AreRead (placed token at ∷ tokens) = IsToken token × AreRead tokens

either : {A : Type 0} (P : A → Type 0) (c : Bool) (x y : A) → (c ≡ true → P x) → (c ≡ false → P y) → P (if c then x else y)
either P true x y f g = f refl
either P false x y f g = g refl

-- what a token says of the word that it was
abbrev Says : List ℕ → Token → Type 0
Says word (Int n) = InRange n
Says word (Plain name) = name ≡ word
Says word (Scoped scope name) = scope ++ codes ":" ++ name ≡ word
Says word (Update Set) = ⊥
Says word token = ⊤

abbrev SaysIf : List ℕ → Option Token → Type 0
SaysIf word None = ⊤
SaysIf word (Some token) = Says word token

abbrev InRangeIf : Option ℤ → Type 0
InRangeIf None = ⊤
InRangeIf (Some n) = InRange n

negative_in_range : (n : ℕ) → n ≤ 2 ^ 63 → InRange (neg_ℤ (pos n))
negative_in_range zero l = omega arith
negative_in_range (suc n) l = omega arith

natural_in_range : (digits : List ℕ) → InRangeIf (natural_of digits)
natural_in_range digits =
    either InRangeIf (are_digits digits && nat_lt (number digits) (2 ^ 63)) (Some (pos (number digits))) None
    (λ h. let k : nat_lt (number digits) (2 ^ 63) ≡ true = both_right (are_digits digits) (nat_lt (number digits) (2 ^ 63)) h in grind (arith, nat_tests)) (λ h. tt)

minus_in_range : (digits : List ℕ) → InRangeIf (negative_of digits)
minus_in_range digits =
    either InRangeIf (are_digits digits && nat_le (number digits) (2 ^ 63)) (Some (neg_ℤ (pos (number digits)))) None
    (λ h. let k : nat_le (number digits) (2 ^ 63) ≡ true = both_right (are_digits digits) (nat_le (number digits) (2 ^ 63)) h in
    negative_in_range (number digits) (grind (arith, nat_tests))) (λ h. tt)

integer_in_range : (word : List ℕ) → InRangeIf (int_of word)
integer_in_range [] = tt
integer_in_range (b ∷ word) =
    either InRangeIf (b == 45) (negative_of word) (natural_of (b ∷ word)) (λ h. minus_in_range word) (λ h. natural_in_range (b ∷ word))

or_else : (x y : Bool) → (x || y) ≡ true → x ≡ false → y ≡ true
or_else false y h e = h
or_else true y h e = absurd cc

colon_at : (b : ℕ) (word : List ℕ) (c : Bool) → (b == 58) ≡ c → (c ≡ false → before 58 word ++ codes ":" ++ after 58 word ≡ word)
    → (if c then [] else b ∷ before 58 word) ++ codes ":" ++ (if c then word else after 58 word) ≡ b ∷ word
colon_at b word true e more = ap (λ x. x ∷ word) (sym (eqb-true b 58 e))
colon_at b word false e more = ap (λ w. b ∷ w) (more refl)

-- what stands before the colon, the colon, and what stands after it
around_colon : (word : List ℕ) → list_any (λ b. b == 58) word ≡ true → before 58 word ++ codes ":" ++ after 58 word ≡ word
around_colon [] h = absurd cc
around_colon (b ∷ word) h = colon_at b word (b == 58) refl (λ e. around_colon word (or_else (b == 58) (list_any (λ b. b == 58) word) h e))

said_identifier : (word : List ℕ) → SaysIf word (identifier_of word)
said_identifier word =
    let colon = list_any (λ b. b == 58) word in
    let scope = list_all is_scope_part (scope_parts (before 58 word)) in
    either (SaysIf word) (is_plain word) _ _ (λ h. refl) (λ h.
    either (SaysIf word) (is_scoped word) _ _
    (λ k. around_colon word (both_left colon scope (both_left (colon && scope) (list_any is_letter (after 58 word)) k))) (λ k. tt))

said_number : (word : List ℕ) (n : Option ℤ) → InRangeIf n → SaysIf word (int_or_identifier n word)
said_number word None r = said_identifier word
said_number word (Some n) r = r

said : (word : List ℕ) → SaysIf word (word_token word)
said word =
    either (SaysIf word) (bytes_eq word (codes "true")) _ _ (λ h. tt) (λ h.
    either (SaysIf word) (bytes_eq word (codes "false")) _ _ (λ k. tt) (λ k. said_number word (int_of word) (integer_in_range word)))

word_is_token : (word : List ℕ) (token : Token) → Reads word token → Says word token → IsToken token
word_is_token word (Int n) r s = integer_reads n s
word_is_token word (Plain name) r s = subst (λ w. Reads w (Plain name)) (sym s) r
word_is_token word (Scoped scope name) r s = subst (λ w. Reads w (Scoped scope name)) (sym s) r
word_is_token word (Update Set) r s = s
word_is_token word (Update Before) r s = tt
word_is_token word (Update After) r s = tt
word_is_token word (Update BeforeKeep) r s = tt
word_is_token word (Update AfterKeep) r s = tt
word_is_token word token r s = tt

-- a token that stands first
abbrev Holds : First → Type 0
Holds (Single token rest) = IsToken token
Holds f = ⊤

comment_holds : (bytes : List ℕ) → Holds (after_comment bytes)
comment_holds [] = tt
comment_holds (b ∷ bytes) = either Holds (begins_with (codes "*)") (b ∷ bytes)) _ _ (λ h. tt) (λ h. comment_holds bytes)

word_holds : (b : ℕ) (bytes rest : List ℕ) (token : Option Token) → is_word_byte b ≡ true → word_token (word_of true (b ∷ bytes)) ≡ token
    → SaysIf (word_of true (b ∷ bytes)) token → Holds (word_first token rest)
word_holds b bytes rest None h e s = tt
word_holds b bytes rest (Some token) h e s = word_is_token (word_of true (b ∷ bytes)) token (word_reads b bytes token h e) s

abbrev is_sign : Token → Bool
is_sign (Int n) = false
is_sign (Plain name) = false
is_sign (Scoped scope name) = false
is_sign (Update Set) = false
is_sign token = true

sign_is_token : (token : Token) → is_sign token ≡ true → IsToken token
sign_is_token (Int n) h = absurd cc
sign_is_token (Plain name) h = absurd cc
sign_is_token (Scoped scope name) h = absurd cc
sign_is_token (Update Set) h = absurd cc
sign_is_token (Update Before) h = tt
sign_is_token (Update After) h = tt
sign_is_token (Update BeforeKeep) h = tt
sign_is_token (Update AfterKeep) h = tt
sign_is_token token h = tt

sign_holds : (table : List (List ℕ × Token)) (bytes : List ℕ) → list_all (λ s. is_sign s.1) table ≡ true → Holds (sign_first (sign_among table bytes))
sign_holds [] bytes h = tt
sign_holds (sign ∷ table) bytes h =
    either (λ s. Holds (sign_first s)) (begins_with sign.0 bytes) (Some (sign.1, drop (length sign.0) bytes)) (sign_among table bytes)
    (λ e. sign_is_token sign.1 (both_left (is_sign sign.1) (list_all (λ s. is_sign s.1) table) h))
    (λ e. sign_holds table bytes (both_right (is_sign sign.1) (list_all (λ s. is_sign s.1) table) h))

first_holds : (bytes : List ℕ) → Holds (first bytes)
first_holds [] = tt
first_holds (b ∷ bytes) =
    let all = b ∷ bytes in
    let w = word_of true all in
    either Holds (is_blank b) _ _ (λ e. tt) (λ e.
    either Holds (b == 35) _ _ (λ e. tt) (λ e.
    either Holds (begins_with (codes "(*") all) _ _ (λ e. comment_holds (drop 1 bytes)) (λ e.
    either Holds (begins_with (34 ∷ 34 ∷ 34 ∷ []) all) _ _ (λ e. tt) (λ e.
    either Holds (b == 34) _ _ (λ e. tt) (λ e.
    either Holds (is_word_byte b) _ _ (λ e. word_holds b bytes (drop (length w) all) (word_token w) e refl (said w))
    (λ e. sign_holds signs all refl))))))

pub are_read : {total : ℕ} {bytes : List ℕ} {tokens : List Placed} → AreTokens total bytes tokens → AreRead tokens
are_read (ends e) = tt
are_read (gap e p) = are_read p
are_read {bytes = bytes} (single e p) = (subst Holds e (first_holds bytes), are_read p)
are_read (text e i p) = (tt, are_read p)
