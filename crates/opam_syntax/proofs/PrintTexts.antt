-- A text reads back from its quoted spelling.
use Rattle.std.proofs.Common.{◌≡◌, ℕ, ◌+◌, ◌*◌, ◌-◌, ◌/◌, ◌%◌, ◌<◌, Bool, true, false, ◌&&◌, ◌||◌, ◌==◌, List, [], ◌∷◌, ◌++◌, if◌then◌else◌, refl, sym, ap, subst, ◌∙◌, arith, ◌⊎◌, inl, inr}
use Rattle.std.specs.Prelude.{codes, nat_lt, nat_le}
use Rattle.std.specs.List.{flat_map}
use Rattle.std.proofs.lemmas.Bool.{eqb-true, ne_eqb}
use Rattle.std.proofs.lemmas.Bool.Decides.{nat_tests}
use Rattle.std.proofs.lemmas.List.{append_assoc}
use Rattle.opam_names.specs.Names.{is_digit}
use Rattle.syntax_trees.specs.declared.token.Token.TheVariants.{Text}
use Rattle.syntax_trees.specs.Signs.{begins_with}
use Rattle.opam_syntax.specs.Spelling.{byte_text, decimal_escape, quoted}
use Rattle.syntax_trees.specs.Texts.{Gives, piece, IsInside, closes, gives}
use Rattle.syntax_trees.specs.Tokens.{first, Placed, placed, span_between, AreTokens, text}
use Rattle.syntax_trees.proofs.WordsAgain.{skip, enter}
use Rattle.syntax_trees.proofs.Spanned.{both}

either : {A : Type 0} (P : A → Type 0) (c : Bool) (x y : A) → (c ≡ true → P x) → (c ≡ false → P y) → P (if c then x else y)
either P true x y f g = f refl
either P false x y f g = g refl

one_of : (x y : Bool) → (x || y) ≡ true → (x ≡ true) ⊎ (y ≡ true)
one_of true y h = inl refl
one_of false y h = inr h

first_not : (x y : Bool) → (x || y) ≡ false → x ≡ false
first_not false y h = refl
first_not true y h = h

second_not : (x y : Bool) → (x || y) ≡ false → y ≡ false
second_not false y h = h
second_not true y h = absurd cc

-- a backslash and three digits stand for a byte
escape_reads : (b : ℕ) (rest : List ℕ) → b < 128 → piece false (decimal_escape b ++ rest) ≡ Gives (b ∷ []) rest
escape_reads b rest l =
    let x = 48 + b / 100 in
    let y = 48 + b / 10 % 10 in
    let z = 48 + b % 10 in
    let one : is_digit x ≡ true = grind (arith, nat_tests) in
    let two : is_digit y ≡ true = grind (arith, nat_tests) in
    let three : is_digit z ≡ true = grind (arith, nat_tests) in
    let value : 100 * (x - 48) + 10 * (y - 48) + (z - 48) ≡ b = omega arith in
    let small : nat_le (100 * (x - 48) + 10 * (y - 48) + (z - 48)) 255 ≡ true = grind (arith, nat_tests) in
    enter _ _ _ one
    ∙ enter _ _ _ (both (is_digit x && is_digit y && is_digit z) (nat_le (100 * (x - 48) + 10 * (y - 48) + (z - 48)) 255)
    (both (is_digit x && is_digit y) (is_digit z) (both (is_digit x) (is_digit y) one two) three) small)
    ∙ ap (λ n. Gives (n ∷ []) rest) value

control_is_low : (b : ℕ) → (nat_lt b 32 || b == 127) ≡ true → b < 128
control_is_low b h = grind (arith, nat_tests)

-- a byte, as a text spells it, stands for itself
byte_reads : (b : ℕ) (rest : List ℕ) → piece false (byte_text b ++ rest) ≡ Gives (b ∷ []) rest
byte_reads b rest =
    let Reads : List ℕ → Type 0 = λ t. piece false (t ++ rest) ≡ Gives (b ∷ []) rest in
    either Reads (b == 92 || b == 34) _ _
    (λ h. elim (one_of (b == 92) (b == 34) h) [
      | inl e ↦ subst (λ c. piece false ((92 ∷ c ∷ []) ++ rest) ≡ Gives (c ∷ []) rest) (sym (eqb-true b 92 e)) refl
      | inr e ↦ subst (λ c. piece false ((92 ∷ c ∷ []) ++ rest) ≡ Gives (c ∷ []) rest) (sym (eqb-true b 34 e)) refl
    ]) (λ n.
    either Reads (b == 10) _ _ (λ e. subst (λ c. piece false (codes "\\n" ++ rest) ≡ Gives (c ∷ []) rest) (sym (eqb-true b 10 e)) refl) (λ _.
    either Reads (b == 9) _ _ (λ e. subst (λ c. piece false (codes "\\t" ++ rest) ≡ Gives (c ∷ []) rest) (sym (eqb-true b 9 e)) refl) (λ _.
    either Reads (b == 13) _ _ (λ e. subst (λ c. piece false (codes "\\r" ++ rest) ≡ Gives (c ∷ []) rest) (sym (eqb-true b 13 e)) refl) (λ _.
    either Reads (nat_lt b 32 || b == 127) _ _ (λ h. escape_reads b rest (control_is_low b h)) (λ _.
    skip _ _ _ (first_not (b == 92) (b == 34) n) ∙ skip _ _ _ (second_not (b == 92) (b == 34) n))))))

inside_reads : (bytes rest : List ℕ) → IsInside false (flat_map byte_text bytes ++ 34 ∷ rest) bytes rest
inside_reads [] rest = closes refl
inside_reads (b ∷ bytes) rest =
    let more = flat_map byte_text bytes ++ 34 ∷ rest in
    gives {part = b ∷ []} {more = more} {text = bytes}
    (ap (piece false) (append_assoc (byte_text b) (flat_map byte_text bytes) (34 ∷ rest)) ∙ byte_reads b more) (inside_reads bytes rest)

first_fails : (x y : Bool) → x ≡ false → (x && y) ≡ false
first_fails false y e = refl
first_fails true y e = absurd cc

-- no byte is spelled with a quote first
no_quote_first : (b : ℕ) (rest : List ℕ) → begins_with (34 ∷ 34 ∷ []) (byte_text b ++ rest) ≡ false
no_quote_first b rest =
    let Other : List ℕ → Type 0 = λ t. begins_with (34 ∷ 34 ∷ []) (t ++ rest) ≡ false in
    either Other (b == 92 || b == 34) _ _ (λ _. refl) (λ n.
    either Other (b == 10) _ _ (λ _. refl) (λ _.
    either Other (b == 9) _ _ (λ _. refl) (λ _.
    either Other (b == 13) _ _ (λ _. refl) (λ _.
    either Other (nat_lt b 32 || b == 127) _ _ (λ _. refl) (λ _.
    let other : (b == 34) ≡ false = second_not (b == 92) (b == 34) n in
    first_fails (34 == b) (begins_with (34 ∷ []) rest) (ne_eqb 34 b (λ e. absurd (let f : (34 == 34) ≡ false = subst (λ c. (c == 34) ≡ false) (sym e) other in cc))))))))

-- nor does a quoted text begin with three quotes, where none follows
no_long_text : (bytes rest : List ℕ) → begins_with (34 ∷ []) rest ≡ false → begins_with (34 ∷ 34 ∷ []) (flat_map byte_text bytes ++ 34 ∷ rest) ≡ false
no_long_text [] rest h = h
no_long_text (b ∷ bytes) rest h =
    ap (begins_with (34 ∷ 34 ∷ [])) (append_assoc (byte_text b) (flat_map byte_text bytes) (34 ∷ rest)) ∙ no_quote_first b (flat_map byte_text bytes ++ 34 ∷ rest)

quoted_rest : (bytes rest : List ℕ) → quoted bytes ++ rest ≡ 34 ∷ flat_map byte_text bytes ++ 34 ∷ rest
quoted_rest bytes rest = ap (λ l. 34 ∷ l) (append_assoc (flat_map byte_text bytes) (34 ∷ []) rest)

-- where no quote follows, a quoted text is one token
pub text_reads : (total : ℕ) (bytes rest : List ℕ) (tokens : List Placed) → begins_with (34 ∷ []) rest ≡ false → AreTokens total rest tokens
    → AreTokens total (quoted bytes ++ rest) (placed (Text bytes) (span_between total (quoted bytes ++ rest) rest) ∷ tokens)
text_reads total bytes rest tokens h p =
    text (ap first (quoted_rest bytes rest) ∙ skip _ _ _ (no_long_text bytes rest h)) (inside_reads bytes rest) p
