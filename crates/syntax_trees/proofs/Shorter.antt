-- What stands after a token is shorter than what it stands in.
use Rattle.std.proofs.Common.{◌≡◌, ℕ, ◌<◌, ◌≤◌, Bool, true, false, not, List, [], ◌∷◌, length, drop, refl, arith, subst, if◌then◌else◌}
use Rattle.std.specs.Prelude.{◌==◌, ◌&&◌, ◌||◌, codes, ⊤}
use Rattle.std.proofs.lemmas.List.{length-drop}
use Rattle.std.specs.List.{list_all}
use Rattle.std.specs.declared.option.Option.{Option}
use Rattle.std.specs.declared.option.Option.TheVariants.{None, Some}
use Rattle.opam_names.specs.Names.{is_digit}
use Rattle.opam_names.proofs.Bytes.{both_left, both_right}
use Rattle.syntax_trees.specs.declared.token.Token.{Token}
use Rattle.syntax_trees.specs.Words.{is_word_byte, joins, word_of, word_token}
use Rattle.syntax_trees.specs.Signs.{signs, sign_among, begins_with}
use Rattle.syntax_trees.specs.Texts.{Piece, Closes, Gives, NoPiece, piece, quote, escape, decimal, hexadecimal, simple, simple_escapes, after_spaces, IsInside, closes, gives}
use Rattle.syntax_trees.specs.Tokens.{First, End, Gap, Single, Quote, NoToken, first, is_blank, after_line, after_comment, word_first, sign_first}

-- what is left is shorter than so many bytes
abbrev pub Shrinks : ℕ → First → Type 0
Shrinks n End = ⊤
Shrinks n (Gap rest) = length rest < n
Shrinks n (Single token rest) = length rest < n
Shrinks n (Quote long rest) = length rest < n
Shrinks n NoToken = ⊤

abbrev pub ShrinksText : ℕ → Piece → Type 0
ShrinksText n (Closes rest) = length rest < n
ShrinksText n (Gives part rest) = length rest < n
ShrinksText n NoPiece = ⊤

either : {A : Type 0} (P : A → Type 0) (c : Bool) (x y : A) → (c ≡ true → P x) → (c ≡ false → P y) → P (if c then x else y)
either P true x y f g = f refl
either P false x y f g = g refl

drop_short : (k : ℕ) (bytes : List ℕ) → length (drop k bytes) ≤ length bytes
drop_short k bytes = omega (arith, length-drop k bytes)

line_short : (bytes : List ℕ) → length (after_line bytes) ≤ length bytes
line_short [] = omega arith
line_short (b ∷ bytes) =
    let h = line_short bytes in
    either (λ rest. length rest ≤ length (b ∷ bytes)) (b == 10) bytes (after_line bytes) (λ e. omega arith) (λ e. omega arith)

spaces_short : (bytes : List ℕ) → length (after_spaces bytes) ≤ length bytes
spaces_short [] = omega arith
spaces_short (b ∷ bytes) =
    let h = spaces_short bytes in
    either (λ rest. length rest ≤ length (b ∷ bytes)) (b == 32 || b == 9) (after_spaces bytes) (b ∷ bytes) (λ e. omega arith) (λ e. omega arith)

comment_shrinks : (n : ℕ) (bytes : List ℕ) → length bytes < n → Shrinks n (after_comment bytes)
comment_shrinks n [] l = tt
comment_shrinks n (b ∷ bytes) l =
    let d = drop_short 1 bytes in
    either (Shrinks n) (begins_with (codes "*)") (b ∷ bytes)) (Gap (drop 1 bytes)) (after_comment bytes) (λ e. omega arith)
    (λ e. comment_shrinks n bytes (omega arith))

word_shrinks : (n : ℕ) (token : Option Token) (rest : List ℕ) → length rest < n → Shrinks n (word_first token rest)
word_shrinks n None rest l = tt
word_shrinks n (Some token) rest l = l

rest_of_word : (b : ℕ) (bytes : List ℕ) (c : Bool) (w : List ℕ) → c ≡ true
    → length (drop (length (if c then b ∷ w else [])) (b ∷ bytes)) < length (b ∷ bytes)
rest_of_word b bytes true w e = let d = drop_short (length w) bytes in omega arith
rest_of_word b bytes false w e = absurd cc

or_true : (x y : Bool) → x ≡ true → (x || y) ≡ true
or_true true y e = refl
or_true false y e = absurd cc

abbrev is_some_text : List ℕ × Token → Bool
is_some_text sign = not (begins_with sign.0 [])

-- a text that bytes begin with, and that is not empty
sign_short : (text bytes : List ℕ) → not (begins_with text []) ≡ true → begins_with text bytes ≡ true → length (drop (length text) bytes) < length bytes
sign_short [] bytes h e = absurd cc
sign_short (x ∷ text) [] h e = absurd cc
sign_short (x ∷ text) (b ∷ bytes) h e = let d = drop_short (length text) bytes in omega arith

sign_shrinks : (table : List (List ℕ × Token)) (bytes : List ℕ) → list_all is_some_text table ≡ true
    → Shrinks (length bytes) (sign_first (sign_among table bytes))
sign_shrinks [] bytes h = tt
sign_shrinks (sign ∷ table) bytes h =
    either (λ s. Shrinks (length bytes) (sign_first s)) (begins_with sign.0 bytes) (Some (sign.1, drop (length sign.0) bytes)) (sign_among table bytes)
    (λ e. sign_short sign.0 bytes (both_left (is_some_text sign) (list_all is_some_text table) h) e)
    (λ e. sign_shrinks table bytes (both_right (is_some_text sign) (list_all is_some_text table) h))

pub first_shrinks : (bytes : List ℕ) → Shrinks (length bytes) (first bytes)
first_shrinks [] = tt
first_shrinks (b ∷ bytes) =
    let n = length (b ∷ bytes) in
    let all = b ∷ bytes in
    let w = word_of true all in
    either (Shrinks n) (is_blank b) _ _ (λ e. omega arith) (λ e.
    either (Shrinks n) (b == 35) _ _ (λ e. let l = line_short bytes in omega arith) (λ e.
    either (Shrinks n) (begins_with (codes "(*") all) _ _ (λ e. let d = drop_short 1 bytes in comment_shrinks n (drop 1 bytes) (omega arith)) (λ e.
    either (Shrinks n) (begins_with (34 ∷ 34 ∷ 34 ∷ []) all) _ _ (λ e. let d = drop_short 2 bytes in omega arith) (λ e.
    either (Shrinks n) (b == 34) _ _ (λ e. omega arith) (λ e.
    either (Shrinks n) (is_word_byte b) _ _ (λ e. word_shrinks n (word_token w) (drop (length w) all)
    (rest_of_word b bytes (is_word_byte b || (true && joins b bytes)) (word_of (true && not (b == 58)) bytes) (or_true (is_word_byte b) (true && joins b bytes) e)))
    (λ e. sign_shrinks signs all refl))))))

gives_or_none : (n : ℕ) (c : Bool) (part rest : List ℕ) → length rest < n → ShrinksText n (if c then Gives part rest else NoPiece)
gives_or_none n true part rest l = l
gives_or_none n false part rest l = tt

decimal_shrinks : (n : ℕ) (bytes : List ℕ) → length bytes < n → ShrinksText n (decimal bytes)
decimal_shrinks n [] l = tt
decimal_shrinks n (a ∷ []) l = tt
decimal_shrinks n (a ∷ b ∷ []) l = tt
decimal_shrinks n (a ∷ b ∷ c ∷ bytes) l = gives_or_none n _ _ bytes (omega arith)

hexadecimal_shrinks : (n : ℕ) (bytes : List ℕ) → length bytes < n → ShrinksText n (hexadecimal bytes)
hexadecimal_shrinks n [] l = tt
hexadecimal_shrinks n (a ∷ []) l = tt
hexadecimal_shrinks n (a ∷ b ∷ bytes) l = gives_or_none n _ _ bytes (omega arith)

simple_shrinks : (n : ℕ) (table : List (ℕ × ℕ)) (b : ℕ) (bytes : List ℕ) → length bytes < n → ShrinksText n (simple table b bytes)
simple_shrinks n [] b bytes l = tt
simple_shrinks n (e ∷ table) b bytes l = either (ShrinksText n) (e.0 == b) _ _ (λ h. l) (λ h. simple_shrinks n table b bytes l)

escape_shrinks : (n : ℕ) (bytes : List ℕ) → length bytes < n → ShrinksText n (escape bytes)
escape_shrinks n [] l = tt
escape_shrinks n (b ∷ bytes) l =
    let s = spaces_short bytes in
    let t = spaces_short (drop 1 bytes) in
    let d = drop_short 1 bytes in
    either (ShrinksText n) (is_digit b) _ _ (λ e. decimal_shrinks n (b ∷ bytes) l) (λ e.
    either (ShrinksText n) (b == 120) _ _ (λ e. hexadecimal_shrinks n bytes (omega arith)) (λ e.
    either (ShrinksText n) (b == 10) _ _ (λ e. omega arith) (λ e.
    either (ShrinksText n) (b == 13) _ _ (λ e. either (ShrinksText n) (begins_with (10 ∷ []) bytes) _ _ (λ e. omega arith) (λ e. tt))
    (λ e. simple_shrinks n simple_escapes b bytes (omega arith)))))

quote_shrinks : (n : ℕ) (long : Bool) (bytes : List ℕ) → length bytes < n → ShrinksText n (quote long bytes)
quote_shrinks n false bytes l = l
quote_shrinks n true bytes l =
    let d = drop_short 2 bytes in
    either (ShrinksText n) (begins_with (34 ∷ 34 ∷ []) bytes) _ _ (λ e. omega arith) (λ e. l)

pub piece_shrinks : (long : Bool) (bytes : List ℕ) → ShrinksText (length bytes) (piece long bytes)
piece_shrinks long [] = tt
piece_shrinks long (b ∷ bytes) =
    let n = length (b ∷ bytes) in
    either (ShrinksText n) (b == 92) _ _ (λ e. escape_shrinks n bytes (omega arith)) (λ e.
    either (ShrinksText n) (b == 34) _ _ (λ e. quote_shrinks n long bytes (omega arith)) (λ e. omega arith))

after_piece : (n : ℕ) {p q : Piece} → p ≡ q → ShrinksText n p → ShrinksText n q
after_piece n e h = subst (ShrinksText n) e h

pub after_first : (n : ℕ) {p q : First} → p ≡ q → Shrinks n p → Shrinks n q
after_first n e h = subst (Shrinks n) e h

pub inside_shrinks : {long : Bool} {bytes t r : List ℕ} → IsInside long bytes t r → length r < length bytes
inside_shrinks {long} {bytes} (closes e) = after_piece (length bytes) e (piece_shrinks long bytes)
inside_shrinks {long} {bytes} (gives {more = more} e p) =
    let l : length more < length bytes = after_piece (length bytes) e (piece_shrinks long bytes) in
    let m = inside_shrinks p in
    omega arith
