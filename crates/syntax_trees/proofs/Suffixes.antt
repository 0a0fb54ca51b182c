-- What stands after a token is what the bytes end with.
use Rattle.std.proofs.Common.{◌≡◌, ℕ, zero, suc, ◌+◌, Bool, true, false, List, [], ◌∷◌, length, drop, refl, ap, subst, ◌∙◌, if◌then◌else◌}
use Rattle.std.specs.Prelude.{◌==◌, ◌||◌, codes, ⊤}
use Rattle.std.proofs.lemmas.List.{drop-drop}
use Rattle.std.specs.declared.option.Option.{Option}
use Rattle.std.specs.declared.option.Option.TheVariants.{None, Some}
use Rattle.opam_names.specs.Names.{is_digit}
use Rattle.syntax_trees.specs.declared.token.Token.{Token}
use Rattle.syntax_trees.specs.Words.{is_word_byte, word_of, word_token}
use Rattle.syntax_trees.specs.Signs.{signs, sign_among, begins_with}
use Rattle.syntax_trees.specs.Texts.{Piece, Closes, Gives, NoPiece, piece, quote, escape, decimal, hexadecimal, simple, simple_escapes, after_spaces, IsInside, closes, gives}
use Rattle.syntax_trees.specs.Tokens.{First, End, Gap, Single, Quote, NoToken, first, is_blank, after_line, after_comment, word_first, sign_first}

-- the bytes end with the others
abbrev pub EndsWith : List ℕ → List ℕ → Type 0
EndsWith bytes rest = (k : ℕ) × (rest ≡ drop k bytes)

pub ends_more : {a b c : List ℕ} → EndsWith a b → EndsWith b c → EndsWith a c
ends_more {a} {b} {c} (k, e) (j, f) = (k + j, f ∙ ap (drop j) e ∙ drop-drop j k a)

ends_same : (bytes : List ℕ) → EndsWith bytes bytes
ends_same bytes = (zero, refl)

ends_cons : (b : ℕ) (bytes : List ℕ) {rest : List ℕ} → EndsWith bytes rest → EndsWith (b ∷ bytes) rest
ends_cons b bytes (k, e) = (suc k, e)

abbrev pub EndsFirst : List ℕ → First → Type 0
EndsFirst bytes End = ⊤
EndsFirst bytes (Gap rest) = EndsWith bytes rest
EndsFirst bytes (Single token rest) = EndsWith bytes rest
EndsFirst bytes (Quote long rest) = EndsWith bytes rest
EndsFirst bytes NoToken = ⊤

abbrev EndsPiece : List ℕ → Piece → Type 0
EndsPiece bytes (Closes rest) = EndsWith bytes rest
EndsPiece bytes (Gives part rest) = EndsWith bytes rest
EndsPiece bytes NoPiece = ⊤

either : {A : Type 0} (P : A → Type 0) (c : Bool) (x y : A) → P x → P y → P (if c then x else y)
either P true x y p q = p
either P false x y p q = q

line_ends : (bytes : List ℕ) → EndsWith bytes (after_line bytes)
line_ends [] = ends_same []
line_ends (b ∷ bytes) =
    either (EndsWith (b ∷ bytes)) (b == 10) bytes (after_line bytes) (ends_cons b bytes (ends_same bytes)) (ends_cons b bytes (line_ends bytes))

spaces_end : (bytes : List ℕ) → EndsWith bytes (after_spaces bytes)
spaces_end [] = ends_same []
spaces_end (b ∷ bytes) =
    either (EndsWith (b ∷ bytes)) (b == 32 || b == 9) (after_spaces bytes) (b ∷ bytes) (ends_cons b bytes (spaces_end bytes)) (ends_same (b ∷ bytes))

first_on : {whole bytes : List ℕ} (f : First) → EndsWith whole bytes → EndsFirst bytes f → EndsFirst whole f
first_on End e h = tt
first_on (Gap rest) e h = ends_more e h
first_on (Single token rest) e h = ends_more e h
first_on (Quote long rest) e h = ends_more e h
first_on NoToken e h = tt

comment_ends : (bytes : List ℕ) → EndsFirst bytes (after_comment bytes)
comment_ends [] = tt
comment_ends (b ∷ bytes) =
    either (EndsFirst (b ∷ bytes)) (begins_with (codes "*)") (b ∷ bytes)) (Gap (drop 1 bytes)) (after_comment bytes)
    (ends_cons b bytes (1, refl)) (first_on (after_comment bytes) (ends_cons b bytes (ends_same bytes)) (comment_ends bytes))

word_ends : (bytes : List ℕ) (token : Option Token) (n : ℕ) → EndsFirst bytes (word_first token (drop n bytes))
word_ends bytes None n = tt
word_ends bytes (Some token) n = (n, refl)

signs_end : (table : List (List ℕ × Token)) (bytes : List ℕ) → EndsFirst bytes (sign_first (sign_among table bytes))
signs_end [] bytes = tt
signs_end (sign ∷ table) bytes =
    either (λ s. EndsFirst bytes (sign_first s)) (begins_with sign.0 bytes) (Some (sign.1, drop (length sign.0) bytes)) (sign_among table bytes)
    (length sign.0, refl) (signs_end table bytes)

pub first_ends : (bytes : List ℕ) → EndsFirst bytes (first bytes)
first_ends [] = tt
first_ends (b ∷ bytes) =
    let all = b ∷ bytes in
    let w = word_of true all in
    let P : First → Type 0 = EndsFirst all in
    either P (is_blank b) _ _ (ends_cons b bytes (ends_same bytes))
    (either P (b == 35) _ _ (ends_cons b bytes (line_ends bytes))
    (either P (begins_with (codes "(*") all) _ _
    (first_on (after_comment (drop 1 bytes)) (ends_cons b bytes (1, refl)) (comment_ends (drop 1 bytes)))
    (either P (begins_with (34 ∷ 34 ∷ 34 ∷ []) all) _ _ (ends_cons b bytes (2, refl))
    (either P (b == 34) _ _ (ends_cons b bytes (ends_same bytes))
    (either P (is_word_byte b) _ _ (word_ends all (word_token w) (length w))
    (signs_end signs all))))))

piece_on : {whole bytes : List ℕ} (p : Piece) → EndsWith whole bytes → EndsPiece bytes p → EndsPiece whole p
piece_on (Closes rest) e h = ends_more e h
piece_on (Gives part rest) e h = ends_more e h
piece_on NoPiece e h = tt

gives_or_none : (bytes : List ℕ) (c : Bool) (part rest : List ℕ) → EndsWith bytes rest → EndsPiece bytes (if c then Gives part rest else NoPiece)
gives_or_none bytes true part rest h = h
gives_or_none bytes false part rest h = tt

decimal_ends : (bytes : List ℕ) → EndsPiece bytes (decimal bytes)
decimal_ends [] = tt
decimal_ends (a ∷ []) = tt
decimal_ends (a ∷ b ∷ []) = tt
decimal_ends (a ∷ b ∷ c ∷ bytes) = gives_or_none (a ∷ b ∷ c ∷ bytes) _ _ bytes (3, refl)

hexadecimal_ends : (bytes : List ℕ) → EndsPiece bytes (hexadecimal bytes)
hexadecimal_ends [] = tt
hexadecimal_ends (a ∷ []) = tt
hexadecimal_ends (a ∷ b ∷ bytes) = gives_or_none (a ∷ b ∷ bytes) _ _ bytes (2, refl)

simple_ends : (table : List (ℕ × ℕ)) (b : ℕ) (bytes : List ℕ) → EndsPiece bytes (simple table b bytes)
simple_ends [] b bytes = tt
simple_ends (e ∷ table) b bytes = either (EndsPiece bytes) (e.0 == b) _ _ (ends_same bytes) (simple_ends table b bytes)

escape_ends : (bytes : List ℕ) → EndsPiece bytes (escape bytes)
escape_ends [] = tt
escape_ends (b ∷ bytes) =
    let P : Piece → Type 0 = EndsPiece (b ∷ bytes) in
    let on : EndsWith (b ∷ bytes) bytes = ends_cons b bytes (ends_same bytes) in
    let past : EndsWith (b ∷ bytes) (drop 1 bytes) = ends_cons b bytes (1, refl) in
    either P (is_digit b) _ _ (decimal_ends (b ∷ bytes))
    (either P (b == 120) _ _ (piece_on (hexadecimal bytes) on (hexadecimal_ends bytes))
    (either P (b == 10) _ _ (ends_more on (spaces_end bytes))
    (either P (b == 13) _ _ (either P (begins_with (10 ∷ []) bytes) _ _ (ends_more past (spaces_end (drop 1 bytes))) tt)
    (piece_on (simple simple_escapes b bytes) on (simple_ends simple_escapes b bytes)))))

quote_ends : (long : Bool) (bytes : List ℕ) → EndsPiece bytes (quote long bytes)
quote_ends false bytes = ends_same bytes
quote_ends true bytes = either (EndsPiece bytes) (begins_with (34 ∷ 34 ∷ []) bytes) _ _ (2, refl) (ends_same bytes)

piece_ends : (long : Bool) (bytes : List ℕ) → EndsPiece bytes (piece long bytes)
piece_ends long [] = tt
piece_ends long (b ∷ bytes) =
    let P : Piece → Type 0 = EndsPiece (b ∷ bytes) in
    let on : EndsWith (b ∷ bytes) bytes = ends_cons b bytes (ends_same bytes) in
    either P (b == 92) _ _ (piece_on (escape bytes) on (escape_ends bytes))
    (either P (b == 34) _ _ (piece_on (quote long bytes) on (quote_ends long bytes)) on)

pub inside_ends : {long : Bool} {bytes t r : List ℕ} → IsInside long bytes t r → EndsWith bytes r
inside_ends {long} {bytes} (closes e) = subst (EndsPiece bytes) e (piece_ends long bytes)
inside_ends {long} {bytes} (gives {more = more} e p) =
    let h : EndsWith bytes more = subst (EndsPiece bytes) e (piece_ends long bytes) in ends_more h (inside_ends p)
