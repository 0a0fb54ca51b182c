-- A newline after bytes that spell tokens leaves these tokens as they are, whatever stands after it.
use Rattle.std.proofs.Common.{◌≡◌, ℕ, Bool, true, false, not, List, [], ◌∷◌, ◌++◌, length, drop, refl, ap, sym, subst, ◌∙◌, map, if◌then◌else◌, ◌⊎◌, inl, inr}
use Rattle.std.specs.Prelude.{◌==◌, ◌&&◌, ◌||◌, codes}
use Rattle.std.specs.List.{list_all}
use Rattle.std.specs.declared.option.Option.{Option}
use Rattle.std.specs.declared.option.Option.TheVariants.{None, Some}
use Rattle.opam_names.specs.Names.{is_digit}
use Rattle.opam_names.proofs.Bytes.{both_left, both_right}
use Rattle.syntax_trees.specs.declared.token.Token.{Token}
use Rattle.syntax_trees.specs.declared.token.Token.TheVariants.{Text}
use Rattle.syntax_trees.specs.Words.{is_word_byte, begins_word, joins, word_of, word_token}
use Rattle.syntax_trees.specs.Signs.{signs, sign_among, begins_with}
use Rattle.syntax_trees.specs.Texts.{Piece, Closes, Gives, NoPiece, piece, quote, escape, decimal, hexadecimal, simple, simple_escapes, after_spaces, IsInside, closes, gives}
use Rattle.syntax_trees.specs.Following.{token_of}
use Rattle.syntax_trees.specs.Tokens.{First, End, Gap, Single, Quote, NoToken, first, is_blank, after_line, after_comment, word_first, sign_first, Placed, placed, span_between, AreTokens, ends, gap, single, text}
use Rattle.syntax_trees.proofs.OneTokens.{same_tokens}
use Rattle.syntax_trees.proofs.Settled.{LexesToo}
use Rattle.syntax_trees.specs.Lexes.{none_read, gap_then, single_then, text_then}

-- what bytes begin with, alone and before a newline
data Stays (m : List ℕ) : First → First → Type 0 where
  end_stays : Stays m End (Gap m)
  gap_stays : (g : List ℕ) → Stays m (Gap g) (Gap (g ++ 10 ∷ m))
  line_ends : Stays m (Gap []) (Gap m)
  single_stays : (token : Token) (g : List ℕ) → Stays m (Single token g) (Single token (g ++ 10 ∷ m))
  quote_stays : (long : Bool) (g : List ℕ) → Stays m (Quote long g) (Quote long (g ++ 10 ∷ m))
  no_stay : {other : First} → Stays m NoToken other

data PieceStays (m : List ℕ) : Piece → Piece → Type 0 where
  closes_stays : (g : List ℕ) → PieceStays m (Closes g) (Closes (g ++ 10 ∷ m))
  gives_stays : (part g : List ℕ) → PieceStays m (Gives part g) (Gives part (g ++ 10 ∷ m))
  gives_last : {other : Piece} (part : List ℕ) → PieceStays m (Gives part []) other
  no_piece : {other : Piece} → PieceStays m NoPiece other

stays_if : {m : List ℕ} {a b a2 b2 : First} (c d : Bool) → c ≡ d → (c ≡ true → Stays m a a2) → (c ≡ false → Stays m b b2)
    → Stays m (if c then a else b) (if d then a2 else b2)
stays_if true true e f g = f refl
stays_if false false e f g = g refl
stays_if true false e f g = absurd cc
stays_if false true e f g = absurd cc

piece_if : {m : List ℕ} {a b a2 b2 : Piece} (c d : Bool) → c ≡ d → (c ≡ true → PieceStays m a a2) → (c ≡ false → PieceStays m b b2)
    → PieceStays m (if c then a else b) (if d then a2 else b2)
piece_if true true e f g = f refl
piece_if false false e f g = g refl
piece_if true false e f g = absurd cc
piece_if false true e f g = absurd cc

abbrev lacks : List ℕ → Bool
lacks letters = list_all (λ c. not (c == 10)) letters

no_first : (c y : Bool) → not c ≡ true → false ≡ (c && y)
no_first true y e = absurd cc
no_first false y e = refl

agree : (m letters f : List ℕ) → lacks letters ≡ true → begins_with letters f ≡ begins_with letters (f ++ 10 ∷ m)
agree m [] f h = refl
agree m (c ∷ letters) [] h = no_first (c == 10) (begins_with letters m) (both_left (not (c == 10)) (lacks letters) h)
agree m (c ∷ letters) (b ∷ f) h = ap (λ r. (c == b) && r) (agree m letters f (both_right (not (c == 10)) (lacks letters) h))

-- what stands after a text that the bytes begin with
left_text : (m letters f : List ℕ) → begins_with letters f ≡ true → drop (length letters) (f ++ 10 ∷ m) ≡ drop (length letters) f ++ 10 ∷ m
left_text m [] f e = refl
left_text m (c ∷ letters) [] e = absurd cc
left_text m (c ∷ letters) (b ∷ f) e = left_text m letters f (both_right (c == b) (begins_with letters f) e)

gap_at : {m g h : List ℕ} → h ≡ g ++ 10 ∷ m → Stays m (Gap g) (Gap h)
gap_at {m} {g} {h} e = subst (λ z. Stays m (Gap g) (Gap z)) (sym e) (gap_stays g)

single_at : {m g h : List ℕ} (t : Token) → h ≡ g ++ 10 ∷ m → Stays m (Single t g) (Single t h)
single_at {m} {g} {h} t e = subst (λ z. Stays m (Single t g) (Single t z)) (sym e) (single_stays t g)

quote_at : {m g h : List ℕ} (long : Bool) → h ≡ g ++ 10 ∷ m → Stays m (Quote long g) (Quote long h)
quote_at {m} {g} {h} long e = subst (λ z. Stays m (Quote long g) (Quote long z)) (sym e) (quote_stays long g)

closes_at : {m g h : List ℕ} → h ≡ g ++ 10 ∷ m → PieceStays m (Closes g) (Closes h)
closes_at {m} {g} {h} e = subst (λ z. PieceStays m (Closes g) (Closes z)) (sym e) (closes_stays g)

line_stays : (m f : List ℕ) → Stays m (Gap (after_line f)) (Gap (after_line (f ++ 10 ∷ m)))
line_stays m [] = line_ends
line_stays m (b ∷ f) = line_if (b == 10) (line_stays m f)
  where
    line_if : {g h : List ℕ} (c : Bool) → Stays m (Gap g) (Gap h) → Stays m (Gap (if c then f else g)) (Gap (if c then f ++ 10 ∷ m else h))
    line_if true s = gap_stays f
    line_if false s = s

comment_stays : (m f : List ℕ) → Stays m (after_comment f) (after_comment (f ++ 10 ∷ m))
comment_stays m [] = no_stay
comment_stays m (b ∷ f) =
    stays_if (begins_with (codes "*)") (b ∷ f)) (begins_with (codes "*)") (b ∷ f ++ 10 ∷ m)) (agree m (codes "*)") (b ∷ f) refl)
    (λ e. gap_at (left_text m (codes "*)") (b ∷ f) e)) (λ e. comment_stays m f)

-- words
same_begins : (m f : List ℕ) → begins_word f ≡ begins_word (f ++ 10 ∷ m)
same_begins m [] = refl
same_begins m (b ∷ f) = refl

no_join : (j : Bool) (m : List ℕ) → [] ≡ word_of j (10 ∷ m)
no_join true m = refl
no_join false m = refl

word_stays : (m : List ℕ) (joining : Bool) (f : List ℕ) → word_of joining f ≡ word_of joining (f ++ 10 ∷ m)
word_stays m joining [] = no_join joining m
word_stays m joining (b ∷ f) =
    both (is_word_byte b || (joining && joins b f)) (is_word_byte b || (joining && joins b (f ++ 10 ∷ m)))
    (ap (λ z. is_word_byte b || (joining && ((b == 43 || b == 58) && z))) (same_begins m f)) (word_stays m (joining && not (b == 58)) f)
  where
    both : {w v : List ℕ} (c d : Bool) → c ≡ d → w ≡ v → (if c then b ∷ w else []) ≡ (if d then b ∷ v else [])
    both true true e h = ap (λ z. b ∷ z) h
    both false false e h = refl
    both true false e h = absurd cc
    both false true e h = absurd cc

word_left : (m : List ℕ) (joining : Bool) (f : List ℕ) → drop (length (word_of joining f)) (f ++ 10 ∷ m) ≡ drop (length (word_of joining f)) f ++ 10 ∷ m
word_left m joining [] = refl
word_left m joining (b ∷ f) = left_if _ (is_word_byte b || (joining && joins b f)) (word_left m (joining && not (b == 58)) f)
  where
    left_if : (w : List ℕ) (c : Bool) → drop (length w) (f ++ 10 ∷ m) ≡ drop (length w) f ++ 10 ∷ m
        → drop (length (if c then b ∷ w else [])) (b ∷ f ++ 10 ∷ m) ≡ drop (length (if c then b ∷ w else [])) (b ∷ f) ++ 10 ∷ m
    left_if w true e = e
    left_if w false e = refl

word_first_stays : (m : List ℕ) (token : Option Token) (g h : List ℕ) → h ≡ g ++ 10 ∷ m → Stays m (word_first token g) (word_first token h)
word_first_stays m None g h e = no_stay
word_first_stays m (Some token) g h e = single_at token e

sign_stays : (m f : List ℕ) (table : List (List ℕ × Token)) → list_all (λ sign. lacks sign.0) table ≡ true
    → Stays m (sign_first (sign_among table f)) (sign_first (sign_among table (f ++ 10 ∷ m)))
sign_stays m f [] h = no_stay
sign_stays m f (sign ∷ table) h =
    let now = both_left (lacks sign.0) (list_all (λ sign. lacks sign.0) table) h in
    let next = both_right (lacks sign.0) (list_all (λ sign. lacks sign.0) table) h in
    sign_if _ _ _ _ (begins_with sign.0 f) (begins_with sign.0 (f ++ 10 ∷ m)) (agree m sign.0 f now)
    (λ e. single_at sign.1 (left_text m sign.0 f e)) (sign_stays m f table next)
  where
    sign_if : (r r2 : List ℕ) (o o2 : Option (Token × List ℕ)) (y z : Bool) → y ≡ z → (y ≡ true → Stays m (Single sign.1 r) (Single sign.1 r2))
        → Stays m (sign_first o) (sign_first o2) → Stays m (sign_first (if y then Some (sign.1, r) else o)) (sign_first (if z then Some (sign.1, r2) else o2))
    sign_if r r2 o o2 true true e p q = p refl
    sign_if r r2 o o2 false false e p q = q
    sign_if r r2 o o2 true false e p q = absurd cc
    sign_if r r2 o o2 false true e p q = absurd cc

first_stays : (m bytes : List ℕ) → Stays m (first bytes) (first (bytes ++ 10 ∷ m))
first_stays m [] = end_stays
first_stays m (b ∷ f) =
    let word = word_of true (b ∷ f) in
    let all = b ∷ f ++ 10 ∷ m in
    let There : List ℕ → Type 0 = λ v. Stays m (word_first (word_token word) (drop (length word) (b ∷ f))) (word_first (word_token v) (drop (length v) all)) in
    stays_if (is_blank b) (is_blank b) refl (λ e. gap_stays f) (λ e.
    stays_if (b == 35) (b == 35) refl (λ e. line_stays m f) (λ e.
    stays_if (begins_with (codes "(*") (b ∷ f)) (begins_with (codes "(*") all) (agree m (codes "(*") (b ∷ f) refl)
    (λ e. subst (λ z. Stays m (after_comment (drop 1 f)) (after_comment z)) (sym (left_text m (codes "*") f (both_right (40 == b) (begins_with (codes "*") f) e)))
    (comment_stays m (drop 1 f))) (λ e.
    stays_if (begins_with (34 ∷ 34 ∷ 34 ∷ []) (b ∷ f)) (begins_with (34 ∷ 34 ∷ 34 ∷ []) all) (agree m (34 ∷ 34 ∷ 34 ∷ []) (b ∷ f) refl)
    (λ e. quote_at true (left_text m (34 ∷ 34 ∷ []) f (both_right (34 == b) (begins_with (34 ∷ 34 ∷ []) f) e))) (λ e.
    stays_if (b == 34) (b == 34) refl (λ e. quote_stays false f) (λ e.
    stays_if (is_word_byte b) (is_word_byte b) refl
    (λ e. subst There (word_stays m true (b ∷ f)) (word_first_stays m (word_token word) _ _ (word_left m true (b ∷ f))))
    (λ e. sign_stays m (b ∷ f) signs refl))))))

-- inside a text
spaces_stay : (m f : List ℕ) (part : List ℕ) → PieceStays m (Gives part (after_spaces f)) (Gives part (after_spaces (f ++ 10 ∷ m)))
spaces_stay m [] part = gives_last part
spaces_stay m (b ∷ f) part = stay (b == 32 || b == 9) (spaces_stay m f part)
  where
    stay : {r r2 : List ℕ} (c : Bool) → PieceStays m (Gives part r) (Gives part r2)
        → PieceStays m (Gives part (if c then r else b ∷ f)) (Gives part (if c then r2 else b ∷ f ++ 10 ∷ m))
    stay true s = s
    stay false s = gives_stays part (b ∷ f)

both_give : (m part : List ℕ) (c : Bool) (f : List ℕ) → PieceStays m (if c then Gives part f else NoPiece) (if c then Gives part (f ++ 10 ∷ m) else NoPiece)
both_give m part true f = gives_stays part f
both_give m part false f = no_piece

decimal_stays : (m f : List ℕ) → PieceStays m (decimal f) (decimal (f ++ 10 ∷ m))
decimal_stays m [] = no_piece
decimal_stays m (a ∷ []) = no_piece
decimal_stays m (a ∷ b ∷ []) = no_piece
decimal_stays m (a ∷ b ∷ c ∷ f) = both_give m _ _ f

hexadecimal_stays : (m f : List ℕ) → PieceStays m (hexadecimal f) (hexadecimal (f ++ 10 ∷ m))
hexadecimal_stays m [] = no_piece
hexadecimal_stays m (a ∷ []) = no_piece
hexadecimal_stays m (a ∷ b ∷ f) = both_give m _ _ f

simple_stays : (m f : List ℕ) (table : List (ℕ × ℕ)) (b : ℕ) → PieceStays m (simple table b f) (simple table b (f ++ 10 ∷ m))
simple_stays m f [] b = no_piece
simple_stays m f (e ∷ table) b = piece_if (e.0 == b) (e.0 == b) refl (λ h. gives_stays (e.1 ∷ []) f) (λ h. simple_stays m f table b)

newline_stays : (m f : List ℕ) → PieceStays m (if begins_with (10 ∷ []) f then Gives [] (after_spaces (drop 1 f)) else NoPiece)
    (if begins_with (10 ∷ []) (f ++ 10 ∷ m) then Gives [] (after_spaces (drop 1 (f ++ 10 ∷ m))) else NoPiece)
newline_stays m [] = no_piece
newline_stays m (c ∷ f) = piece_if (10 == c && true) (10 == c && true) refl (λ e. spaces_stay m f []) (λ e. no_piece)

escape_stays : (m f : List ℕ) → PieceStays m (escape f) (escape (f ++ 10 ∷ m))
escape_stays m [] = no_piece
escape_stays m (b ∷ f) =
    piece_if (is_digit b) (is_digit b) refl (λ e. decimal_stays m (b ∷ f)) (λ e.
    piece_if (b == 120) (b == 120) refl (λ e. hexadecimal_stays m f) (λ e.
    piece_if (b == 10) (b == 10) refl (λ e. spaces_stay m f []) (λ e.
    piece_if (b == 13) (b == 13) refl (λ e. newline_stays m f) (λ e. simple_stays m f simple_escapes b))))

quote_piece_stays : (m : List ℕ) (long : Bool) (f : List ℕ) → PieceStays m (quote long f) (quote long (f ++ 10 ∷ m))
quote_piece_stays m false f = closes_stays f
quote_piece_stays m true f =
    piece_if (begins_with (34 ∷ 34 ∷ []) f) (begins_with (34 ∷ 34 ∷ []) (f ++ 10 ∷ m)) (agree m (34 ∷ 34 ∷ []) f refl)
    (λ e. closes_at (left_text m (34 ∷ 34 ∷ []) f e)) (λ e. gives_stays (34 ∷ []) f)

piece_stays : (m : List ℕ) (long : Bool) (f : List ℕ) → PieceStays m (piece long f) (piece long (f ++ 10 ∷ m))
piece_stays m long [] = no_piece
piece_stays m long (b ∷ f) =
    piece_if (b == 92) (b == 92) refl (λ e. escape_stays m f) (λ e.
    piece_if (b == 34) (b == 34) refl (λ e. quote_piece_stays m long f) (λ e. gives_stays (b ∷ []) f))

same_closes : {a b : List ℕ} → Closes a ≡ Closes b → a ≡ b
same_closes e = cc

same_gives : {c d a b : List ℕ} → Gives c a ≡ Gives d b → (c ≡ d) × (a ≡ b)
same_gives e = (cc, cc)

closes_read : {m rest : List ℕ} {u v : Piece} → PieceStays m u v → u ≡ Closes rest → v ≡ Closes (rest ++ 10 ∷ m)
closes_read {m} (closes_stays g) e = ap (λ z. Closes (z ++ 10 ∷ m)) (same_closes e)
closes_read (gives_stays part g) e = absurd cc
closes_read (gives_last part) e = absurd cc
closes_read no_piece e = absurd cc

-- nothing is inside a text that has ended
nothing_inside : {long : Bool} {t r : List ℕ} → IsInside long [] t r → ⊥
nothing_inside (closes e) = cc
nothing_inside (gives e p) = cc

not_ended : {long : Bool} {more t r : List ℕ} → IsInside long more t r → more ≡ [] → ⊥
not_ended {long} {t = t} {r = r} p e = let q : IsInside long [] t r = subst (λ z. IsInside long z t r) e p in nothing_inside q

gives_read : {m part more : List ℕ} {u v : Piece} → PieceStays m u v → u ≡ Gives part more → (more ≡ [] → ⊥) → v ≡ Gives part (more ++ 10 ∷ m)
gives_read {m} {part} (gives_stays p g) e h = let s = same_gives e in ap (λ z. Gives z (g ++ 10 ∷ m)) s.0 ∙ ap (λ z. Gives part (z ++ 10 ∷ m)) s.1
gives_read (gives_last p) e h = absurd (h (sym (same_gives e).1))
gives_read (closes_stays g) e h = absurd cc
gives_read no_piece e h = absurd cc

inside_stays : {long : Bool} {bytes t r : List ℕ} → IsInside long bytes t r → (m : List ℕ) → IsInside long (bytes ++ 10 ∷ m) t (r ++ 10 ∷ m)
inside_stays {long} {bytes} (closes e) m = closes (closes_read (piece_stays m long bytes) e)
inside_stays {long} {bytes} (gives e p) m = gives (gives_read (piece_stays m long bytes) e (not_ended p)) (inside_stays p m)

same_gap : {a b : List ℕ} → Gap a ≡ Gap b → a ≡ b
same_gap e = cc

same_single : {t u : Token} {a b : List ℕ} → Single t a ≡ Single u b → (t ≡ u) × (a ≡ b)
same_single e = (cc, cc)

same_quote : {c d : Bool} {a b : List ℕ} → Quote c a ≡ Quote d b → (c ≡ d) × (a ≡ b)
same_quote e = (cc, cc)

end_read : {m : List ℕ} {u v : First} → Stays m u v → u ≡ End → v ≡ Gap m
end_read end_stays e = refl
end_read (gap_stays g) e = absurd cc
end_read line_ends e = absurd cc
end_read (single_stays t g) e = absurd cc
end_read (quote_stays c g) e = absurd cc
end_read no_stay e = absurd cc

gap_read : {m rest : List ℕ} {u v : First} → Stays m u v → u ≡ Gap rest → (v ≡ Gap (rest ++ 10 ∷ m)) ⊎ ((rest ≡ []) × (v ≡ Gap m))
gap_read {m} (gap_stays g) e = inl (ap (λ z. Gap (z ++ 10 ∷ m)) (same_gap e))
gap_read line_ends e = inr (sym (same_gap e), refl)
gap_read end_stays e = absurd cc
gap_read (single_stays t g) e = absurd cc
gap_read (quote_stays c g) e = absurd cc
gap_read no_stay e = absurd cc

single_read : {m rest : List ℕ} {token : Token} {u v : First} → Stays m u v → u ≡ Single token rest → v ≡ Single token (rest ++ 10 ∷ m)
single_read {m} {token = token} (single_stays t g) e = let s = same_single e in ap (λ z. Single z (g ++ 10 ∷ m)) s.0 ∙ ap (λ z. Single token (z ++ 10 ∷ m)) s.1
single_read end_stays e = absurd cc
single_read (gap_stays g) e = absurd cc
single_read line_ends e = absurd cc
single_read (quote_stays c g) e = absurd cc
single_read no_stay e = absurd cc

quote_read : {m rest : List ℕ} {long : Bool} {u v : First} → Stays m u v → u ≡ Quote long rest → v ≡ Quote long (rest ++ 10 ∷ m)
quote_read {m} {long = long} (quote_stays c g) e = let s = same_quote e in ap (λ z. Quote z (g ++ 10 ∷ m)) s.0 ∙ ap (λ z. Quote long (z ++ 10 ∷ m)) s.1
quote_read end_stays e = absurd cc
quote_read (gap_stays g) e = absurd cc
quote_read line_ends e = absurd cc
quote_read (single_stays t g) e = absurd cc
quote_read no_stay e = absurd cc

no_more : {total : ℕ} {rest : List ℕ} {tokens : List Placed} → AreTokens total rest tokens → rest ≡ [] → [] ≡ tokens
no_more {total} {rest} p e = same_tokens (ends (ap first e)) p

-- a newline and what stands after it leave the tokens before it
pub closed : {total : ℕ} {bytes : List ℕ} {tokens : List Placed} → AreTokens total bytes tokens → (m : List ℕ) (total2 : ℕ)
    → LexesToo total2 (bytes ++ 10 ∷ m) m (map token_of tokens)
closed {bytes = bytes} (ends e) m total2 = record { tokens = []; lexes = gap_then (end_read (first_stays m bytes) e) none_read; same = refl }
closed {bytes = bytes} {tokens = tokens} (gap {rest = rest} e p) m total2 =
    elim (gap_read (first_stays m bytes) e) [
      | inl f ↦ (let l = closed p m total2 in record { tokens = l.tokens; lexes = gap_then f l.lexes; same = l.same })
      | inr f ↦ record { tokens = []; lexes = gap_then f.1 none_read; same = ap (map token_of) (no_more p f.0) }
    ]
closed {bytes = bytes} (single {rest = rest} {token = token} {tokens = ts} e p) m total2 =
    let l = closed p m total2 in
    record {
      tokens = placed token (span_between total2 (bytes ++ 10 ∷ m) (rest ++ 10 ∷ m)) ∷ l.tokens;
      lexes = single_then (single_read (first_stays m bytes) e) l.lexes;
      same = ap (λ z. token ∷ z) l.same;
    }
closed {bytes = bytes} (text {text = t} {rest = rest} {tokens = ts} e i p) m total2 =
    let l = closed p m total2 in
    record {
      tokens = placed (Text t) (span_between total2 (bytes ++ 10 ∷ m) (rest ++ 10 ∷ m)) ∷ l.tokens;
      lexes = text_then (quote_read (first_stays m bytes) e) (inside_stays i m) l.lexes;
      same = ap (λ z. Text t ∷ z) l.same;
    }
