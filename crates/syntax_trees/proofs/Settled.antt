-- The tokens before an opening sign do not depend on what follows it.
use Rattle.std.proofs.Common.{◌≡◌, ℕ, zero, ◌<◌, ◌≤◌, Bool, true, false, not, List, [], ◌∷◌, ◌++◌, length, drop, refl, ap, sym, subst, ◌∙◌, arith, map, if◌then◌else◌}
use Rattle.std.specs.Prelude.{◌==◌, ◌&&◌, ◌||◌, codes}
use Rattle.std.specs.List.{list_all}
use Rattle.std.proofs.lemmas.List.{length-append, length-drop}
use Rattle.std.specs.declared.option.Option.{Option}
use Rattle.std.specs.declared.option.Option.TheVariants.{None, Some}
use Rattle.opam_names.specs.Names.{is_digit}
use Rattle.opam_names.proofs.Bytes.{both_left, both_right}
use Rattle.syntax_trees.specs.declared.token.Token.{Token}
use Rattle.syntax_trees.specs.Words.{is_word_byte, begins_word, joins, word_of, word_token}
use Rattle.syntax_trees.specs.Signs.{signs, sign_among, begins_with}
use Rattle.syntax_trees.specs.Texts.{Piece, Closes, Gives, NoPiece, piece, quote, escape, decimal, hexadecimal, is_hexadecimal, simple, simple_escapes, after_spaces, IsInside, closes, gives}
use Rattle.syntax_trees.specs.declared.token.Token.TheVariants.{Text}
use Rattle.syntax_trees.specs.Lexes.{Lexes, none_read, gap_then, single_then, text_then}
use Rattle.syntax_trees.specs.Following.{token_of}
use Rattle.syntax_trees.specs.Tokens.{First, Gap, Single, Quote, NoToken, first, is_blank, after_line, after_comment, word_first, sign_first, Placed, placed, span_between}
use Rattle.syntax_trees.proofs.Shorter.{first_shrinks, after_first, inside_shrinks}
use Rattle.syntax_trees.proofs.Suffixes.{EndsWith, EndsFirst, ends_more, first_ends, inside_ends}

-- a byte that a bracket or a prefix operator begins with
pub data OpeningByte : ℕ → Type 0 where
  list_byte : OpeningByte 91
  braces_byte : OpeningByte 123
  group_byte : OpeningByte 40
  not_byte : OpeningByte 33
  defined_byte : OpeningByte 63

-- what goes on up to the byte goes on so whatever stands after the byte, or it goes past the byte
data Moves (x : ℕ) (m m2 : List ℕ) : First → First → Type 0 where
  gap_moves : (g : List ℕ) → Moves x m m2 (Gap (g ++ x ∷ m)) (Gap (g ++ x ∷ m2))
  single_moves : (token : Token) (g : List ℕ) → Moves x m m2 (Single token (g ++ x ∷ m)) (Single token (g ++ x ∷ m2))
  quote_moves : (long : Bool) (g : List ℕ) → Moves x m m2 (Quote long (g ++ x ∷ m)) (Quote long (g ++ x ∷ m2))
  gap_past : {other : First} (rest : List ℕ) → length rest ≤ length m → Moves x m m2 (Gap rest) other
  no_move : {other : First} → Moves x m m2 NoToken other

data PieceMoves (x : ℕ) (m m2 : List ℕ) : Piece → Piece → Type 0 where
  closes_moves : (g : List ℕ) → PieceMoves x m m2 (Closes (g ++ x ∷ m)) (Closes (g ++ x ∷ m2))
  gives_moves : (part g : List ℕ) → PieceMoves x m m2 (Gives part (g ++ x ∷ m)) (Gives part (g ++ x ∷ m2))
  gives_past : {other : Piece} (part rest : List ℕ) → length rest ≤ length m → PieceMoves x m m2 (Gives part rest) other
  no_piece : {other : Piece} → PieceMoves x m m2 NoPiece other

moves_if : {x : ℕ} {m m2 : List ℕ} {a b a2 b2 : First} (c d : Bool) → c ≡ d → (c ≡ true → Moves x m m2 a a2) → (c ≡ false → Moves x m m2 b b2)
    → Moves x m m2 (if c then a else b) (if d then a2 else b2)
moves_if true true e f g = f refl
moves_if false false e f g = g refl
moves_if true false e f g = absurd cc
moves_if false true e f g = absurd cc

piece_if : {x : ℕ} {m m2 : List ℕ} {a b a2 b2 : Piece} (c d : Bool) → c ≡ d → (c ≡ true → PieceMoves x m m2 a a2) → (c ≡ false → PieceMoves x m m2 b b2)
    → PieceMoves x m m2 (if c then a else b) (if d then a2 else b2)
piece_if true true e f g = f refl
piece_if false false e f g = g refl
piece_if true false e f g = absurd cc
piece_if false true e f g = absurd cc

-- a text without the byte begins both or neither
abbrev lacks : ℕ → List ℕ → Bool
lacks x text = list_all (λ c. not (c == x)) text

other_first : (c : Bool) (y z : Bool) → not c ≡ true → (c && y) ≡ (c && z)
other_first true y z e = absurd cc
other_first false y z e = refl

agree : (x : ℕ) (m m2 text f : List ℕ) → lacks x text ≡ true → begins_with text (f ++ x ∷ m) ≡ begins_with text (f ++ x ∷ m2)
agree x m m2 [] f h = refl
agree x m m2 (c ∷ text) [] h = other_first (c == x) (begins_with text m) (begins_with text m2) (both_left (not (c == x)) (lacks x text) h)
agree x m m2 (c ∷ text) (b ∷ f) h = ap (λ r. (c == b) && r) (agree x m m2 text f (both_right (not (c == x)) (lacks x text) h))

-- what stands after such a text
record Left (x : ℕ) (m m2 : List ℕ) (one other : List ℕ) : Type 0 where
  front : List ℕ
  is : one ≡ front ++ x ∷ m
  too : other ≡ front ++ x ∷ m2

not_both : (c y : Bool) → not c ≡ true → (c && y) ≡ true → ⊥
not_both true y e f = cc
not_both false y e f = cc

left_text : (x : ℕ) (m m2 text f : List ℕ) → lacks x text ≡ true → begins_with text (f ++ x ∷ m) ≡ true
    → Left x m m2 (drop (length text) (f ++ x ∷ m)) (drop (length text) (f ++ x ∷ m2))
left_text x m m2 [] f h e = record { front = f; is = refl; too = refl }
left_text x m m2 (c ∷ text) [] h e = absurd (not_both (c == x) (begins_with text m) (both_left (not (c == x)) (lacks x text) h) e)
left_text x m m2 (c ∷ text) (b ∷ f) h e =
    let l = left_text x m m2 text f (both_right (not (c == x)) (lacks x text) h) (both_right (c == b) (begins_with text (f ++ x ∷ m)) e) in
    record { front = l.front; is = l.is; too = l.too }

gap_left : {x : ℕ} {m m2 one other : List ℕ} → Left x m m2 one other → Moves x m m2 (Gap one) (Gap other)
gap_left {x} {m} {m2} {one} {other} l =
    subst (λ a. Moves x m m2 (Gap a) (Gap other)) (sym l.is) (subst (λ a. Moves x m m2 (Gap (l.front ++ x ∷ m)) (Gap a)) (sym l.too) (gap_moves l.front))

single_left : {x : ℕ} {m m2 one other : List ℕ} (t : Token) → Left x m m2 one other → Moves x m m2 (Single t one) (Single t other)
single_left {x} {m} {m2} {one} {other} t l =
    subst (λ a. Moves x m m2 (Single t a) (Single t other)) (sym l.is)
    (subst (λ a. Moves x m m2 (Single t (l.front ++ x ∷ m)) (Single t a)) (sym l.too) (single_moves t l.front))

quote_left : {x : ℕ} {m m2 one other : List ℕ} (long : Bool) → Left x m m2 one other → Moves x m m2 (Quote long one) (Quote long other)
quote_left {x} {m} {m2} {one} {other} long l =
    subst (λ a. Moves x m m2 (Quote long a) (Quote long other)) (sym l.is)
    (subst (λ a. Moves x m m2 (Quote long (l.front ++ x ∷ m)) (Quote long a)) (sym l.too) (quote_moves long l.front))

closes_left : {x : ℕ} {m m2 one other : List ℕ} → Left x m m2 one other → PieceMoves x m m2 (Closes one) (Closes other)
closes_left {x} {m} {m2} {one} {other} l =
    subst (λ a. PieceMoves x m m2 (Closes a) (Closes other)) (sym l.is)
    (subst (λ a. PieceMoves x m m2 (Closes (l.front ++ x ∷ m)) (Closes a)) (sym l.too) (closes_moves l.front))

gives_left : {x : ℕ} {m m2 one other : List ℕ} (part : List ℕ) → Left x m m2 one other → PieceMoves x m m2 (Gives part one) (Gives part other)
gives_left {x} {m} {m2} {one} {other} part l =
    subst (λ a. PieceMoves x m m2 (Gives part a) (Gives part other)) (sym l.is)
    (subst (λ a. PieceMoves x m m2 (Gives part (l.front ++ x ∷ m)) (Gives part a)) (sym l.too) (gives_moves part l.front))

-- comments
line_past : (m : List ℕ) → length (after_line m) ≤ length m
line_past [] = omega arith
line_past (b ∷ m) = past_if (b == 10) m (after_line m) (omega arith) (let h = line_past m in omega arith)
  where
    past_if : {n : ℕ} (c : Bool) (a b : List ℕ) → length a ≤ n → length b ≤ n → length (if c then a else b) ≤ n
    past_if true a b h k = h
    past_if false a b h k = k

line_moves : (x : ℕ) (m m2 f : List ℕ) → (x == 10) ≡ false → Moves x m m2 (Gap (after_line (f ++ x ∷ m))) (Gap (after_line (f ++ x ∷ m2)))
line_moves x m m2 [] h = past_if (x == 10) h
  where
    past_if : {other : First} (c : Bool) → c ≡ false → Moves x m m2 (Gap (if c then m else after_line m)) other
    past_if true e = absurd cc
    past_if false e = gap_past (after_line m) (line_past m)
line_moves x m m2 (b ∷ f) h = gap_if (b == 10) (line_moves x m m2 f h)
  where
    gap_if : {a b2 : List ℕ} (c : Bool) → Moves x m m2 (Gap a) (Gap b2) → Moves x m m2 (Gap (if c then f ++ x ∷ m else a)) (Gap (if c then f ++ x ∷ m2 else b2))
    gap_if true y = gap_moves f
    gap_if false y = y

comment_past : (x : ℕ) (m m2 : List ℕ) {other : First} (n : List ℕ) → length n ≤ length m → Moves x m m2 (after_comment n) other
comment_past x m m2 [] l = no_move
comment_past x m m2 {other} (b ∷ n) l = past_if (begins_with (codes "*)") (b ∷ n)) (comment_past x m m2 n (omega arith))
  where
    past_if : (c : Bool) → Moves x m m2 (after_comment n) other → Moves x m m2 (if c then Gap (drop 1 n) else after_comment n) other
    past_if true y = gap_past (drop 1 n) (omega (arith, length-drop 1 n))
    past_if false y = y

comment_moves : (x : ℕ) (m m2 f : List ℕ) → lacks x (codes "*)") ≡ true → Moves x m m2 (after_comment (f ++ x ∷ m)) (after_comment (f ++ x ∷ m2))
comment_moves x m m2 [] h = past_if (begins_with (codes "*)") (x ∷ m)) (comment_past x m m2 m (omega arith))
  where
    past_if : {other : First} (c : Bool) → Moves x m m2 (after_comment m) other → Moves x m m2 (if c then Gap (drop 1 m) else after_comment m) other
    past_if true y = gap_past (drop 1 m) (omega (arith, length-drop 1 m))
    past_if false y = y
comment_moves x m m2 (b ∷ f) h =
    moves_if (begins_with (codes "*)") (b ∷ f ++ x ∷ m)) (begins_with (codes "*)") (b ∷ f ++ x ∷ m2)) (agree x m m2 (codes "*)") (b ∷ f) h)
    (λ e. let l = left_text x m m2 (codes "*)") (b ∷ f) h e in gap_left (record { front = l.front; is = l.is; too = l.too }))
    (λ e. comment_moves x m m2 f h)

-- words
record WordMoves (x : ℕ) (m m2 : List ℕ) (joining : Bool) (f : List ℕ) : Type 0 where
  same : word_of joining (f ++ x ∷ m) ≡ word_of joining (f ++ x ∷ m2)
  left : Left x m m2 (drop (length (word_of joining (f ++ x ∷ m))) (f ++ x ∷ m)) (drop (length (word_of joining (f ++ x ∷ m))) (f ++ x ∷ m2))

same_begins : (x : ℕ) (m m2 f : List ℕ) → begins_word (f ++ x ∷ m) ≡ begins_word (f ++ x ∷ m2)
same_begins x m m2 [] = refl
same_begins x m m2 (b ∷ f) = refl

record IfMoves (x : ℕ) (m m2 : List ℕ) (b : ℕ) (f one other : List ℕ) : Type 0 where
  same : one ≡ other
  left : Left x m m2 (drop (length one) (b ∷ f ++ x ∷ m)) (drop (length one) (b ∷ f ++ x ∷ m2))

word_if : (x : ℕ) (m m2 : List ℕ) (b : ℕ) (f w v : List ℕ) (c d : Bool) → c ≡ d → w ≡ v
    → Left x m m2 (drop (length w) (f ++ x ∷ m)) (drop (length w) (f ++ x ∷ m2))
    → IfMoves x m m2 b f (if c then b ∷ w else []) (if d then b ∷ v else [])
word_if x m m2 b f w v true true e h l = record { same = ap (λ z. b ∷ z) h; left = record { front = l.front; is = l.is; too = l.too } }
word_if x m m2 b f w v false false e h l = record { same = refl; left = record { front = b ∷ f; is = refl; too = refl } }
word_if x m m2 b f w v true false e h l = absurd cc
word_if x m m2 b f w v false true e h l = absurd cc

-- no word begins at the byte, and it joins to none
record Apart (x : ℕ) : Type 0 where
  word : is_word_byte x ≡ false
  join : (x == 43 || x == 58) ≡ false

none_if : (x : ℕ) (m m2 : List ℕ) (w v : List ℕ) (c d : Bool) → c ≡ false → d ≡ false
    → ((if c then x ∷ w else []) ≡ (if d then x ∷ v else []))
    × Left x m m2 (drop (length (if c then x ∷ w else [])) (x ∷ m)) (drop (length (if c then x ∷ w else [])) (x ∷ m2))
none_if x m m2 w v false false e h = (refl, record { front = []; is = refl; too = refl })
none_if x m m2 w v true d e h = absurd cc
none_if x m m2 w v false true e h = absurd cc

no_join : (a j b c : Bool) → a ≡ false → b ≡ false → (a || (j && (b && c))) ≡ false
no_join false true false c e f = refl
no_join false false false c e f = refl
no_join true j b c e f = absurd cc
no_join false j true c e f = absurd cc

word_moves : (x : ℕ) (m m2 : List ℕ) → Apart x → (joining : Bool) (f : List ℕ) → WordMoves x m m2 joining f
word_moves x m m2 a joining [] =
    let n = none_if x m m2 (word_of (joining && not (x == 58)) m) (word_of (joining && not (x == 58)) m2) (is_word_byte x || (joining && joins x m))
    (is_word_byte x || (joining && joins x m2)) (no_join (is_word_byte x) joining (x == 43 || x == 58) (begins_word m) a.word a.join)
    (no_join (is_word_byte x) joining (x == 43 || x == 58) (begins_word m2) a.word a.join) in
    record { same = n.0; left = n.1 }
word_moves x m m2 a joining (b ∷ f) =
    let more = word_moves x m m2 a (joining && not (b == 58)) f in
    let i = word_if x m m2 b f (word_of (joining && not (b == 58)) (f ++ x ∷ m)) (word_of (joining && not (b == 58)) (f ++ x ∷ m2))
    (is_word_byte b || (joining && joins b (f ++ x ∷ m))) (is_word_byte b || (joining && joins b (f ++ x ∷ m2)))
    (ap (λ z. is_word_byte b || (joining && ((b == 43 || b == 58) && z))) (same_begins x m m2 f)) more.same more.left in
    record { same = i.same; left = i.left }

word_first_moves : (x : ℕ) (m m2 : List ℕ) (token : Option Token) {one other : List ℕ} → Left x m m2 one other
    → Moves x m m2 (word_first token one) (word_first token other)
word_first_moves x m m2 None l = no_move
word_first_moves x m m2 (Some token) l = single_left token l

-- signs
abbrev lacks_later : ℕ → List ℕ → Bool
lacks_later x [] = false
lacks_later x (c ∷ text) = lacks x text

sign_moves : (x : ℕ) (m m2 : List ℕ) (b : ℕ) (f : List ℕ) (table : List (List ℕ × Token)) → list_all (λ sign. lacks_later x sign.0) table ≡ true
    → Moves x m m2 (sign_first (sign_among table (b ∷ f ++ x ∷ m))) (sign_first (sign_among table (b ∷ f ++ x ∷ m2)))
sign_moves x m m2 b f [] h = no_move
sign_moves x m m2 b f (([], token) ∷ table) h = absurd cc
sign_moves x m m2 b f ((c ∷ text, token) ∷ table) h =
    let now = both_left (lacks x text) (list_all (λ sign. lacks_later x sign.0) table) h in
    let next = both_right (lacks x text) (list_all (λ sign. lacks_later x sign.0) table) h in
    sign_if _ _ _ _ (begins_with (c ∷ text) (b ∷ f ++ x ∷ m)) (begins_with (c ∷ text) (b ∷ f ++ x ∷ m2)) (ap (λ r. (c == b) && r) (agree x m m2 text f now))
    (λ e. let l = left_text x m m2 text f now (both_right (c == b) (begins_with text (f ++ x ∷ m)) e) in single_left token l)
    (sign_moves x m m2 b f table next)
  where
    sign_if : (r r2 : List ℕ) (o o2 : Option (Token × List ℕ)) (y z : Bool) → y ≡ z → (y ≡ true → Moves x m m2 (Single token r) (Single token r2))
        → Moves x m m2 (sign_first o) (sign_first o2) → Moves x m m2 (sign_first (if y then Some (token, r) else o)) (sign_first (if z then Some (token, r2) else o2))
    sign_if r r2 o o2 true true e p q = p refl
    sign_if r r2 o o2 false false e p q = q
    sign_if r r2 o o2 true false e p q = absurd cc
    sign_if r r2 o o2 false true e p q = absurd cc

-- what is known of an opening byte
pub record Opens (x : ℕ) : Type 0 where
  line : (x == 10) ≡ false
  comment : lacks x (codes "*)") ≡ true
  comment_sign : lacks x (codes "*") ≡ true
  quotes : lacks x (34 ∷ 34 ∷ []) ≡ true
  apart : Apart x
  sign : list_all (λ sign. lacks_later x sign.0) signs ≡ true
  digit : is_digit x ≡ false
  hexa : is_hexadecimal x ≡ false
  newline : lacks x (10 ∷ []) ≡ true
  space : (x == 32 || x == 9) ≡ false
  plain : (m : List ℕ) (long : Bool) → piece long (x ∷ m) ≡ Gives (x ∷ []) m
  escaped : (m : List ℕ) → escape (x ∷ m) ≡ NoPiece

pub opens : {x : ℕ} → OpeningByte x → Opens x
opens list_byte = record { line = refl; comment = refl; comment_sign = refl; quotes = refl; apart = record { word = refl; join = refl }; sign = refl; digit = refl; hexa = refl; newline = refl; space = refl; plain = λ m l. refl; escaped = λ m. refl }
opens braces_byte = record { line = refl; comment = refl; comment_sign = refl; quotes = refl; apart = record { word = refl; join = refl }; sign = refl; digit = refl; hexa = refl; newline = refl; space = refl; plain = λ m l. refl; escaped = λ m. refl }
opens group_byte = record { line = refl; comment = refl; comment_sign = refl; quotes = refl; apart = record { word = refl; join = refl }; sign = refl; digit = refl; hexa = refl; newline = refl; space = refl; plain = λ m l. refl; escaped = λ m. refl }
opens not_byte = record { line = refl; comment = refl; comment_sign = refl; quotes = refl; apart = record { word = refl; join = refl }; sign = refl; digit = refl; hexa = refl; newline = refl; space = refl; plain = λ m l. refl; escaped = λ m. refl }
opens defined_byte = record { line = refl; comment = refl; comment_sign = refl; quotes = refl; apart = record { word = refl; join = refl }; sign = refl; digit = refl; hexa = refl; newline = refl; space = refl; plain = λ m l. refl; escaped = λ m. refl }

first_moves : (x : ℕ) (m m2 : List ℕ) → Opens x → (b : ℕ) (f : List ℕ) → Moves x m m2 (first (b ∷ f ++ x ∷ m)) (first (b ∷ f ++ x ∷ m2))
first_moves x m m2 o b f =
    let w = word_moves x m m2 o.apart true (b ∷ f) in
    let word = word_of true (b ∷ f ++ x ∷ m) in
    let there : First → Type 0 = λ z. Moves x m m2 (word_first (word_token word) (drop (length word) (b ∷ f ++ x ∷ m))) z in
    moves_if (is_blank b) (is_blank b) refl (λ e. gap_moves f) (λ e.
    moves_if (b == 35) (b == 35) refl (λ e. line_moves x m m2 f o.line) (λ e.
    moves_if (begins_with (codes "(*") (b ∷ f ++ x ∷ m)) (begins_with (codes "(*") (b ∷ f ++ x ∷ m2)) (ap (λ r. (40 == b) && r) (agree x m m2 (codes "*") f o.comment_sign))
    (λ e. let l = left_text x m m2 (codes "*") f o.comment_sign (both_right (40 == b) (begins_with (codes "*") (f ++ x ∷ m)) e) in
    subst (λ z. Moves x m m2 (after_comment z) (after_comment (drop 1 (f ++ x ∷ m2)))) (sym l.is)
    (subst (λ z. Moves x m m2 (after_comment (l.front ++ x ∷ m)) (after_comment z)) (sym l.too) (comment_moves x m m2 l.front o.comment))) (λ e.
    moves_if (begins_with (34 ∷ 34 ∷ 34 ∷ []) (b ∷ f ++ x ∷ m)) (begins_with (34 ∷ 34 ∷ 34 ∷ []) (b ∷ f ++ x ∷ m2)) (ap (λ r. (34 == b) && r) (agree x m m2 (34 ∷ 34 ∷ []) f o.quotes))
    (λ e. quote_left true (left_text x m m2 (34 ∷ 34 ∷ []) f o.quotes (both_right (34 == b) (begins_with (34 ∷ 34 ∷ []) (f ++ x ∷ m)) e))) (λ e.
    moves_if (b == 34) (b == 34) refl (λ e. quote_moves false f) (λ e.
    moves_if (is_word_byte b) (is_word_byte b) refl
    (λ e. subst (λ v. there (word_first (word_token v) (drop (length v) (b ∷ f ++ x ∷ m2)))) w.same (word_first_moves x m m2 (word_token word) w.left))
    (λ e. sign_moves x m m2 b f signs o.sign))))))

-- inside a text
spaces_moves : (x : ℕ) (m m2 f : List ℕ) → (x == 32 || x == 9) ≡ false → Left x m m2 (after_spaces (f ++ x ∷ m)) (after_spaces (f ++ x ∷ m2))
spaces_moves x m m2 [] h = stay (x == 32 || x == 9) h
  where
    stay : (c : Bool) → c ≡ false → Left x m m2 (if c then after_spaces m else x ∷ m) (if c then after_spaces m2 else x ∷ m2)
    stay true e = absurd cc
    stay false e = record { front = []; is = refl; too = refl }
spaces_moves x m m2 (b ∷ f) h = stay (b == 32 || b == 9) (spaces_moves x m m2 f h)
  where
    stay : {r r2 : List ℕ} (c : Bool) → Left x m m2 r r2 → Left x m m2 (if c then r else b ∷ f ++ x ∷ m) (if c then r2 else b ∷ f ++ x ∷ m2)
    stay true l = l
    stay false l = record { front = b ∷ f; is = refl; too = refl }

none_and : (a b : Bool) → b ≡ false → (a && b) ≡ false
none_and true b e = e
none_and false b e = refl

and_none : (a b : Bool) → a ≡ false → (a && b) ≡ false
and_none false b e = refl
and_none true b e = absurd cc

piece_none : {x : ℕ} {m m2 : List ℕ} {other : Piece} (part rest : List ℕ) (c : Bool) → c ≡ false → PieceMoves x m m2 (if c then Gives part rest else NoPiece) other
piece_none part rest true e = absurd cc
piece_none part rest false e = no_piece

piece_both : {x : ℕ} {m m2 : List ℕ} (part : List ℕ) (c : Bool) (f : List ℕ) → PieceMoves x m m2 (if c then Gives part (f ++ x ∷ m) else NoPiece) (if c then Gives part (f ++ x ∷ m2) else NoPiece)
piece_both part true f = gives_moves part f
piece_both part false f = no_piece

decimal_moves : (x : ℕ) (m m2 : List ℕ) → is_digit x ≡ false → (a : ℕ) (f : List ℕ) → PieceMoves x m m2 (decimal (a ∷ f ++ x ∷ m)) (decimal (a ∷ f ++ x ∷ m2))
decimal_moves x [] m2 h a [] = no_piece
decimal_moves x (c ∷ m) m2 h a [] = piece_none _ _ _ (drops (is_digit a) (is_digit x) (is_digit c) _ h)
  where
    drops : (p q r s : Bool) → q ≡ false → (p && q && r && s) ≡ false
    drops true true r s e = absurd cc
    drops true false r s e = refl
    drops false q r s e = refl
decimal_moves x m m2 h a (b ∷ []) = piece_none _ _ _ (drops (is_digit a) (is_digit b) (is_digit x) _ h)
  where
    drops : (p q r s : Bool) → r ≡ false → (p && q && r && s) ≡ false
    drops true true true s e = absurd cc
    drops true true false s e = refl
    drops true false r s e = refl
    drops false q r s e = refl
decimal_moves x m m2 h a (b ∷ c ∷ f) = piece_both _ _ f

hexadecimal_moves : (x : ℕ) (m m2 : List ℕ) → is_hexadecimal x ≡ false → (f : List ℕ) → PieceMoves x m m2 (hexadecimal (f ++ x ∷ m)) (hexadecimal (f ++ x ∷ m2))
hexadecimal_moves x [] m2 h [] = no_piece
hexadecimal_moves x (c ∷ m) m2 h [] = piece_none _ _ _ (and_none (is_hexadecimal x) (is_hexadecimal c) h)
hexadecimal_moves x m m2 h (a ∷ []) = piece_none _ _ _ (none_and (is_hexadecimal a) (is_hexadecimal x) h)
hexadecimal_moves x m m2 h (a ∷ b ∷ f) = piece_both _ _ f

simple_moves : (x : ℕ) (m m2 f : List ℕ) (table : List (ℕ × ℕ)) (b : ℕ) → PieceMoves x m m2 (simple table b (f ++ x ∷ m)) (simple table b (f ++ x ∷ m2))
simple_moves x m m2 f [] b = no_piece
simple_moves x m m2 f (e ∷ table) b = piece_if (e.0 == b) (e.0 == b) refl (λ h. gives_moves (e.1 ∷ []) f) (λ h. simple_moves x m m2 f table b)

escape_moves : (x : ℕ) (m m2 : List ℕ) → Opens x → (f : List ℕ) → PieceMoves x m m2 (escape (f ++ x ∷ m)) (escape (f ++ x ∷ m2))
escape_moves x m m2 o [] = subst (λ z. PieceMoves x m m2 z (escape (x ∷ m2))) (sym (o.escaped m)) no_piece
escape_moves x m m2 o (b ∷ f) =
    piece_if (is_digit b) (is_digit b) refl (λ e. decimal_moves x m m2 o.digit b f) (λ e.
    piece_if (b == 120) (b == 120) refl (λ e. hexadecimal_moves x m m2 o.hexa f) (λ e.
    piece_if (b == 10) (b == 10) refl (λ e. gives_left [] (spaces_moves x m m2 f o.space)) (λ e.
    piece_if (b == 13) (b == 13) refl (λ e.
    piece_if (begins_with (10 ∷ []) (f ++ x ∷ m)) (begins_with (10 ∷ []) (f ++ x ∷ m2)) (agree x m m2 (10 ∷ []) f o.newline)
    (λ e. let l = left_text x m m2 (10 ∷ []) f o.newline e in
    subst (λ z. PieceMoves x m m2 (Gives [] (after_spaces z)) (Gives [] (after_spaces (drop 1 (f ++ x ∷ m2))))) (sym l.is)
    (subst (λ z. PieceMoves x m m2 (Gives [] (after_spaces (l.front ++ x ∷ m))) (Gives [] (after_spaces z))) (sym l.too)
    (gives_left [] (spaces_moves x m m2 l.front o.space)))) (λ e. no_piece))
    (λ e. simple_moves x m m2 f simple_escapes b))))

quote_piece_moves : (x : ℕ) (m m2 : List ℕ) → Opens x → (long : Bool) (f : List ℕ) → PieceMoves x m m2 (quote long (f ++ x ∷ m)) (quote long (f ++ x ∷ m2))
quote_piece_moves x m m2 o false f = closes_moves f
quote_piece_moves x m m2 o true f =
    piece_if (begins_with (34 ∷ 34 ∷ []) (f ++ x ∷ m)) (begins_with (34 ∷ 34 ∷ []) (f ++ x ∷ m2)) (agree x m m2 (34 ∷ 34 ∷ []) f o.quotes)
    (λ e. closes_left (left_text x m m2 (34 ∷ 34 ∷ []) f o.quotes e)) (λ e. gives_moves (34 ∷ []) f)

piece_moves : (x : ℕ) (m m2 : List ℕ) → Opens x → (long : Bool) (f : List ℕ) → PieceMoves x m m2 (piece long (f ++ x ∷ m)) (piece long (f ++ x ∷ m2))
piece_moves x m m2 o long [] = subst (λ z. PieceMoves x m m2 z (piece long (x ∷ m2))) (sym (o.plain m long)) (gives_past (x ∷ []) m (omega arith))
piece_moves x m m2 o long (b ∷ f) =
    piece_if (b == 92) (b == 92) refl (λ e. escape_moves x m m2 o f) (λ e.
    piece_if (b == 34) (b == 34) refl (λ e. quote_piece_moves x m m2 o long f) (λ e. gives_moves (b ∷ []) f))

-- what was read up to the byte is read so whatever stands after it
record Reads (x : ℕ) (m m2 : List ℕ) (rest : List ℕ) (Read : List ℕ → Type 0) : Type 0 where
  front : List ℕ
  is : rest ≡ front ++ x ∷ m
  too : Read (front ++ x ∷ m2)

same_gap : {a b : List ℕ} → Gap a ≡ Gap b → a ≡ b
same_gap e = cc

same_single : {t u : Token} {a b : List ℕ} → Single t a ≡ Single u b → (t ≡ u) × (a ≡ b)
same_single e = (cc, cc)

same_quote : {c d : Bool} {a b : List ℕ} → Quote c a ≡ Quote d b → (c ≡ d) × (a ≡ b)
same_quote e = (cc, cc)

same_closes : {a b : List ℕ} → Closes a ≡ Closes b → a ≡ b
same_closes e = cc

same_gives : {c d a b : List ℕ} → Gives c a ≡ Gives d b → (c ≡ d) × (a ≡ b)
same_gives e = (cc, cc)

too_short : {A : Type 0} (x : ℕ) (m a b : List ℕ) → a ≡ b → length a ≤ length m → length (x ∷ m) ≤ length b → A
too_short x m a b e l h = let f : length a ≡ length b = ap length e in absurd (omega arith)

gap_read : {x : ℕ} {m m2 rest : List ℕ} {u v : First} → Moves x m m2 u v → u ≡ Gap rest → length (x ∷ m) ≤ length rest
    → Reads x m m2 rest (λ z. v ≡ Gap z)
gap_read (gap_moves g) e l = record { front = g; is = sym (same_gap e); too = refl }
gap_read {x} {m} {rest = rest} (gap_past r h) e l = too_short x m r rest (same_gap e) h l
gap_read (single_moves t g) e l = absurd cc
gap_read (quote_moves long g) e l = absurd cc
gap_read no_move e l = absurd cc

single_read : {x : ℕ} {m m2 rest : List ℕ} {token : Token} {u v : First} → Moves x m m2 u v → u ≡ Single token rest
    → Reads x m m2 rest (λ z. v ≡ Single token z)
single_read {x} {m} {m2} (single_moves t g) e =
    let s = same_single e in record { front = g; is = sym s.1; too = ap (λ t. Single t (g ++ x ∷ m2)) s.0 }
single_read (gap_moves g) e = absurd cc
single_read (gap_past r h) e = absurd cc
single_read (quote_moves long g) e = absurd cc
single_read no_move e = absurd cc

quote_read : {x : ℕ} {m m2 rest : List ℕ} {long : Bool} {u v : First} → Moves x m m2 u v → u ≡ Quote long rest
    → Reads x m m2 rest (λ z. v ≡ Quote long z)
quote_read {x} {m} {m2} (quote_moves c g) e =
    let s = same_quote e in record { front = g; is = sym s.1; too = ap (λ c. Quote c (g ++ x ∷ m2)) s.0 }
quote_read (gap_moves g) e = absurd cc
quote_read (gap_past r h) e = absurd cc
quote_read (single_moves t g) e = absurd cc
quote_read no_move e = absurd cc

closes_read : {x : ℕ} {m m2 rest : List ℕ} {u v : Piece} → PieceMoves x m m2 u v → u ≡ Closes rest → Reads x m m2 rest (λ z. v ≡ Closes z)
closes_read (closes_moves g) e = record { front = g; is = sym (same_closes e); too = refl }
closes_read (gives_moves part g) e = absurd cc
closes_read (gives_past part r h) e = absurd cc
closes_read no_piece e = absurd cc

gives_read : {x : ℕ} {m m2 rest part : List ℕ} {u v : Piece} → PieceMoves x m m2 u v → u ≡ Gives part rest → length (x ∷ m) ≤ length rest
    → Reads x m m2 rest (λ z. v ≡ Gives part z)
gives_read {x} {m} {m2} (gives_moves p g) e l =
    let s = same_gives e in record { front = g; is = sym s.1; too = ap (λ p. Gives p (g ++ x ∷ m2)) s.0 }
gives_read {x} {m} {rest = rest} (gives_past p r h) e l = too_short x m r rest (same_gives e).1 h l
gives_read (closes_moves g) e l = absurd cc
gives_read no_piece e l = absurd cc

inside_short : {long : Bool} {bytes t r : List ℕ} → IsInside long bytes t r → length r ≤ length bytes
inside_short i = let l = inside_shrinks i in omega arith

-- the text that stands before the byte
inside_read : {long : Bool} {bytes t r : List ℕ} → IsInside long bytes t r → (x : ℕ) (m m2 f : List ℕ) → Opens x → bytes ≡ f ++ x ∷ m
    → length (x ∷ m) ≤ length r → Reads x m m2 r (λ z. IsInside long (f ++ x ∷ m2) t z)
inside_read {long} {r = r} (closes e) x m m2 f o h l =
    let c = closes_read (piece_moves x m m2 o long f) (sym (ap (piece long) h) ∙ e) in
    record { front = c.front; is = c.is; too = closes c.too }
inside_read {long} {r = r} (gives {more = more} e p) x m m2 f o h l =
    let s = inside_short p in
    let g = gives_read (piece_moves x m m2 o long f) (sym (ap (piece long) h) ∙ e) (omega arith) in
    let i = inside_read p x m m2 g.front o g.is l in
    record { front = i.front; is = i.is; too = gives g.too i.too }

pub lexes_end : {total : ℕ} {bytes stop : List ℕ} {tokens : List Placed} → Lexes total bytes tokens stop → EndsWith bytes stop
lexes_end none_read = (zero, refl)
lexes_end {bytes = bytes} (gap_then {rest = rest} e l) =
    let h : EndsWith bytes rest = subst (EndsFirst bytes) e (first_ends bytes) in ends_more h (lexes_end l)
lexes_end {bytes = bytes} (single_then {rest = rest} e l) =
    let h : EndsWith bytes rest = subst (EndsFirst bytes) e (first_ends bytes) in ends_more h (lexes_end l)
lexes_end {bytes = bytes} (text_then {inside = inside} e i l) =
    let h : EndsWith bytes inside = subst (EndsFirst bytes) e (first_ends bytes) in ends_more h (ends_more (inside_ends i) (lexes_end l))

ends_short : (bytes stop : List ℕ) → EndsWith bytes stop → length stop ≤ length bytes
ends_short bytes stop (k, e) = let f : length stop ≡ length (drop k bytes) = ap length e in omega (arith, length-drop k bytes)

pub lexes_short : {total : ℕ} {bytes stop : List ℕ} {tokens : List Placed} → Lexes total bytes tokens stop → length stop ≤ length bytes
lexes_short {bytes = bytes} {stop = stop} l = ends_short bytes stop (lexes_end l)

-- the same tokens up to the byte, whatever stands after it
pub record LexesToo (total : ℕ) (bytes stop : List ℕ) (kinds : List Token) : Type 0 where
  pub tokens : List Placed
  pub lexes : Lexes total bytes tokens stop
  pub same : map token_of tokens ≡ kinds

nothing_before : (x : ℕ) (m f : List ℕ) → length (f ++ x ∷ m) ≡ length (x ∷ m) → f ≡ []
nothing_before x m [] e = refl
nothing_before x m (b ∷ f) e = let h = length-append f (x ∷ m) in absurd (omega arith)

one_more : (token : Token) {ts us : List Token} → ts ≡ us → (token ∷ ts) ≡ (token ∷ us)
one_more token e = ap (λ l. token ∷ l) e

lexes_from : (total : ℕ) (f stop : List ℕ) → f ≡ [] → LexesToo total (f ++ stop) stop []
lexes_from total [] stop e = record { tokens = []; lexes = none_read; same = refl }
lexes_from total (b ∷ f) stop e = absurd cc

past_it : {A : Type 0} {x : ℕ} {m : List ℕ} (bytes rest stop : List ℕ) → bytes ≡ x ∷ m → length stop ≡ length (x ∷ m) → length stop ≤ length rest
    → length rest < length bytes → A
past_it bytes rest stop h l k i = let e = ap length h in absurd (omega arith)

pub lexes_too : {total : ℕ} {bytes stop : List ℕ} {tokens : List Placed} → Lexes total bytes tokens stop → (x : ℕ) (m m2 f : List ℕ) (total2 : ℕ) → Opens x
    → bytes ≡ f ++ x ∷ m → length stop ≡ length (x ∷ m) → LexesToo total2 (f ++ x ∷ m2) (x ∷ m2) (map token_of tokens)
lexes_too {total} {bytes} none_read x m m2 f total2 o h l =
    let e : length (f ++ x ∷ m) ≡ length (x ∷ m) = sym (ap length h) ∙ l in
    lexes_from total2 f (x ∷ m2) (nothing_before x m f e)
lexes_too {bytes = bytes} {stop = stop} (gap_then {rest = rest} e p) x m m2 [] total2 o h l =
    past_it bytes rest stop h l (lexes_short p) (after_first (length bytes) e (first_shrinks bytes))
lexes_too {bytes = bytes} {stop = stop} (gap_then {rest = rest} e p) x m m2 (b ∷ f) total2 o h l =
    let s = lexes_short p in
    let g = gap_read (first_moves x m m2 o b f) (sym (ap first h) ∙ e) (omega arith) in
    let t = lexes_too p x m m2 g.front total2 o g.is l in
    record { tokens = t.tokens; lexes = gap_then g.too t.lexes; same = t.same }
lexes_too {bytes = bytes} {stop = stop} (single_then {rest = rest} e p) x m m2 [] total2 o h l =
    past_it bytes rest stop h l (lexes_short p) (after_first (length bytes) e (first_shrinks bytes))
lexes_too {bytes = bytes} {stop = stop} (single_then {rest = rest} {token = token} e p) x m m2 (b ∷ f) total2 o h l =
    let g = single_read (first_moves x m m2 o b f) (sym (ap first h) ∙ e) in
    let t = lexes_too p x m m2 g.front total2 o g.is l in
    record { tokens = placed token (span_between total2 (b ∷ f ++ x ∷ m2) (g.front ++ x ∷ m2)) ∷ t.tokens; lexes = single_then g.too t.lexes; same = one_more token {ts = map token_of t.tokens} t.same }
lexes_too {bytes = bytes} {stop = stop} (text_then {inside = inside} {rest = rest} e i p) x m m2 [] total2 o h l =
    let a : length inside < length bytes = after_first (length bytes) e (first_shrinks bytes) in
    let b = inside_shrinks i in
    past_it bytes rest stop h l (lexes_short p) (omega arith)
lexes_too {bytes = bytes} {stop = stop} (text_then {inside = inside} {text = t} {rest = rest} e i p) x m m2 (b ∷ f) total2 o h l =
    let s = lexes_short p in
    let g = quote_read (first_moves x m m2 o b f) (sym (ap first h) ∙ e) in
    let j = inside_read i x m m2 g.front o g.is (omega arith) in
    let u = lexes_too p x m m2 j.front total2 o j.is l in
    record { tokens = placed (Text t) (span_between total2 (b ∷ f ++ x ∷ m2) (j.front ++ x ∷ m2)) ∷ u.tokens; lexes = text_then g.too j.too u.lexes; same = one_more (Text t) {ts = map token_of u.tokens} u.same }
