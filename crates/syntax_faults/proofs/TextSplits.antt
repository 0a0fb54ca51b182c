-- What stands first inside a text when more stands after the bytes.
use Rattle.std.proofs.Common.{◌≡◌, ℕ, zero, suc, ◌+◌, ◌-◌, ◌*◌, ◌<◌, ◌≤◌, Bool, true, false, List, [], ◌∷◌, ◌++◌, length, drop, refl, ap, sym, subst, ◌∙◌, arith, if◌then◌else◌}
use Rattle.std.specs.Prelude.{◌==◌, ◌&&◌, ◌||◌, codes, ⊤, nat_le}
use Rattle.std.proofs.lemmas.Bool.{and_from, leb-true, le-leb}
use Rattle.std.proofs.lemmas.List.{length-drop}
use Rattle.opam_names.specs.Names.{is_digit}
use Rattle.opam_names.proofs.Bytes.{both_left}
use Rattle.syntax_trees.specs.Signs.{begins_with}
use Rattle.syntax_trees.specs.Texts.{Piece, Closes, Gives, NoPiece, piece, quote, escape, decimal, hexadecimal, is_hexadecimal, simple, simple_escapes, after_spaces, IsInside, closes, gives}
use Rattle.syntax_trees.proofs.Shorter.{piece_shrinks, ShrinksText, inside_shrinks}
use Rattle.syntax_faults.specs.Endings.{IsEnding, text_ending, IsEscapeEnd, no_escape, escaped_quote, last_digit, two_digits, escaped_newline, AreQuotes, one_quote, three_quotes}

-- the quotes that end a text
abbrev pub quotes : Bool → List ℕ
quotes false = 34 ∷ []
quotes true = 34 ∷ 34 ∷ 34 ∷ []

quotes_are : (long : Bool) → AreQuotes (quotes long)
quotes_are false = one_quote
quotes_are true = three_quotes

closed_now : (long : Bool) → IsInside long (quotes long) [] []
closed_now false = closes refl
closed_now true = closes refl

pub record PieceGives (long : Bool) (part more : List ℕ) (contents : List ℕ) : Type 0 where
  pub later : List ℕ
  pub is : contents ≡ part ++ later
  pub spelled : IsInside long more later []

-- what stands first goes on to the end of the text, and of the bytes
abbrev pub PieceEnds : Bool → Piece → List ℕ → Type 0
PieceEnds long (Closes rest) contents = (contents ≡ []) × (rest ≡ [])
PieceEnds long (Gives part more) contents = PieceGives long part more contents
PieceEnds long NoPiece contents = ⊥

pub record TextEnds (long : Bool) (p : List ℕ → Piece) : Type 0 where
  pub ending : List ℕ
  pub is : IsEnding ending
  pub contents : List ℕ
  pub ends_so : PieceEnds long (p ending) contents

-- it is something
abbrev pub IsPiece : Piece → Type 0
IsPiece (Closes rest) = ⊤
IsPiece (Gives part rest) = ⊤
IsPiece NoPiece = ⊥

abbrev pub CanClose : Bool → (List ℕ → Piece) → Type 0
CanClose long p = (x : List ℕ) → IsPiece (p x) → TextEnds long p

-- what is left after the text's end is not longer than what stands after the bytes
abbrev pub PastPiece : List ℕ → Piece → Type 0
PastPiece x (Closes rest) = length rest ≤ length x
PastPiece x (Gives part rest) = length rest ≤ suc (length x)
PastPiece x NoPiece = ⊤

pub data PieceSplit (long : Bool) (n : ℕ) (p : List ℕ → Piece) : Type 0 where
  closes_settled : (g : List ℕ) → length g < n → ((x : List ℕ) → p x ≡ Closes (g ++ x)) → PieceSplit long n p
  gives_settled : (part g : List ℕ) → length g < n → ((x : List ℕ) → p x ≡ Gives part (g ++ x)) → PieceSplit long n p
  no_settled : ((x : List ℕ) → p x ≡ NoPiece) → PieceSplit long n p
  piece_loose : ((x : List ℕ) → PastPiece x (p x)) → CanClose long p → PieceSplit long n p

pub piece_if : {long : Bool} {n : ℕ} {p q : List ℕ → Piece} (c : Bool) → (c ≡ true → PieceSplit long n p) → (c ≡ false → PieceSplit long n q)
    → PieceSplit long n (λ x. if c then p x else q x)
piece_if true f g = f refl
piece_if false f g = g refl

past_piece : (x : List ℕ) (p : Piece) → ShrinksText (suc (length x)) p → PastPiece x p
past_piece x (Closes rest) h = omega arith
past_piece x (Gives part rest) h = omega arith
past_piece x NoPiece h = tt

-- a part that is settled, or none
gives_if : (long : Bool) (n : ℕ) (c : Bool) (part g : List ℕ) → length g < n → PieceSplit long n (λ x. if c then Gives part (g ++ x) else NoPiece)
gives_if long n true part g l = gives_settled part g l (λ x. refl)
gives_if long n false part g l = no_settled (λ x. refl)

past_if : (x : List ℕ) (c : Bool) (part rest : List ℕ) → length rest ≤ suc (length x) → PastPiece x (if c then Gives part rest else NoPiece)
past_if x true part rest l = l
past_if x false part rest l = tt

-- where a test holds
holds : (c : Bool) (part rest : List ℕ) → IsPiece (if c then Gives part rest else NoPiece) → c ≡ true
holds true part rest h = refl
holds false part rest h = absurd h

-- a part before the closing quotes
before_quotes : (long : Bool) (p : List ℕ → Piece) (escape_end part : List ℕ) → IsEscapeEnd escape_end → p (escape_end ++ quotes long) ≡ Gives part (quotes long)
    → TextEnds long p
before_quotes long p escape_end part i e =
    let contents = part ++ [] in
    let now : PieceEnds long (Gives part (quotes long)) contents = record { later = []; is = refl; spelled = closed_now long } in
    record { ending = escape_end ++ quotes long; is = text_ending i (quotes_are long); contents = contents; ends_so = subst (λ z. PieceEnds long z contents) (sym e) now }

given_if : {c : Bool} {part rest : List ℕ} → c ≡ true → (if c then Gives part rest else NoPiece) ≡ Gives part rest
given_if {c = true} e = refl
given_if {c = false} e = absurd cc

-- spaces at the beginning of a line
pub data SpacesSplit (f : List ℕ) : Type 0 where
  spaces_settled : (g : List ℕ) → length g ≤ length f → ((x : List ℕ) → after_spaces (f ++ x) ≡ g ++ x) → SpacesSplit f
  spaces_alone : ((x : List ℕ) → after_spaces (f ++ x) ≡ after_spaces x) → SpacesSplit f

spaces_split : (f : List ℕ) → SpacesSplit f
spaces_split [] = spaces_alone (λ x. refl)
spaces_split (b ∷ f) = space_if (b == 32 || b == 9) refl (spaces_split f)
  where
    space_if : (c : Bool) → (b == 32 || b == 9) ≡ c → SpacesSplit f → SpacesSplit (b ∷ f)
    space_if true e (spaces_settled g l h) = spaces_settled g (omega arith) (λ x. ap (λ c. if c then after_spaces (f ++ x) else b ∷ f ++ x) e ∙ h x)
    space_if true e (spaces_alone h) = spaces_alone (λ x. ap (λ c. if c then after_spaces (f ++ x) else b ∷ f ++ x) e ∙ h x)
    space_if false e s = spaces_settled (b ∷ f) (omega arith) (λ x. ap (λ c. if c then after_spaces (f ++ x) else b ∷ f ++ x) e)

spaces_short : (bytes : List ℕ) → length (after_spaces bytes) ≤ length bytes
spaces_short [] = omega arith
spaces_short (b ∷ bytes) = short_if (b == 32 || b == 9) (spaces_short bytes)
  where
    short_if : (c : Bool) → length (after_spaces bytes) ≤ length bytes → length (if c then after_spaces bytes else b ∷ bytes) ≤ length (b ∷ bytes)
    short_if true h = omega arith
    short_if false h = omega arith

quotes_stay : (long : Bool) → after_spaces (quotes long) ≡ quotes long
quotes_stay false = refl
quotes_stay true = refl

joined_split : (long : Bool) (n : ℕ) (f : List ℕ) → length f < n → PieceSplit long n (λ x. Gives [] (after_spaces (f ++ x)))
joined_split long n f l = joined (spaces_split f)
  where
    joined : SpacesSplit f → PieceSplit long n (λ x. Gives [] (after_spaces (f ++ x)))
    joined (spaces_settled g k h) = gives_settled [] g (omega arith) (λ x. ap (Gives []) (h x))
    joined (spaces_alone h) = piece_loose (λ x. subst (λ z. length z ≤ suc (length x)) (sym (h x)) (let s = spaces_short x in omega arith))
        (λ x i. before_quotes long (λ y. Gives [] (after_spaces (f ++ y))) [] [] no_escape (ap (Gives []) (h (quotes long) ∙ quotes_stay long)))

-- digits
four_left : (a b c d : Bool) → (a && b && c && d) ≡ true → a ≡ true
four_left true b c d e = refl
four_left false b c d e = e

four_second : (a b c d : Bool) → (a && b && c && d) ≡ true → b ≡ true
four_second true true c d e = refl
four_second true false c d e = e
four_second false b c d e = cc

four_last : (a b c d : Bool) → (a && b && c && d) ≡ true → d ≡ true
four_last true true true d e = e
four_last true true false d e = cc
four_last true false c d e = cc
four_last false b c d e = cc

all_four : {a b c d : Bool} → a ≡ true → b ≡ true → c ≡ true → d ≡ true → (a && b && c && d) ≡ true
all_four {a} {b} {c} {d} e f g h = and_from (a && b && c) d (and_from (a && b) c (and_from a b e f) g) h

smaller : (m n : ℕ) → m ≤ n → nat_le n 255 ≡ true → nat_le m 255 ≡ true
smaller m n l e = let h = leb-true n 255 e in le-leb m 255 (omega arith)

decimal_split : (long : Bool) (n : ℕ) (y : ℕ) (f : List ℕ) → length f < n → PieceSplit long n (λ x. decimal (y ∷ f ++ x))
decimal_split long n y [] l = piece_loose past close
  where
    past : (x : List ℕ) → PastPiece x (decimal (y ∷ x))
    past [] = tt
    past (c ∷ []) = tt
    past (c ∷ d ∷ x) = past_if (c ∷ d ∷ x) _ _ x (omega arith)

    close : (x : List ℕ) → IsPiece (decimal (y ∷ x)) → TextEnds long (λ x. decimal (y ∷ x))
    close [] h = absurd h
    close (c ∷ []) h = absurd h
    close (c ∷ d ∷ x) h =
        let e = holds _ _ x h in
        let k = four_last (is_digit y) (is_digit c) (is_digit d) (nat_le (100 * (y - 48) + 10 * (c - 48) + (d - 48)) 255) e in
        let j = smaller (100 * (y - 48) + 10 * (48 - 48) + (48 - 48)) (100 * (y - 48) + 10 * (c - 48) + (d - 48)) (omega arith) k in
        before_quotes long (λ x. decimal (y ∷ x)) (codes "00") _ two_digits (given_if (all_four (four_left (is_digit y) (is_digit c) (is_digit d) _ e) refl refl j))
decimal_split long n y (z ∷ []) l = piece_loose past close
  where
    past : (x : List ℕ) → PastPiece x (decimal (y ∷ z ∷ x))
    past [] = tt
    past (d ∷ x) = past_if (d ∷ x) _ _ x (omega arith)

    close : (x : List ℕ) → IsPiece (decimal (y ∷ z ∷ x)) → TextEnds long (λ x. decimal (y ∷ z ∷ x))
    close [] h = absurd h
    close (d ∷ x) h =
        let e = holds _ _ x h in
        let k = four_last (is_digit y) (is_digit z) (is_digit d) (nat_le (100 * (y - 48) + 10 * (z - 48) + (d - 48)) 255) e in
        let j = smaller (100 * (y - 48) + 10 * (z - 48) + (48 - 48)) (100 * (y - 48) + 10 * (z - 48) + (d - 48)) (omega arith) k in
        before_quotes long (λ x. decimal (y ∷ z ∷ x)) (codes "0") _ last_digit
        (given_if (all_four (four_left (is_digit y) (is_digit z) (is_digit d) _ e) (four_second (is_digit y) (is_digit z) (is_digit d) _ e) refl j))
decimal_split long n y (z ∷ w ∷ g) l = gives_if long n _ _ g (omega arith)

hexadecimal_split : (long : Bool) (n : ℕ) (f : List ℕ) → length f < n → PieceSplit long n (λ x. hexadecimal (f ++ x))
hexadecimal_split long n [] l = piece_loose past (λ x h. before_quotes long hexadecimal (codes "00") _ two_digits refl)
  where
    past : (x : List ℕ) → PastPiece x (hexadecimal x)
    past [] = tt
    past (c ∷ []) = tt
    past (c ∷ d ∷ x) = past_if (c ∷ d ∷ x) _ _ x (omega arith)
hexadecimal_split long n (z ∷ []) l = piece_loose past close
  where
    past : (x : List ℕ) → PastPiece x (hexadecimal (z ∷ x))
    past [] = tt
    past (d ∷ x) = past_if (d ∷ x) _ _ x (omega arith)

    close : (x : List ℕ) → IsPiece (hexadecimal (z ∷ x)) → TextEnds long (λ x. hexadecimal (z ∷ x))
    close [] h = absurd h
    close (d ∷ x) h =
        before_quotes long (λ x. hexadecimal (z ∷ x)) (codes "0") _ last_digit
        (given_if (and_from (is_hexadecimal z) (is_hexadecimal 48) (both_left (is_hexadecimal z) (is_hexadecimal d) (holds _ _ x h)) refl))
hexadecimal_split long n (z ∷ w ∷ g) l = gives_if long n _ _ g (omega arith)

simple_split : (long : Bool) (n : ℕ) (table : List (ℕ × ℕ)) (y : ℕ) (f : List ℕ) → length f < n → PieceSplit long n (λ x. simple table y (f ++ x))
simple_split long n [] y f l = no_settled (λ x. refl)
simple_split long n (e ∷ table) y f l =
    piece_if (e.0 == y) (λ h. gives_settled (e.1 ∷ []) f l (λ x. refl)) (λ h. simple_split long n table y f l)

newline_split : (long : Bool) (n : ℕ) (f : List ℕ) → length f < n
    → PieceSplit long n (λ x. if begins_with (10 ∷ []) (f ++ x) then Gives [] (after_spaces (drop 1 (f ++ x))) else NoPiece)
newline_split long n [] l = piece_loose past (λ x h. before_quotes long _ (10 ∷ []) [] escaped_newline (ap (Gives []) (quotes_stay long)))
  where
    past : (x : List ℕ) → PastPiece x (if begins_with (10 ∷ []) x then Gives [] (after_spaces (drop 1 x)) else NoPiece)
    past x = past_if x (begins_with (10 ∷ []) x) [] (after_spaces (drop 1 x)) (let s = spaces_short (drop 1 x) in omega (arith, length-drop 1 x))
newline_split long n (z ∷ g) l = piece_if (10 == z && true) (λ e. joined_split long n g (omega arith)) (λ e. no_settled (λ x. refl))

escape_split : (long : Bool) (n : ℕ) (f : List ℕ) → length f < n → PieceSplit long n (λ x. escape (f ++ x))
escape_split long n [] l =
    piece_loose (λ x. past_piece x (escape x) (piece_shrinks false (92 ∷ x)))
    (λ x h. before_quotes long escape (34 ∷ []) (34 ∷ []) escaped_quote refl)
escape_split long n (y ∷ f) l =
    piece_if (is_digit y) (λ e. decimal_split long n y f (omega arith)) (λ e.
    piece_if (y == 120) (λ e. hexadecimal_split long n f (omega arith)) (λ e.
    piece_if (y == 10) (λ e. joined_split long n f (omega arith)) (λ e.
    piece_if (y == 13) (λ e. newline_split long n f (omega arith)) (λ e. simple_split long n simple_escapes y f (omega arith)))))

quote_split : (long : Bool) (n : ℕ) (f : List ℕ) → length f < n → PieceSplit long n (λ x. quote long (f ++ x))
quote_split false n f l = closes_settled f l (λ x. refl)
quote_split true n [] l =
    piece_loose (λ x. past x (begins_with (34 ∷ 34 ∷ []) x))
    (λ x h. record { ending = 34 ∷ 34 ∷ []; is = text_ending escaped_quote one_quote; contents = []; ends_so = (refl, refl) })
  where
    past : (x : List ℕ) (c : Bool) → PastPiece x (if c then Closes (drop 2 x) else Gives (34 ∷ []) x)
    past x true = omega (arith, length-drop 2 x)
    past x false = omega arith
quote_split true n (y ∷ []) l = one_if (34 == y) refl
  where
    past : (x : List ℕ) (c : Bool) → PastPiece x (if c then Closes (drop 1 x) else Gives (34 ∷ []) (y ∷ x))
    past x true = omega (arith, length-drop 1 x)
    past x false = omega arith

    one_if : (c : Bool) → (34 == y) ≡ c → PieceSplit true n (λ x. if c && begins_with (34 ∷ []) x then Closes (drop 1 x) else Gives (34 ∷ []) (y ∷ x))
    one_if true e =
        piece_loose (λ x. past x (begins_with (34 ∷ []) x))
        (λ x h. record { ending = 34 ∷ []; is = text_ending no_escape one_quote; contents = []; ends_so = (refl, refl) })
    one_if false e = gives_settled (34 ∷ []) (y ∷ []) l (λ x. refl)
quote_split true n (y ∷ z ∷ g) l =
    piece_if (34 == y && (34 == z && true)) (λ e. closes_settled g (omega arith) (λ x. refl)) (λ e. gives_settled (34 ∷ []) (y ∷ z ∷ g) l (λ x. refl))

pub piece_split : (long : Bool) (b : ℕ) (f : List ℕ) → PieceSplit long (suc (length f)) (λ x. piece long (b ∷ f ++ x))
piece_split long b f =
    piece_if (b == 92) (λ e. escape_split long (suc (length f)) f (omega arith)) (λ e.
    piece_if (b == 34) (λ e. quote_split long (suc (length f)) f (omega arith)) (λ e. gives_settled (b ∷ []) f (omega arith) (λ x. refl)))

-- the bytes, with the ending, are a text to its end
pub record InsideEnds (long : Bool) (bytes : List ℕ) : Type 0 where
  pub ending : List ℕ
  pub is : IsEnding ending
  pub contents : List ℕ
  pub spelled : IsInside long (bytes ++ ending) contents []

-- the text ends within the bytes, whatever stands after them
pub record InsideSettled (long : Bool) (bytes x contents rest : List ℕ) : Type 0 where
  pub left : List ℕ
  pub short : length left ≤ length bytes
  pub is : rest ≡ left ++ x
  pub too : (y : List ℕ) → IsInside long (bytes ++ y) contents (left ++ y)

pub data InsideSplit (long : Bool) (bytes x contents rest : List ℕ) : Type 0 where
  inside_settled : InsideSettled long bytes x contents rest → InsideSplit long bytes x contents rest
  inside_loose : length rest ≤ length x → InsideEnds long bytes → InsideSplit long bytes x contents rest

ends_inside : {long : Bool} (bytes : List ℕ) (p : Piece) (contents : List ℕ) → piece long bytes ≡ p → PieceEnds long p contents → IsInside long bytes contents []
ends_inside {long} bytes (Closes rest) contents e h =
    subst (λ z. IsInside long bytes z []) (sym h.0) (closes (subst (λ z. piece long bytes ≡ Closes z) h.1 e))
ends_inside {long} bytes (Gives part more) contents e h = subst (λ z. IsInside long bytes z []) (sym h.is) (gives e h.spelled)
ends_inside bytes NoPiece contents e h = absurd h

begun_ends : {long : Bool} (bytes : List ℕ) → TextEnds long (λ x. piece long (bytes ++ x)) → InsideEnds long bytes
begun_ends {long} bytes t = record {
  ending = t.ending;
  is = t.is;
  contents = t.contents;
  spelled = ends_inside (bytes ++ t.ending) (piece long (bytes ++ t.ending)) t.contents refl t.ends_so;
}

later_ends : {long : Bool} (bytes part g : List ℕ) → ((x : List ℕ) → piece long (bytes ++ x) ≡ Gives part (g ++ x)) → InsideEnds long g → InsideEnds long bytes
later_ends bytes part g h t = record { ending = t.ending; is = t.is; contents = part ++ t.contents; spelled = gives (h t.ending) t.spelled }

closes_as : {u : Piece} {a b : List ℕ} → u ≡ Closes a → u ≡ Closes b → a ≡ b
closes_as e f = let g = sym e ∙ f in cc

gives_as : {u : Piece} {c d a b : List ℕ} → u ≡ Gives c a → u ≡ Gives d b → (c ≡ d) × (a ≡ b)
gives_as e f = let g = sym e ∙ f in (cc, cc)

is_piece : {u : Piece} (v : Piece) → u ≡ v → IsPiece v → IsPiece u
is_piece v e h = subst IsPiece (sym e) h

past_closes : (x rest : List ℕ) {u : Piece} → u ≡ Closes rest → PastPiece x u → length rest ≤ length x
past_closes x rest e h = subst (PastPiece x) e h

past_gives : (x part rest : List ℕ) {u : Piece} → u ≡ Gives part rest → PastPiece x u → length rest ≤ suc (length x)
past_gives x part rest e h = subst (PastPiece x) e h

-- after a first part that is settled
part_settled : {long : Bool} (bytes x part later rest g : List ℕ) → length g < length bytes
    → ((y : List ℕ) → piece long (bytes ++ y) ≡ Gives part (g ++ y)) → InsideSplit long g x later rest → InsideSplit long bytes x (part ++ later) rest
part_settled {long} bytes x part later rest g k h (inside_settled s) =
    inside_settled (record { left = s.left; short = let t = s.short in omega arith; is = s.is; too = λ y. gives (h y) (s.too y) })
part_settled {long} bytes x part later rest g k h (inside_loose m t) = inside_loose m (later_ends bytes part g h t)

inside_begun : {long : Bool} (n : ℕ) (bytes x contents rest : List ℕ) → length bytes ≤ n → IsInside long (bytes ++ x) contents rest
    → InsideSplit long bytes x contents rest
inside_begun {long} n [] x contents rest l i =
    let s = inside_shrinks i in
    inside_loose (omega arith)
    (record { ending = quotes long; is = text_ending no_escape (quotes_are long); contents = []; spelled = closed_now long })
inside_begun zero (b ∷ f) x contents rest l i = absurd (omega arith)
inside_begun {long} (suc n) (b ∷ f) x contents rest l (closes e) =
    elim (piece_split long b f) [
      | closes_settled g k h ↦ inside_settled (record { left = g; short = omega arith; is = closes_as e (h x); too = λ y. closes (h y) })
      | gives_settled part g k h ↦ absurd (let c = sym e ∙ h x in cc)
      | no_settled h ↦ absurd (let c = sym e ∙ h x in cc)
      | piece_loose past can ↦ inside_loose (past_closes x rest e (past x)) (begun_ends (b ∷ f) (can x (is_piece (Closes rest) e tt)))
    ]
inside_begun {long} (suc n) (b ∷ f) x contents rest l (gives {part = part} {more = more} {text = later} e p) =
    elim (piece_split long b f) [
      | closes_settled g k h ↦ absurd (let c = sym e ∙ h x in cc)
      | gives_settled part2 g k h ↦ (
          let s = gives_as e (h x) in
          part_settled (b ∷ f) x part later rest g (omega arith) (λ y. h y ∙ ap (λ z. Gives z (g ++ y)) (sym s.0))
          (inside_begun n g x later rest (omega arith) (subst (λ z. IsInside long z later rest) s.1 p)))
      | no_settled h ↦ absurd (let c = sym e ∙ h x in cc)
      | piece_loose past can ↦ (
          let a = past_gives x part more e (past x) in
          let b2 = inside_shrinks p in
          inside_loose (omega arith) (begun_ends (b ∷ f) (can x (is_piece (Gives part more) e tt))))
    ]

pub inside_split : {long : Bool} (bytes x contents rest : List ℕ) → IsInside long (bytes ++ x) contents rest → InsideSplit long bytes x contents rest
inside_split bytes x contents rest i = inside_begun (length bytes) bytes x contents rest (omega arith) i
