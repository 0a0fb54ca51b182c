-- What bytes begin with when more stands after them: it is settled, or what stands after them tells.
use Rattle.std.proofs.Common.{◌≡◌, ℕ, suc, ◌<◌, ◌≤◌, Bool, true, false, List, [], ◌∷◌, ◌++◌, length, drop, refl, ap, sym, subst, ◌∙◌, arith, if◌then◌else◌, ◌⊎◌, inl}
use Rattle.std.specs.Prelude.{◌==◌, ◌&&◌, ◌||◌, codes, ⊤}
use Rattle.std.proofs.lemmas.List.{length-drop}
use Rattle.std.specs.declared.option.Option.{Option}
use Rattle.std.specs.declared.option.Option.TheVariants.{None, Some}
use Rattle.syntax_trees.specs.declared.token.Token.{Token}
use Rattle.syntax_trees.specs.Following.{TokenControl as Control, token_follows as follow, followed_after as followed_from, tokens_followed as followed}
use Rattle.syntax_trees.specs.Signs.{signs, sign_among, begins_with}
use Rattle.opam_names.proofs.Bytes.{both_left}
use Rattle.std.specs.List.{list_all}
use Rattle.std.proofs.lemmas.Bool.{eqb-true}
use Rattle.syntax_trees.specs.Tokens.{First, End, Gap, Single, Quote, NoToken, after_line, after_comment, sign_first}
use Rattle.syntax_faults.specs.Endings.{IsEnding, no_ending, comment_ending, equals_ending, plus_ending, colon_ending}
use Rattle.syntax_faults.proofs.TokenKinds.{no_kinds, FirstGives, SingleGives}

-- an ending after which tokens are spelled that may follow
pub record Ends (c : Control) (p : List ℕ → First) : Type 0 where
  pub ending : List ℕ
  pub is : IsEnding ending
  pub kinds : List Token
  pub spelled : FirstGives (p ending) kinds
  pub after : Control
  pub leads : followed c kinds ≡ Some after

-- where anything makes such tokens of the bytes, an ending does
abbrev pub CanEnd : (List ℕ → First) → Type 0
CanEnd p = (x : List ℕ) (c d : Control) (kinds : List Token) → FirstGives (p x) kinds → followed c kinds ≡ Some d → Ends c p

-- what is left is what stands after the bytes, or less, or a byte more that may join to a word
abbrev pub PastSingle : List ℕ → List ℕ → Type 0
PastSingle x rest = (length rest ≤ length x) ⊎ ((s : ℕ) × ((s == 43 || s == 58) ≡ true) × (rest ≡ s ∷ x))

abbrev pub Past : List ℕ → First → Type 0
Past x End = ⊤
Past x (Gap rest) = length rest ≤ length x
Past x (Single token rest) = PastSingle x rest
Past x (Quote long inside) = length inside ≤ suc (length x)
Past x NoToken = ⊤

pub data FirstSplit (n : ℕ) (p : List ℕ → First) : Type 0 where
  gap_settled : (g : List ℕ) → length g < n → ((x : List ℕ) → p x ≡ Gap (g ++ x)) → FirstSplit n p
  single_settled : (token : Token) (g : List ℕ) → length g < n → ((x : List ℕ) → p x ≡ Single token (g ++ x)) → FirstSplit n p
  quote_settled : (long : Bool) (g : List ℕ) → length g < n → ((x : List ℕ) → p x ≡ Quote long (g ++ x)) → FirstSplit n p
  none_settled : ((x : List ℕ) → p x ≡ NoToken) → FirstSplit n p
  loose : ((x : List ℕ) → Past x (p x)) → CanEnd p → FirstSplit n p

pub first_if : {n : ℕ} {p q : List ℕ → First} (c : Bool) → (c ≡ true → FirstSplit n p) → (c ≡ false → FirstSplit n q)
    → FirstSplit n (λ x. if c then p x else q x)
first_if true f g = f refl
first_if false f g = g refl

line_short : (bytes : List ℕ) → length (after_line bytes) ≤ length bytes
line_short [] = omega arith
line_short (b ∷ bytes) = short_if (b == 10) (line_short bytes)
  where
    short_if : (c : Bool) → length (after_line bytes) ≤ length bytes → length (if c then bytes else after_line bytes) ≤ length (b ∷ bytes)
    short_if true h = omega arith
    short_if false h = omega arith

-- a comment to the end of the line
pub line_split : (n : ℕ) (f : List ℕ) → length f < n → FirstSplit n (λ x. Gap (after_line (f ++ x)))
line_split n [] l =
    loose (λ x. line_short x)
    (λ x c d kinds g e. record { ending = []; is = no_ending; kinds = []; spelled = no_kinds refl; after = c; leads = refl })
line_split n (b ∷ f) l = line_if (b == 10) (line_split n f (omega arith))
  where
    line_if : (c : Bool) → FirstSplit n (λ x. Gap (after_line (f ++ x))) → FirstSplit n (λ x. Gap (if c then f ++ x else after_line (f ++ x)))
    line_if true s = gap_settled f (omega arith) (λ x. refl)
    line_if false s = s

-- the test does not depend on what stands after the bytes, or only where its first part holds
pub and_if : {n : ℕ} (g : List ℕ → Bool) (p : List ℕ → First) {q : List ℕ → First} (c : Bool) → (c ≡ true → FirstSplit n (λ x. if g x then p x else q x))
    → (c ≡ false → FirstSplit n q) → FirstSplit n (λ x. if c && g x then p x else q x)
and_if h p true f g = f refl
and_if h p false f g = g refl

-- an ending after which nothing is spelled
nothing_left : (c : Control) (p : List ℕ → First) (ending : List ℕ) → IsEnding ending → p ending ≡ Gap [] → Ends c p
nothing_left c p ending i e =
    let now : FirstGives (Gap []) [] = no_kinds refl in
    record { ending = ending; is = i; kinds = []; spelled = subst (λ f. FirstGives f []) (sym e) now; after = c; leads = refl }

-- comments
comment_past : (x y : List ℕ) → length y ≤ length x → Past x (after_comment y)
comment_past x [] l = tt
comment_past x (b ∷ y) l = past_if (begins_with (codes "*)") (b ∷ y)) (comment_past x y (omega arith))
  where
    past_if : (c : Bool) → Past x (after_comment y) → Past x (if c then Gap (drop 1 y) else after_comment y)
    past_if true h = omega (arith, length-drop 1 y)
    past_if false h = h

pub comment_split : (n : ℕ) (f : List ℕ) → length f < n → FirstSplit n (λ x. after_comment (f ++ x))
comment_split n [] l = loose (λ x. comment_past x x (omega arith)) (λ x c d kinds g e. nothing_left c after_comment (codes "**)") comment_ending refl)
comment_split n (b ∷ []) l = and_if _ _ (42 == b) (λ e. star e) (λ e. comment_split n [] (omega arith))
  where
    star : (42 == b) ≡ true → FirstSplit n (λ x. if begins_with (41 ∷ []) x then Gap (drop 1 x) else after_comment x)
    star e = loose (λ x. past x (begins_with (41 ∷ []) x)) (λ x c d kinds g e. nothing_left c _ (codes "**)") comment_ending refl)
      where
        past : (x : List ℕ) (c : Bool) → Past x (if c then Gap (drop 1 x) else after_comment x)
        past x true = omega (arith, length-drop 1 x)
        past x false = comment_past x x (omega arith)
comment_split n (b ∷ y ∷ f) l =
    first_if (42 == b && (41 == y && true)) (λ e. gap_settled f (omega arith) (λ x. refl)) (λ e. comment_split n (y ∷ f) (omega arith))

-- signs
sign_if : {n : ℕ} (p q : List ℕ → Option (Token × List ℕ)) (c : Bool) → (c ≡ true → FirstSplit n (λ x. sign_first (p x)))
    → (c ≡ false → FirstSplit n (λ x. sign_first (q x))) → FirstSplit n (λ x. sign_first (if c then p x else q x))
sign_if p q true f g = f refl
sign_if p q false f g = g refl

-- a text of one byte or two
abbrev pub is_short : List ℕ → Bool
is_short [] = false
is_short (c ∷ []) = true
is_short (c ∷ d ∷ []) = true
is_short (c ∷ d ∷ e ∷ text) = false

pub signs_split : (n b y : ℕ) (f : List ℕ) (table : List (List ℕ × Token)) → length (y ∷ f) < n → list_all (λ sign. is_short sign.0) table ≡ true
    → FirstSplit n (λ x. sign_first (sign_among table (b ∷ y ∷ f ++ x)))
signs_split n b y f [] l h = none_settled (λ x. refl)
signs_split n b y f (([], token) ∷ table) l h = absurd cc
signs_split n b y f ((c ∷ [], token) ∷ table) l h =
    sign_if _ _ (c == b && true) (λ e. single_settled token (y ∷ f) l (λ x. refl)) (λ e. signs_split n b y f table l h)
signs_split n b y f ((c ∷ d ∷ [], token) ∷ table) l h =
    sign_if _ _ (c == b && (d == y && true)) (λ e. single_settled token f (omega arith) (λ x. refl)) (λ e. signs_split n b y f table l h)
signs_split n b y f ((c ∷ d ∷ e ∷ text, token) ∷ table) l h = absurd cc

-- a sign of two bytes is what an ending makes of its first
data SignsEnd : List (List ℕ × Token) → Type 0 where
  no_signs : SignsEnd []
  sign_ends : {b : ℕ} {more : List ℕ} {token : Token} {table : List (List ℕ × Token)} → IsEnding more → sign_among signs (b ∷ more) ≡ Some (token, [])
      → SignsEnd table → SignsEnd ((b ∷ more, token) ∷ table)

all_signs : SignsEnd signs
all_signs =
    sign_ends equals_ending refl (sign_ends equals_ending refl (sign_ends equals_ending refl (sign_ends equals_ending refl
    (sign_ends plus_ending refl (sign_ends equals_ending refl (sign_ends colon_ending refl
    (sign_ends no_ending refl (sign_ends no_ending refl (sign_ends no_ending refl (sign_ends no_ending refl
    (sign_ends no_ending refl (sign_ends no_ending refl (sign_ends no_ending refl (sign_ends no_ending refl
    (sign_ends no_ending refl (sign_ends no_ending refl (sign_ends no_ending refl (sign_ends no_ending refl
    (sign_ends no_ending refl (sign_ends no_ending refl no_signs))))))))))))))))))))

-- a token that may follow, where others may follow it
pub record Follows (c : Control) (token : Token) : Type 0 where
  pub after : Control
  pub leads : follow c token ≡ Some after

pub none_follow : {A : Type 0} (kinds : List Token) (d : Control) → followed_from None kinds ≡ Some d → A
none_follow [] d e = absurd cc
none_follow (token ∷ kinds) d e = absurd cc

pub follows_first : (c d : Control) (token : Token) (more : List Token) → followed c (token ∷ more) ≡ Some d → Follows c token
follows_first c d token more e = found (follow c token) refl
  where
    found : (o : Option Control) → follow c token ≡ o → Follows c token
    found None h = none_follow more d (sym (ap (λ z. followed_from z more) h) ∙ e)
    found (Some after) h = record { after = after; leads = h }

pub gives_single : (c d : Control) (token : Token) (rest : List ℕ) (kinds : List Token) → SingleGives token rest kinds → followed c kinds ≡ Some d → Follows c token
gives_single c d token rest kinds g e = follows_first c d token g.more (ap (followed c) (sym g.is) ∙ e)

-- an ending after which one token is spelled
pub one_left : (c : Control) (p : List ℕ → First) (ending : List ℕ) (token : Token) → IsEnding ending → p ending ≡ Single token [] → Follows c token → Ends c p
one_left c p ending token i e h =
    let now : FirstGives (Single token []) (token ∷ []) = record { more = []; is = refl; later = no_kinds refl } in
    record { ending = ending; is = i; kinds = token ∷ []; spelled = subst (λ f. FirstGives f (token ∷ [])) (sym e) now; after = h.after; leads = h.leads }

signs_past : (x : List ℕ) (b : ℕ) (table : List (List ℕ × Token)) → SignsEnd table → Past x (sign_first (sign_among table (b ∷ x)))
signs_past x b [] no_signs = tt
signs_past x b (([], token) ∷ table) e = elim e [ ]
signs_past x b ((c ∷ more, token) ∷ table) (sign_ends i e s) = past_if (c == b && begins_with more x) (sign_among table (b ∷ x)) (signs_past x b table s)
  where
    past_if : (t : Bool) (o : Option (Token × List ℕ)) → Past x (sign_first o) → Past x (sign_first (if t then Some (token, drop (length more) x) else o))
    past_if true o h = inl (omega (arith, length-drop (length more) x))
    past_if false o h = h

sign_found : (c d : Control) (b : ℕ) (x : List ℕ) (kinds : List Token) (table : List (List ℕ × Token)) → SignsEnd table
    → FirstGives (sign_first (sign_among table (b ∷ x))) kinds → followed c kinds ≡ Some d → Ends c (λ y. sign_first (sign_among signs (b ∷ y)))
sign_found c d b x kinds [] no_signs g e = absurd g
sign_found c d b x kinds (([], token) ∷ table) h g e = elim h [ ]
sign_found c d b x kinds ((s ∷ more, token) ∷ table) (sign_ends i h p) g e =
    found_if (s == b && begins_with more x) refl (sign_among table (b ∷ x)) g (λ k. sign_found c d b x kinds table p k e)
  where
    found_if : (t : Bool) → (s == b && begins_with more x) ≡ t → (o : Option (Token × List ℕ)) → FirstGives (sign_first (if t then Some (token, drop (length more) x) else o)) kinds
        → (FirstGives (sign_first o) kinds → Ends c (λ y. sign_first (sign_among signs (b ∷ y)))) → Ends c (λ y. sign_first (sign_among signs (b ∷ y)))
    found_if true k o g f =
        let same = eqb-true s b (both_left (s == b) (begins_with more x) k) in
        one_left c (λ y. sign_first (sign_among signs (b ∷ y))) more token i (ap (λ z. sign_first (sign_among signs (z ∷ more))) (sym same) ∙ ap sign_first h)
        (gives_single c d token (drop (length more) x) kinds g e)
    found_if false k o g f = f g

pub sign_split : (n b : ℕ) → FirstSplit n (λ x. sign_first (sign_among signs (b ∷ x)))
sign_split n b = loose (λ x. signs_past x b signs all_signs) (λ x c d kinds g e. sign_found c d b x kinds signs all_signs g e)
