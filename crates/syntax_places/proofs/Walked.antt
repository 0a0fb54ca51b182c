-- A walk over tokens that all follow one another, up to the first that is too deep.
use Rattle.std.proofs.Common.{◌≡◌, ℕ, ◌+◌, ◌<◌, ◌≤◌, true, false, List, [], ◌∷◌, ◌++◌, length, drop, map, refl, ap, sym, subst, ◌∙◌, arith}
use Rattle.std.proofs.lemmas.List.{append-nil, drop-drop}
use Rattle.std.specs.declared.option.Option.TheVariants.{None, Some}
use Rattle.syntax_trees.specs.declared.limits.TheConstants.{NESTING_LIMIT}
use Rattle.syntax_trees.specs.declared.token.Token.{Token}
use Rattle.syntax_trees.specs.Faults.{is_opening, IsDeepAt, IsNowhereDeep}
use Rattle.syntax_trees.specs.Following.{TokenControl as Control, at_entry, token_of, token_follows as follow, followed_after as followed_from, tokens_followed as followed}
use Rattle.syntax_trees.specs.Heights.{HeightState as State, height_step as step, token_height as height, NestsBelow as Below, height_start as start, height_after as exec}
use Rattle.syntax_trees.specs.Lexed.{StandsFirst, whole, quoted}
use Rattle.syntax_trees.specs.Lexes.{Lexes, none_read, gap_then, single_then, text_then}
use Rattle.syntax_trees.specs.Tokens.{Placed, placed, span_between, first, Gap, Single, AreTokens}
use Rattle.syntax_trees.proofs.Exact.{none_before}
use Rattle.syntax_faults.specs.Endings.{TokensFollow}
use Rattle.syntax_faults.specs.Laws as law
use Rattle.syntax_faults.proofs.DeepPlaces.{deep_places_are_told}
use Rattle.syntax_faults.proofs.Levels.{Within, within_step}
use Rattle.syntax_faults.proofs.Relexed.{followed_append}
use Rattle.syntax_faults.proofs.Splits.{none_follow}
use Rattle.syntax_faults.proofs.TokenKinds.{at_places}
use Rattle.syntax_places.specs.Followed.{Followed, at_start}
use Rattle.syntax_places.specs.Steps.{FollowsOn, IsTaken, OpensTooDeep}
use Rattle.syntax_places.specs.declared.step.Taken.{Taken}
use Rattle.syntax_places.proofs.Leading.{KindsFollow, kinds_follow, behind_gap, behind_token, stands_at}

lexes_then : {total : ℕ} {bytes between stop : List ℕ} {one other : List Placed} → Lexes total bytes one between → Lexes total between other stop
    → Lexes total bytes (one ++ other) stop
lexes_then none_read q = q
lexes_then (gap_then e p) q = gap_then e (lexes_then p q)
lexes_then (single_then e p) q = single_then e (lexes_then p q)
lexes_then (text_then e i p) q = text_then e i (lexes_then p q)

exec_more : (s : State) (pre : List Placed) (token : Placed) → exec s (map token_of (pre ++ token ∷ [])) ≡ step (exec s (map token_of pre)) (token_of token)
exec_more s [] token = refl
exec_more s (placed t span ∷ pre) token = exec_more (step s t) pre token

pub kinds_more : (pre : List Placed) (token : Placed) → map token_of (pre ++ token ∷ []) ≡ map token_of pre ++ token_of token ∷ []
kinds_more [] token = refl
kinds_more (t ∷ pre) token = ap (λ z. token_of t ∷ z) (kinds_more pre token)

below_more : (s : State) (pre : List Placed) (token : Placed) → Below NESTING_LIMIT s pre → (exec s (map token_of (pre ++ token ∷ []))).level ≤ NESTING_LIMIT
    → Below NESTING_LIMIT s (pre ++ token ∷ [])
below_more s [] (placed t span) b l = (l, tt)
below_more s (placed t span ∷ pre) token b l = (b.0, below_more (step s t) pre token b.1 l)

-- the tokens up to the place follow one another, none of them is too deep, and those from there on follow them
pub record Walked (text : List ℕ) (at : ℕ) (f : Followed) : Type 0 where
  pub tokens : List Placed
  pub lexes : Lexes (length text) text tokens (drop at text)
  pub leads : followed (at_entry false) (map token_of tokens) ≡ Some f.control
  pub height : exec start (map token_of tokens) ≡ f.height
  pub below : Below NESTING_LIMIT start tokens
  pub levels : Within NESTING_LIMIT (exec start (map token_of tokens))
  pub left : KindsFollow f.control (drop at text)

walked_start : (text : List ℕ) → TokensFollow (at_entry false) text → Walked text 0 at_start
walked_start text p = record {
  tokens = [];
  lexes = none_read;
  leads = refl;
  height = refl;
  below = tt;
  levels = record { floor = omega arith; level = omega arith; kept = tt };
  left = kinds_follow p;
}

pub walked_begin : (text : List ℕ) (f : Followed) → f ≡ at_start → TokensFollow (at_entry false) text → Walked text 0 f
walked_begin text f e p = subst (λ (g : Followed). Walked text 0 g) (sym e) (walked_start text p)

pub walked_skip : (text rest : List ℕ) (at len : ℕ) (f : Followed) → rest ≡ drop at text → first rest ≡ Gap (drop len rest) → Walked text at f
    → Walked text (at + len) f
walked_skip text rest at len f r e w =
    let left : drop len rest ≡ drop (at + len) text = ap (drop len) r ∙ drop-drop len at text in
    let found : first (drop at text) ≡ Gap (drop (at + len) text) = ap first (sym r) ∙ e ∙ ap (λ l. Gap l) left in
    record {
      tokens = w.tokens;
      lexes = subst (λ z. Lexes (length text) text z (drop (at + len) text)) (append-nil w.tokens) (lexes_then w.lexes (gap_then found none_read));
      leads = w.leads;
      height = w.height;
      below = w.below;
      levels = w.levels;
      left = behind_gap found w.left;
    }

-- one token read
read_one : {total : ℕ} {bytes rest : List ℕ} {token : Token} → StandsFirst bytes token rest → Lexes total bytes (placed token (span_between total bytes rest) ∷ []) rest
read_one (whole e) = single_then e none_read
read_one (quoted e i) = text_then e i none_read

pub walked_take : (text rest : List ℕ) (at len : ℕ) (token : Token) (f g : Followed) → rest ≡ drop at text → StandsFirst rest token (drop len rest)
    → FollowsOn f token g → Walked text at f → Walked text (at + len) g
walked_take text rest at len token f g r s o w =
    let stands = stands_at text rest at len token r s in
    let span = span_between (length text) (drop at text) (drop (at + len) text) in
    let one : Placed = placed token span in
    let more = exec_more start w.tokens one in
    let next : Within NESTING_LIMIT (step (exec start (map token_of w.tokens)) token) =
    within_step NESTING_LIMIT (exec start (map token_of w.tokens)) token w.levels
    (λ i. subst (λ h. height h token < NESTING_LIMIT) (sym w.height) (o.shallow i)) in
    let levels : Within NESTING_LIMIT (exec start (map token_of (w.tokens ++ one ∷ []))) = subst (Within NESTING_LIMIT) (sym more) next in
    let b = behind_token stands w.left in
    record {
      tokens = w.tokens ++ one ∷ [];
      lexes = lexes_then w.lexes (read_one stands);
      leads = ap (followed (at_entry false)) (kinds_more w.tokens one) ∙ followed_append (Some (at_entry false)) (map token_of w.tokens) (token ∷ [])
          ∙ ap (λ z. followed_from z (token ∷ [])) w.leads ∙ o.control;
      height = more ∙ ap (λ h. step h token) w.height ∙ sym o.height;
      below = below_more start w.tokens one w.below levels.level;
      levels = levels;
      left = record { kinds = b.more; after = b.after; spelled = b.spelled; leads = ap (λ z. followed_from z b.more) (sym o.control) ∙ b.leads };
    }

-- an opening token is no text
opening_stands : {bytes rest : List ℕ} {token : Token} → StandsFirst bytes token rest → is_opening token ≡ true → first bytes ≡ Single token rest
opening_stands (whole e) h = e
opening_stands (quoted e i) h = absurd cc

pub walked_deep : (text rest : List ℕ) (at len : ℕ) (token : Token) (f : Followed) (d : Control) → at < length text → rest ≡ drop at text
    → StandsFirst rest token (drop len rest) → follow f.control token ≡ Some d → OpensTooDeep f token → Walked text at f → IsDeepAt text at
walked_deep text rest at len token f d l r s e o w =
    let stands = stands_at text rest at len token r s in
    let there : law.OpensTooDeep text at = record {
      tokens = w.tokens;
      token = token;
      rest = drop (at + len) text;
      control = d;
      within = l;
      before = w.lexes;
      here = opening_stands stands o.opening;
      opening = o.opening;
      follow = followed_append (Some (at_entry false)) (map token_of w.tokens) (token ∷ []) ∙ ap (λ z. followed_from z (token ∷ [])) w.leads ∙ e;
      nested = subst (λ h. NESTING_LIMIT ≤ height h token) (sym w.height) o.deep;
    } in
    record { deep = (deep_places_are_told text at).1 there; first = none_before text at w.tokens (omega arith) w.lexes w.below }

pub walked_all : (text : List ℕ) (at : ℕ) (f : Followed) → at ≤ length text → length text ≤ at → Walked text at f → IsNowhereDeep text
walked_all text at f l h w q t = let i = t.within in none_before text at w.tokens l w.lexes w.below q (omega arith) t

-- a token that may not follow does not come, and no end
pub walked_refused : {A : Type 0} (text rest : List ℕ) (at len : ℕ) (token : Token) (f : Followed) → rest ≡ drop at text
    → StandsFirst rest token (drop len rest) → follow f.control token ≡ None → Walked text at f → A
walked_refused text rest at len token f r s e w =
    let b = behind_token (stands_at text rest at len token r s) w.left in
    none_follow b.more b.after (ap (λ z. followed_from z b.more) (sym e) ∙ b.leads)

pub walked_stop : {A : Type 0} (text rest : List ℕ) (at : ℕ) (f : Followed) → rest ≡ drop at text
    → ((total : ℕ) (all : List Placed) → AreTokens total rest all → ⊥) → Walked text at f → A
walked_stop text rest at f r none w =
    let a = at_places 0 w.left.spelled in
    let Here : List ℕ → Type 0 = λ l. AreTokens 0 l a.tokens in absurd (none 0 a.tokens (subst Here (sym r) a.spelled))

-- what is known of a token that was taken, by what it is
pub of_taken : (f : Followed) (token : Token) (one other : Taken) → one ≡ other → IsTaken f token one → IsTaken f token other
of_taken f token one other e t = subst (λ (z : Taken). IsTaken f token z) e t
