-- The open brackets of a walk, the innermost last in the vector and first in the definition.
use Rattle.std.proofs.Common.{◌≡◌, ℕ, ◌+◌, ◌-◌, Bool, List, [], ◌∷◌, ◌++◌, take, map, ap, sym, ◌∙◌}
use Rattle.std.specs.Prelude.{option_to_list, IfNone, MatchOption}
use Rattle.std.proofs.lemmas.List.{reverse-append, append-nil}
use Rattle.std.specs.declared.option.Option.{Option}
use Rattle.std.specs.declared.option.Option.TheVariants.{None, Some}
use Rattle.syntax_trees.specs.declared.token.Token.{Token}
use Rattle.syntax_trees.specs.Following.{OpenBracket, TokenControl, token_follows}
use Rattle.syntax_places.specs.declared.control.Bracket.{Bracket}
use Rattle.syntax_places.specs.declared.control.Change.{Change}
use Rattle.syntax_places.specs.declared.control.Change.TheVariants as to
use Rattle.syntax_places.specs.declared.control.Context.{Context}
use Rattle.syntax_places.specs.declared.control.Expected.{Expected}
use Rattle.syntax_places.specs.declared.control.Next.{Next}
use Rattle.syntax_places.specs.Controls.{expected_of, bracket_of, brackets_of, brackets_in, control_in, changed, next_in}

-- the innermost bracket, and the others
pub with_inner : (items rest : List Bracket) (inner : Option Bracket) → items ≡ rest ++ option_to_list inner → IfNone inner (rest ≡ [])
    → brackets_of items ≡ brackets_in inner (brackets_of rest)
with_inner items rest None e h = ap brackets_of (e ∙ append-nil rest ∙ h)
with_inner items rest (Some b) e h = ap brackets_of e ∙ ap (map bracket_of) (reverse-append rest (b ∷ []))

pub none_left : (items rest : List Bracket) (inner : Option Bracket) (n m : ℕ) → rest ≡ take (n - 1) items
    → MatchOption inner ((n ≡ 0) × (m ≡ 0)) (λ _. m + 1 ≡ n) → IfNone inner (rest ≡ [])
none_left items rest None n m e h = e ∙ ap (λ k. take (k - 1) items) h.0
none_left items rest (Some b) n m e h = tt

-- what becomes of them
pub put_same : (change : Change) (inner : Option Bracket) (bs new : List Bracket) → change ≡ to.Same → IfNone inner (bs ≡ []) → new ≡ bs ++ option_to_list inner
    → brackets_of new ≡ changed change inner (brackets_of bs)
put_same change inner bs new i n e = with_inner new bs inner e n ∙ ap (λ c. changed c inner (brackets_of bs)) (sym i)

pub put_opened : (change : Change) (b : Bracket) (inner : Option Bracket) (bs mid new : List Bracket) → change ≡ to.Opened b → IfNone inner (bs ≡ [])
    → mid ≡ bs ++ option_to_list inner → new ≡ mid ++ b ∷ [] → brackets_of new ≡ changed change inner (brackets_of bs)
put_opened change b inner bs mid new i n e f =
    with_inner new mid (Some b) f tt ∙ ap (λ l. bracket_of b ∷ l) (with_inner mid bs inner e n) ∙ ap (λ c. changed c inner (brackets_of bs)) (sym i)

-- the state of which these are the brackets
pub state_is : (e : Expected) (u s : Bool) (f g : List OpenBracket) → f ≡ g
    → (let one : TokenControl = record { expected = expected_of e; updated = u; frames = f; section = s } in
    let other : TokenControl = record { expected = expected_of e; updated = u; frames = g; section = s } in one ≡ other)
state_is e u s f g h = ap (λ (l : List OpenBracket). let c : TokenControl = record { expected = expected_of e; updated = u; frames = l; section = s } in c) h

pub take_follows : (context : Context) (items rest : List Bracket) (token : Token) (n : Option Next) → items ≡ rest ++ option_to_list context.inner
    → IfNone context.inner (rest ≡ []) → ((others : List OpenBracket) → token_follows (control_in context others) token ≡ next_in context others n)
    → token_follows (record { expected = expected_of context.expected; updated = context.updated; frames = brackets_of items; section = context.section }) token
    ≡ next_in context (brackets_of rest) n
take_follows context items rest token n e h f =
    ap (λ c. token_follows c token) (state_is context.expected context.updated context.section (brackets_of items) (brackets_in context.inner (brackets_of rest)) (with_inner items rest context.inner e h))
    ∙ f (brackets_of rest)

-- a token that may not follow, and one that may
pub take_none : (context : Context) (items rest : List Bracket) (token : Token) (n : Option Next) → items ≡ rest ++ option_to_list context.inner
    → IfNone context.inner (rest ≡ []) → ((others : List OpenBracket) → token_follows (control_in context others) token ≡ next_in context others n)
    → n ≡ None
    → token_follows (record { expected = expected_of context.expected; updated = context.updated; frames = brackets_of items; section = context.section }) token ≡ None
take_none context items rest token n e h f i = take_follows context items rest token n e h f ∙ ap (next_in context (brackets_of rest)) i

pub take_some : (context : Context) (items rest : List Bracket) (token : Token) (n : Option Next) (next : Next) (after : TokenControl) → items ≡ rest ++ option_to_list context.inner
    → IfNone context.inner (rest ≡ []) → ((others : List OpenBracket) → token_follows (control_in context others) token ≡ next_in context others n)
    → n ≡ Some next
    → (let put : TokenControl = record { expected = expected_of next.expected; updated = next.updated; frames = changed next.change context.inner (brackets_of rest); section = next.section } in after ≡ put)
    → token_follows (record { expected = expected_of context.expected; updated = context.updated; frames = brackets_of items; section = context.section }) token ≡ Some after
take_some context items rest token n next after e h f i k =
    take_follows context items rest token n e h f ∙ ap (next_in context (brackets_of rest)) i ∙ ap (λ (c : TokenControl). Some c) (sym k)
