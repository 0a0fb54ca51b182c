-- The tokens of bytes, taken one by one, with what may follow them.
use Rattle.std.proofs.Common.{◌≡◌, ℕ, ◌+◌, ◌≤◌, Bool, true, false, List, [], ◌∷◌, length, drop, map, refl, ap, sym, subst, ◌∙◌, ◌↔◌}
use Rattle.std.proofs.Math.ListN.{drop_of_length-le}
use Rattle.std.proofs.lemmas.List.{drop-drop}
use Rattle.std.specs.declared.option.Option.{Option}
use Rattle.std.specs.declared.option.Option.TheVariants.{None, Some}
use Rattle.syntax_trees.specs.declared.token.Token.{Token}
use Rattle.syntax_trees.specs.declared.token.Token.TheVariants.{Text}
use Rattle.syntax_trees.specs.Following.{TokenControl as Control, at_entry, token_of, token_follows as follow, followed_after as followed_from, tokens_followed as followed}
use Rattle.syntax_trees.specs.Lexed.{StandsFirst, whole, quoted}
use Rattle.syntax_trees.specs.Tokens.{Placed, first, Gap, Single, Quote, AreTokens}
use Rattle.syntax_trees.proofs.OneTokens.{same_inside}
use Rattle.syntax_faults.specs.Endings.{TokensFollow}
use Rattle.syntax_places.specs.Controls.{Takes}
use Rattle.syntax_faults.proofs.TokenKinds.{AreKinds, no_kinds, gap_kinds, single_kinds, text_kinds, kinds_of, at_places, SingleGives, QuoteGives, kinds_first}
use Rattle.syntax_faults.proofs.GoingOn.{given_by}
use Rattle.syntax_faults.proofs.Splits.{none_follow}

-- the bytes spell tokens that may follow
pub record KindsFollow (c : Control) (bytes : List ℕ) : Type 0 where
  pub kinds : List Token
  pub after : Control
  pub spelled : AreKinds bytes kinds
  pub leads : followed c kinds ≡ Some after

pub kinds_follow : {c : Control} {bytes : List ℕ} → TokensFollow c bytes → KindsFollow c bytes
kinds_follow (tokens, d, p, e) = record { kinds = map token_of tokens; after = d; spelled = kinds_of p; leads = e }

tokens_follow : {c : Control} {bytes : List ℕ} → KindsFollow c bytes → TokensFollow c bytes
tokens_follow {c} {bytes} p = let a = at_places (length bytes) p.spelled in (a.tokens, p.after, a.spelled, ap (followed c) a.same ∙ p.leads)

-- before and behind a gap
before_gap : {c : Control} {bytes rest : List ℕ} → first bytes ≡ Gap rest → KindsFollow c rest → KindsFollow c bytes
before_gap e p = record { kinds = p.kinds; after = p.after; spelled = gap_kinds e p.spelled; leads = p.leads }

pub behind_gap : {c : Control} {bytes rest : List ℕ} → first bytes ≡ Gap rest → KindsFollow c bytes → KindsFollow c rest
behind_gap {c} {bytes} {rest} e p =
    record { kinds = p.kinds; after = p.after; spelled = given_by p.kinds (first bytes) (Gap rest) e (kinds_first bytes p.spelled); leads = p.leads }

-- before and behind a token
before_token : {c d : Control} {bytes rest : List ℕ} {token : Token} → StandsFirst bytes token rest → follow c token ≡ Some d → KindsFollow d rest
    → KindsFollow c bytes
before_token {token = token} (whole e) f p = record {
  kinds = token ∷ p.kinds;
  after = p.after;
  spelled = single_kinds e p.spelled;
  leads = ap (λ o. followed_from o p.kinds) f ∙ p.leads;
}
before_token {token = token} (quoted e i) f p = record {
  kinds = token ∷ p.kinds;
  after = p.after;
  spelled = text_kinds e i p.spelled;
  leads = ap (λ o. followed_from o p.kinds) f ∙ p.leads;
}

pub record Behind (c : Control) (token : Token) (rest : List ℕ) : Type 0 where
  pub more : List Token
  pub after : Control
  pub spelled : AreKinds rest more
  pub leads : followed_from (follow c token) more ≡ Some after

pub behind_token : {c : Control} {bytes rest : List ℕ} {token : Token} → StandsFirst bytes token rest → KindsFollow c bytes → Behind c token rest
behind_token {c} {bytes} (whole {token = token} {rest = rest} e) p =
    let g : SingleGives token rest p.kinds = given_by p.kinds (first bytes) (Single token rest) e (kinds_first bytes p.spelled) in
    record { more = g.more; after = p.after; spelled = g.later; leads = ap (followed c) (sym g.is) ∙ p.leads }
behind_token {c} {bytes} (quoted {long = long} {inside = inside} {text = text} {rest = rest} e i) p =
    let g : QuoteGives long inside p.kinds = given_by p.kinds (first bytes) (Quote long inside) e (kinds_first bytes p.spelled) in
    let s = same_inside g.spelled i in
    record {
      more = g.more;
      after = p.after;
      spelled = subst (λ z. AreKinds z g.more) s.1 g.later;
      leads = ap (λ t. followed_from (follow c (Text t)) g.more) (sym s.0) ∙ ap (followed c) (sym g.is) ∙ p.leads;
    }

-- the tokens up to the place were taken: the bytes spell tokens that may follow where those from the place on may follow these
pub record Leads (bytes : List ℕ) (at : ℕ) (c : Control) : Type 0 where
  pub onto : KindsFollow c (drop at bytes) → KindsFollow (at_entry false) bytes
  pub only : KindsFollow (at_entry false) bytes → KindsFollow c (drop at bytes)

pub leads_begin : (bytes : List ℕ) (c : Control) → c ≡ at_entry false → Leads bytes 0 c
leads_begin bytes c e =
    let Here : Control → Type 0 = λ d. Leads bytes 0 d in subst Here (sym e) (record { onto = λ p. p; only = λ p. p })

pub leads_skip : (bytes rest : List ℕ) (at len : ℕ) (c : Control) → rest ≡ drop at bytes → first rest ≡ Gap (drop len rest) → Leads bytes at c
    → Leads bytes (at + len) c
leads_skip bytes rest at len c r e s =
    let left : drop len rest ≡ drop (at + len) bytes = ap (drop len) r ∙ drop-drop len at bytes in
    let found : first (drop at bytes) ≡ Gap (drop (at + len) bytes) = ap first (sym r) ∙ e ∙ ap (λ l. Gap l) left in
    record { onto = λ p. s.onto (before_gap found p); only = λ p. behind_gap found (s.only p) }

pub stands_at : (bytes rest : List ℕ) (at len : ℕ) (token : Token) → rest ≡ drop at bytes → StandsFirst rest token (drop len rest)
    → StandsFirst (drop at bytes) token (drop (at + len) bytes)
stands_at bytes rest at len token r f =
    let left : drop len rest ≡ drop (at + len) bytes = ap (drop len) r ∙ drop-drop len at bytes in
    let From : List ℕ → Type 0 = λ b. StandsFirst b token (drop len rest) in
    let To : List ℕ → Type 0 = λ b. StandsFirst (drop at bytes) token b in subst To left (subst From r f)

pub leads_take : (bytes rest : List ℕ) (at len : ℕ) (token : Token) (c d : Control) → rest ≡ drop at bytes → StandsFirst rest token (drop len rest)
    → follow c token ≡ Some d → Leads bytes at c → Leads bytes (at + len) d
leads_take bytes rest at len token c d r f e s =
    let stands = stands_at bytes rest at len token r f in
    record {
      onto = λ p. s.onto (before_token stands e p);
      only = λ p.
          let b = behind_token stands (s.only p) in
          record { kinds = b.more; after = b.after; spelled = b.spelled; leads = ap (λ o. followed_from o b.more) (sym e) ∙ b.leads };
    }

-- what a test says
pub told_so : {P : Type 0} → P → (true ≡ true) ↔ P
told_so p = ((λ e. p), (λ q. refl))

pub told_not : {P : Type 0} → ¬ P → (false ≡ true) ↔ P
told_not n = ((λ e. cc), (λ q. absurd (n q)))

pub all_follow : (bytes : List ℕ) (at : ℕ) (c : Control) → length bytes ≤ at → Leads bytes at c → TokensFollow (at_entry false) bytes
all_follow bytes at c l s =
    tokens_follow (s.onto (record { kinds = []; after = c; spelled = no_kinds (ap first (drop_of_length-le bytes l)); leads = refl }))

pub none_follows : (bytes rest : List ℕ) (at len : ℕ) (token : Token) (c : Control) → rest ≡ drop at bytes → StandsFirst rest token (drop len rest)
    → follow c token ≡ None → Leads bytes at c → ¬ (TokensFollow (at_entry false) bytes)
none_follows bytes rest at len token c r f e s p =
    let b = behind_token (stands_at bytes rest at len token r f) (s.only (kinds_follow p)) in
    none_follow b.more b.after (ap (λ o. followed_from o b.more) (sym e) ∙ b.leads)

pub none_stands : (bytes rest : List ℕ) (at : ℕ) (c : Control) → rest ≡ drop at bytes
    → ((total : ℕ) (all : List Placed) → AreTokens total rest all → ⊥) → Leads bytes at c → ¬ (TokensFollow (at_entry false) bytes)
none_stands bytes rest at c r none s p =
    let q = s.only (kinds_follow p) in
    let a = at_places 0 q.spelled in
    let Here : List ℕ → Type 0 = λ l. AreTokens 0 l a.tokens in none 0 a.tokens (subst Here (sym r) a.spelled)

-- a token that was taken, and one that was refused
pub of_taken : (after : Option Control) (c : Control) (taken : Bool) → taken ≡ true → Takes after c taken → after ≡ Some c
of_taken after c true e t = t
of_taken after c false e t = absurd cc

pub of_refused : (after : Option Control) (c : Control) (taken : Bool) → taken ≡ false → Takes after c taken → after ≡ None
of_refused after c true e t = absurd cc
of_refused after c false e t = t

-- what a test of this truth says
pub so : {P : Type 0} (b : Bool) → b ≡ true → ((b ≡ true) ↔ P) → P
so b e t = t.0 e

pub not_so : {P : Type 0} (b : Bool) → b ≡ false → ((b ≡ true) ↔ P) → ¬ P
not_so b e t p = let f = sym e ∙ t.1 p in cc
