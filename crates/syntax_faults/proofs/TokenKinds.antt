-- The tokens of bytes without their places.
use Rattle.std.proofs.Common.{◌≡◌, ℕ, Bool, List, [], ◌∷◌, map, refl, ap, sym, subst}
use Rattle.syntax_trees.specs.declared.token.Token.{Token}
use Rattle.syntax_trees.specs.declared.token.Token.TheVariants.{Text}
use Rattle.syntax_trees.specs.Following.{token_of}
use Rattle.syntax_trees.specs.Texts.{IsInside}
use Rattle.syntax_trees.specs.Tokens.{First, End, Gap, Single, Quote, NoToken, first, Placed, placed, span_between, AreTokens, ends, gap, single, text}

-- the bytes spell tokens of these kinds
pub data AreKinds : List ℕ → List Token → Type 0 where
  no_kinds : {bytes : List ℕ} → first bytes ≡ End → AreKinds bytes []
  gap_kinds : {bytes rest : List ℕ} {kinds : List Token} → first bytes ≡ Gap rest → AreKinds rest kinds → AreKinds bytes kinds
  single_kinds : {bytes rest : List ℕ} {token : Token} {kinds : List Token} → first bytes ≡ Single token rest → AreKinds rest kinds
      → AreKinds bytes (token ∷ kinds)
  text_kinds : {bytes inside contents rest : List ℕ} {long : Bool} {kinds : List Token} → first bytes ≡ Quote long inside
      → IsInside long inside contents rest → AreKinds rest kinds → AreKinds bytes (Text contents ∷ kinds)

pub kinds_of : {total : ℕ} {bytes : List ℕ} {tokens : List Placed} → AreTokens total bytes tokens → AreKinds bytes (map token_of tokens)
kinds_of (ends e) = no_kinds e
kinds_of (gap e p) = gap_kinds e (kinds_of p)
kinds_of (single e p) = single_kinds e (kinds_of p)
kinds_of (text e i p) = text_kinds e i (kinds_of p)

-- such tokens, each at its place
pub record AtPlaces (total : ℕ) (bytes : List ℕ) (kinds : List Token) : Type 0 where
  pub tokens : List Placed
  pub spelled : AreTokens total bytes tokens
  pub same : map token_of tokens ≡ kinds

pub at_places : (total : ℕ) {bytes : List ℕ} {kinds : List Token} → AreKinds bytes kinds → AtPlaces total bytes kinds
at_places total (no_kinds e) = record { tokens = []; spelled = ends e; same = refl }
at_places total (gap_kinds e p) = let a = at_places total p in record { tokens = a.tokens; spelled = gap e a.spelled; same = a.same }
at_places total {bytes} (single_kinds {rest = rest} {token = token} e p) =
    let a = at_places total p in record {
      tokens = placed token (span_between total bytes rest) ∷ a.tokens;
      spelled = single e a.spelled;
      same = ap (λ z. token ∷ z) a.same;
    }
at_places total {bytes} (text_kinds {contents = contents} {rest = rest} e i p) =
    let a = at_places total p in record {
      tokens = placed (Text contents) (span_between total bytes rest) ∷ a.tokens;
      spelled = text e i a.spelled;
      same = ap (λ z. Text contents ∷ z) a.same;
    }

pub record SingleGives (token : Token) (bytes : List ℕ) (kinds : List Token) : Type 0 where
  pub more : List Token
  pub is : kinds ≡ token ∷ more
  pub later : AreKinds bytes more

pub record QuoteGives (long : Bool) (inside : List ℕ) (kinds : List Token) : Type 0 where
  pub contents : List ℕ
  pub rest : List ℕ
  pub more : List Token
  pub is : kinds ≡ Text contents ∷ more
  pub spelled : IsInside long inside contents rest
  pub later : AreKinds rest more

-- what bytes spell that begin so
abbrev pub FirstGives : First → List Token → Type 0
FirstGives End kinds = kinds ≡ []
FirstGives (Gap rest) kinds = AreKinds rest kinds
FirstGives (Single token rest) kinds = SingleGives token rest kinds
FirstGives (Quote long inside) kinds = QuoteGives long inside kinds
FirstGives NoToken kinds = ⊥

gives_by : (bytes : List ℕ) (f : First) (kinds : List Token) → first bytes ≡ f → FirstGives f kinds → FirstGives (first bytes) kinds
gives_by bytes f kinds e g = subst (λ f. FirstGives f kinds) (sym e) g

pub kinds_first : (bytes : List ℕ) {kinds : List Token} → AreKinds bytes kinds → FirstGives (first bytes) kinds
kinds_first bytes (no_kinds e) = gives_by bytes End [] e refl
kinds_first bytes (gap_kinds {rest = rest} {kinds = kinds} e p) = gives_by bytes (Gap rest) kinds e p
kinds_first bytes (single_kinds {rest = rest} {token = token} {kinds = kinds} e p) =
    gives_by bytes (Single token rest) (token ∷ kinds) e (record { more = kinds; is = refl; later = p })
kinds_first bytes (text_kinds {inside = inside} {contents = contents} {rest = rest} {long = long} {kinds = kinds} e i p) =
    gives_by bytes (Quote long inside) (Text contents ∷ kinds) e (record { contents = contents; rest = rest; more = kinds; is = refl; spelled = i; later = p })

pub first_kinds : (bytes : List ℕ) (kinds : List Token) (f : First) → first bytes ≡ f → FirstGives f kinds → AreKinds bytes kinds
first_kinds bytes kinds End e g = subst (AreKinds bytes) (sym g) (no_kinds e)
first_kinds bytes kinds (Gap rest) e g = gap_kinds e g
first_kinds bytes kinds (Single token rest) e g = subst (AreKinds bytes) (sym g.is) (single_kinds e g.later)
first_kinds bytes kinds (Quote long inside) e g = subst (AreKinds bytes) (sym g.is) (text_kinds e g.spelled g.later)
first_kinds bytes kinds NoToken e g = absurd g
