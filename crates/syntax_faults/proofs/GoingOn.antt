-- Where anything makes tokens of bytes that may follow one another, one of the endings does.
use Rattle.std.proofs.Common.{◌≡◌, ℕ, zero, suc, ◌≤◌, Bool, List, [], ◌∷◌, ◌++◌, length, refl, ap, sym, subst, ◌∙◌, arith}
use Rattle.std.specs.declared.option.Option.TheVariants.{Some}
use Rattle.syntax_trees.specs.declared.token.Token.{Token}
use Rattle.syntax_trees.specs.declared.token.Token.TheVariants.{Text}
use Rattle.syntax_trees.specs.Following.{TokenControl as Control, token_follows as follow, followed_after as followed_from, tokens_followed as followed}
use Rattle.syntax_trees.specs.Texts.{IsInside}
use Rattle.syntax_trees.specs.Tokens.{First, Gap, Single, Quote, first}
use Rattle.syntax_faults.specs.Endings.{IsEnding, no_ending}
use Rattle.syntax_faults.proofs.TokenKinds.{AreKinds, no_kinds, gap_kinds, single_kinds, text_kinds, FirstGives, SingleGives, QuoteGives, kinds_first, first_kinds}
use Rattle.syntax_faults.proofs.TextSplits.{inside_settled, inside_loose, inside_split}
use Rattle.syntax_faults.proofs.Splits.{gap_settled, single_settled, quote_settled, none_settled, loose}
use Rattle.syntax_faults.proofs.FirstSplits.{first_split, follows_on}

-- an ending makes of the bytes tokens of these kinds, and they may follow
pub record KindsGoOn (c : Control) (bytes : List ℕ) : Type 0 where
  pub ending : List ℕ
  pub is : IsEnding ending
  pub kinds : List Token
  pub spelled : AreKinds (bytes ++ ending) kinds
  pub after : Control
  pub leads : followed c kinds ≡ Some after

-- one token more stands before them
token_before : (c d : Control) (token : Token) (more : List Token) → follow c token ≡ Some d → followed_from (follow c token) more ≡ followed d more
token_before c d token more e = ap (λ o. followed_from o more) e

after_single : (c : Control) (bytes g : List ℕ) (token : Token) (d : Control) → ((x : List ℕ) → first (bytes ++ x) ≡ Single token (g ++ x)) → follow c token ≡ Some d
    → KindsGoOn d g → KindsGoOn c bytes
after_single c bytes g token d h e k = record {
  ending = k.ending;
  is = k.is;
  kinds = token ∷ k.kinds;
  spelled = single_kinds (h k.ending) k.spelled;
  after = k.after;
  leads = token_before c d token k.kinds e ∙ k.leads;
}

after_gap : (c : Control) (bytes g : List ℕ) → ((x : List ℕ) → first (bytes ++ x) ≡ Gap (g ++ x)) → KindsGoOn c g → KindsGoOn c bytes
after_gap c bytes g h k = record { ending = k.ending; is = k.is; kinds = k.kinds; spelled = gap_kinds (h k.ending) k.spelled; after = k.after; leads = k.leads }

after_text : (c : Control) (bytes g left contents : List ℕ) (long : Bool) (d : Control) → ((x : List ℕ) → first (bytes ++ x) ≡ Quote long (g ++ x))
    → ((x : List ℕ) → IsInside long (g ++ x) contents (left ++ x)) → follow c (Text contents) ≡ Some d → KindsGoOn d left → KindsGoOn c bytes
after_text c bytes g left contents long d h i e k = record {
  ending = k.ending;
  is = k.is;
  kinds = Text contents ∷ k.kinds;
  spelled = text_kinds (h k.ending) (i k.ending) k.spelled;
  after = k.after;
  leads = token_before c d (Text contents) k.kinds e ∙ k.leads;
}

pub given_by : (kinds : List Token) (f g : First) → f ≡ g → FirstGives f kinds → FirstGives g kinds
given_by kinds f g e h = subst (λ z. FirstGives z kinds) e h

go_on : (n : ℕ) (bytes x : List ℕ) (c d : Control) (kinds : List Token) → length bytes ≤ n → AreKinds (bytes ++ x) kinds → followed c kinds ≡ Some d → KindsGoOn c bytes
go_on n [] x c d kinds l k e = record { ending = []; is = no_ending; kinds = []; spelled = no_kinds refl; after = c; leads = refl }
go_on zero (b ∷ f) x c d kinds l k e = absurd (omega arith)
go_on (suc n) (b ∷ f) x c d kinds l k e =
    elim (first_split b f) [
      | gap_settled g s h ↦ after_gap c (b ∷ f) g h (go_on n g x c d kinds (omega arith) (given_by kinds _ _ (h x) (kinds_first (b ∷ f ++ x) k)) e)
      | single_settled token g s h ↦ (
          let now : SingleGives token (g ++ x) kinds = given_by kinds _ _ (h x) (kinds_first (b ∷ f ++ x) k) in
          let f2 = follows_on c d token now.more (ap (followed c) (sym now.is) ∙ e) in
          after_single c (b ∷ f) g token f2.after h f2.leads (go_on n g x f2.after d now.more (omega arith) now.later f2.onward))
      | quote_settled long g s h ↦ (
          let now : QuoteGives long (g ++ x) kinds = given_by kinds _ _ (h x) (kinds_first (b ∷ f ++ x) k) in
          let f2 = follows_on c d (Text now.contents) now.more (ap (followed c) (sym now.is) ∙ e) in
          elim (inside_split g x now.contents now.rest now.spelled) [
            | inside_settled i ↦ (
                let m = i.short in
                after_text c (b ∷ f) g i.left now.contents long f2.after h i.too f2.leads
                (go_on n i.left x f2.after d now.more (omega arith) (subst (λ z. AreKinds z now.more) i.is now.later) f2.onward))
            | inside_loose m i ↦ record {
              ending = i.ending;
              is = i.is;
              kinds = Text i.contents ∷ [];
              spelled = text_kinds (h i.ending) i.spelled (no_kinds refl);
              after = f2.after;
              leads = f2.leads;
            }
          ])
      | none_settled h ↦ absurd (given_by kinds _ _ (h x) (kinds_first (b ∷ f ++ x) k))
      | loose past can ↦ (
          let t = can x c d kinds (kinds_first (b ∷ f ++ x) k) e in
          record {
            ending = t.ending;
            is = t.is;
            kinds = t.kinds;
            spelled = first_kinds (b ∷ f ++ t.ending) t.kinds (first (b ∷ f ++ t.ending)) refl t.spelled;
            after = t.after;
            leads = t.leads;
          })
    ]

pub kinds_go_on : (bytes x : List ℕ) (c d : Control) (kinds : List Token) → AreKinds (bytes ++ x) kinds → followed c kinds ≡ Some d → KindsGoOn c bytes
kinds_go_on bytes x c d kinds k e = go_on (length bytes) bytes x c d kinds (omega arith) k e
