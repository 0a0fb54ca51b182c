-- Bytes begin a file where one of the endings makes of them tokens that may follow one another, and nowhere else.
use Rattle.std.proofs.Common.{◌≡◌, ℕ, ◌+◌, true, false, List, [], ◌∷◌, ◌++◌, length, take, map, refl, ap, sym, subst, ◌∙◌, arith}
use Rattle.std.proofs.lemmas.List.{append_assoc, append-nil, length-append}
use Rattle.std.specs.declared.option.Option.TheVariants.{None, Some}
use Rattle.syntax_trees.specs.declared.token.Token.{Token}
use Rattle.syntax_trees.specs.Faults.{IsDerived, BeginsFile}
use Rattle.syntax_trees.specs.Following.{TokenControl as Control, at_entry, followed_after as followed_from, tokens_followed as followed, token_of}
use Rattle.syntax_trees.specs.Lexes.{Lexes}
use Rattle.syntax_trees.specs.Tokens.{Placed}
use Rattle.syntax_trees.proofs.Ended.{begins_file}
use Rattle.syntax_trees.proofs.Followed.{file_followed}
use Rattle.syntax_trees.proofs.Settled.{LexesToo}
use Rattle.syntax_faults.specs.Endings.{GoesOn, begins_apart}
use Rattle.syntax_faults.specs.Laws.{BeginningsAreTold, TailsAreTold, StrayTokensAreTold, StrayIsTold, EndedInsideIsTold}
use Rattle.syntax_faults.proofs.TokenKinds.{AreKinds, kinds_of, at_places}
use Rattle.syntax_faults.proofs.GoingOn.{KindsGoOn, kinds_go_on}
use Rattle.syntax_faults.proofs.Relexed.{relexed, kinds_after, kinds_onto, followed_append}

-- the tokens of some file that begins with the bytes
record SomeFile (bytes : List ℕ) : Type 0 where
  more : List ℕ
  kinds : List Token
  spelled : AreKinds (bytes ++ more) kinds
  after : Control
  leads : followed (at_entry false) kinds ≡ Some after

some_file : (bytes : List ℕ) → BeginsFile bytes → SomeFile bytes
some_file bytes (more, (entries, (tokens, p, q))) =
    let f = file_followed q in record {
      more = more;
      kinds = map token_of tokens;
      spelled = kinds_of p;
      after = record { expected = f.e; updated = f.u; frames = []; section = false };
      leads = f.leads;
    }

goes_on : (c : Control) (bytes : List ℕ) → KindsGoOn c bytes → GoesOn c bytes
goes_on c bytes k =
    let a = at_places (length (bytes ++ k.ending)) k.spelled in
    (k.ending, k.is, (a.tokens, k.after, a.spelled, ap (followed c) a.same ∙ k.leads))

pub begins_front : (bytes more : List ℕ) → BeginsFile (bytes ++ more) → BeginsFile bytes
begins_front bytes more (later, p) = (more ++ later, subst IsDerived (append_assoc bytes more later) p)

-- what spells tokens that follow one another begins a file
spelled_begins : (bytes : List ℕ) (kinds : List Token) (d : Control) → AreKinds bytes kinds → followed (at_entry false) kinds ≡ Some d → BeginsFile bytes
spelled_begins bytes kinds d p e =
    let a = at_places (length bytes) p in begins_file bytes a.tokens d a.spelled (ap (followed (at_entry false)) a.same ∙ e)

pub beginnings_are_told : BeginningsAreTold
beginnings_are_told bytes = (
  (λ p. let f = some_file bytes p in goes_on (at_entry false) bytes (kinds_go_on bytes f.more (at_entry false) f.after f.kinds f.spelled f.leads)),
  (λ (ending, i, (tokens, d, p, e)). begins_front bytes ending (begins_file (bytes ++ ending) tokens d p e)),
)

-- the settled tokens, whatever stands after the bytes
relexed_on : (front tail rest : List ℕ) (tokens : List Placed) → Lexes (length (front ++ tail ++ rest)) (front ++ tail ++ rest) tokens (tail ++ rest)
    → begins_apart tail ≡ true → (more : List ℕ) → LexesToo (length (front ++ tail ++ more)) (front ++ tail ++ more) (tail ++ more) (map token_of tokens)
relexed_on front tail rest tokens l a more = relexed l (front ++ tail) rest tail more (length (front ++ tail ++ more)) refl refl a

-- the tokens of some file that begins with the bytes, after the settled ones
record SomeTail (tail : List ℕ) (tokens : List Placed) : Type 0 where
  more : List ℕ
  kinds : List Token
  spelled : AreKinds (tail ++ more) kinds
  after : Control
  leads : followed_from (followed (at_entry false) (map token_of tokens)) kinds ≡ Some after

some_tail : (front tail rest : List ℕ) (tokens : List Placed) → Lexes (length (front ++ tail ++ rest)) (front ++ tail ++ rest) tokens (tail ++ rest)
    → begins_apart tail ≡ true → BeginsFile (front ++ tail) → SomeTail tail tokens
some_tail front tail rest tokens l a p =
    let f = some_file (front ++ tail) p in
    let r = relexed_on front tail rest tokens l a f.more in
    let k = kinds_after r.lexes f.kinds f.spelled in
    record {
      more = f.more;
      kinds = k.0;
      spelled = k.1;
      after = f.after;
      leads =
          ap (λ z. followed_from (followed (at_entry false) z) k.0) (sym r.same)
          ∙ sym (followed_append (Some (at_entry false)) (map token_of r.tokens) k.0)
          ∙ ap (followed (at_entry false)) (sym k.2) ∙ f.leads;
    }

pub tails_are_told : TailsAreTold
tails_are_told front tail rest tokens c l a e = (
  (λ p.
      let t = some_tail front tail rest tokens l a p in
      goes_on c tail (kinds_go_on tail t.more c t.after t.kinds t.spelled (ap (λ o. followed_from o t.kinds) (sym e) ∙ t.leads))),
  (λ (ending, i, (others, d, p, f)).
      let r = relexed_on front tail rest tokens l a ending in
      begins_front (front ++ tail) ending
      (spelled_begins (front ++ tail ++ ending) (map token_of r.tokens ++ map token_of others) d (kinds_onto r.lexes (kinds_of p))
      (followed_append (Some (at_entry false)) (map token_of r.tokens) (map token_of others)
      ∙ ap (λ z. followed_from (followed (at_entry false) z) (map token_of others)) r.same
      ∙ ap (λ o. followed_from o (map token_of others)) e ∙ f))),
)

none_leads : (kinds : List Token) (d : Control) → followed_from None kinds ≡ Some d → ⊥
none_leads [] d e = cc
none_leads (token ∷ kinds) d e = cc

pub stray_tokens_are_told : StrayTokensAreTold
stray_tokens_are_told front tail rest tokens l a e p =
    let t = some_tail front tail rest tokens l a p in none_leads t.kinds t.after (ap (λ o. followed_from o t.kinds) (sym e) ∙ t.leads)

-- one byte more still begins apart
apart_more : (tail : List ℕ) (b : ℕ) → begins_apart tail ≡ true → begins_apart (tail ++ b ∷ []) ≡ true
apart_more [] b h = absurd cc
apart_more (c ∷ []) b h = refl
apart_more (c ∷ d ∷ tail) b h = refl

front_taken : (front rest : List ℕ) → take (length front) (front ++ rest) ≡ front
front_taken [] rest = refl
front_taken (b ∷ front) rest = ap (λ z. b ∷ z) (front_taken front rest)

pub stray_is_told : StrayIsTold
stray_is_told front tail rest byte tokens c l a e g n deep =
    let now = front ++ tail in
    let there : front ++ (tail ++ byte ∷ []) ≡ now ++ byte ∷ [] = sym (append_assoc front tail (byte ∷ [])) in
    let whole : front ++ (tail ++ byte ∷ []) ++ rest ≡ now ++ byte ∷ rest =
    ap (λ z. z ++ rest) there ∙ append_assoc now (byte ∷ []) rest in
    let stop : (tail ++ byte ∷ []) ++ rest ≡ tail ++ byte ∷ rest = append_assoc tail (byte ∷ []) rest in
    let lexed : Lexes (length (front ++ (tail ++ byte ∷ []) ++ rest)) (front ++ (tail ++ byte ∷ []) ++ rest) tokens ((tail ++ byte ∷ []) ++ rest) =
    subst (λ z. Lexes (length z) z tokens ((tail ++ byte ∷ []) ++ rest)) (sym whole) (subst (λ z. Lexes (length (now ++ byte ∷ rest)) (now ++ byte ∷ rest) tokens z) (sym stop) l) in
    let before = (tails_are_told front tail (byte ∷ rest) tokens c l a e).1 g in
    let after = (tails_are_told front (tail ++ byte ∷ []) rest tokens c lexed (apart_more tail byte a) e).0 in
    let longer : length (now ++ byte ∷ []) ≡ length now + 1 = length-append now (byte ∷ []) in
    let taken : take (length now + 1) (now ++ byte ∷ rest) ≡ front ++ (tail ++ byte ∷ []) =
    ap (λ k. take k (now ++ byte ∷ rest)) (sym longer) ∙ ap (take (length (now ++ byte ∷ []))) (sym (append_assoc now (byte ∷ []) rest))
    ∙ front_taken (now ++ byte ∷ []) rest ∙ sym there in (
      deep,
      record {
        within = omega (arith, length-append now (byte ∷ rest));
        begins = subst BeginsFile (sym (front_taken now (byte ∷ rest))) before;
        stray = λ p. n (after (subst BeginsFile taken p));
      },
    )

pub ended_inside_is_told : EndedInsideIsTold
ended_inside_is_told front tail tokens c l a e g n deep =
    let same : front ++ tail ++ [] ≡ front ++ tail = append-nil (front ++ tail) in
    let lexed : Lexes (length (front ++ tail ++ [])) (front ++ tail ++ []) tokens (tail ++ []) =
    subst (λ z. Lexes (length z) z tokens (tail ++ [])) (sym same) (subst (λ z. Lexes (length (front ++ tail)) (front ++ tail) tokens z) (sym (append-nil tail)) l) in
    (deep, record { all = refl; begins = (tails_are_told front tail [] tokens c lexed a e).1 g; unfinished = n })
