-- How a word that was begun may end.
use Rattle.std.proofs.Common.{◌≡◌, ℕ, Bool, true, false, not, List, [], ◌∷◌, ◌++◌, length, drop, refl, ap, ◌∙◌}
use Rattle.std.specs.List.{list_all}
use Rattle.std.proofs.Math.Seq.{drop-length}
use Rattle.std.specs.declared.option.Option.TheVariants.{Some}
use Rattle.syntax_trees.specs.declared.token.Token.{Token}
use Rattle.syntax_trees.specs.declared.token.Token.TheVariants.{Plain, Scoped}
use Rattle.syntax_trees.specs.Following.{TokenControl as Control}
use Rattle.syntax_trees.specs.Tokens.{First, Single, word_first}
use Rattle.syntax_trees.specs.Words.{is_word_byte, begins_word, word_of, word_token, is_scoped}
use Rattle.syntax_faults.specs.Endings.{name_ending, scope_ending}
use Rattle.syntax_faults.proofs.Splits.{Ends, Follows, one_left}
use Rattle.syntax_faults.proofs.WordSplits.{has_colon}
use Rattle.syntax_faults.proofs.WordKinds.{WordKind, flag_kind, int_kind, plain_kind, scoped_kind, word_kind, plain_no_colon, all_front, name_token, scope_of_word, scope_of_scoped, name_of_scoped}

-- what a word that bytes begin with gives
abbrev pub word_gives : List ℕ → List ℕ → First
word_gives word bytes = word_first (word_token word) (drop (length word) bytes)

-- what goes on with a word byte goes on with the word
abbrev pub WordGoesOn : List ℕ → Type 0
WordGoesOn bytes = (y : List ℕ) → begins_word y ≡ true → word_of true (bytes ++ y) ≡ bytes ++ word_of (not (has_colon bytes)) y

whole : (bytes ending : List ℕ) (token : Token) → word_of true (bytes ++ ending) ≡ bytes ++ ending → word_token (bytes ++ ending) ≡ Some token
    → word_gives (word_of true (bytes ++ ending)) (bytes ++ ending) ≡ Single token []
whole bytes ending token w e =
    ap (λ z. word_gives z (bytes ++ ending)) w
    ∙ ap (λ o. word_first o (drop (length (bytes ++ ending)) (bytes ++ ending))) e
    ∙ ap (λ z. Single token z) (drop-length (bytes ++ ending))

ends_with_x : (c : Control) (bytes : List ℕ) (token : Token) → WordGoesOn bytes → word_token (bytes ++ 120 ∷ []) ≡ Some token → Follows c token
    → Ends c (λ x. word_gives (word_of true (bytes ++ x)) (bytes ++ x))
ends_with_x c bytes token g e h =
    one_left c (λ x. word_gives (word_of true (bytes ++ x)) (bytes ++ x)) (120 ∷ []) token name_ending
    (whole bytes (120 ∷ []) token (g (120 ∷ []) refl ∙ ap (λ z. bytes ++ z) (one (not (has_colon bytes)))) e) h
  where
    one : (k : Bool) → word_of k (120 ∷ []) ≡ 120 ∷ []
    one true = refl
    one false = refl

ends_with_scope : (c : Control) (bytes : List ℕ) (token : Token) → WordGoesOn bytes → has_colon bytes ≡ false → word_token (bytes ++ 120 ∷ 58 ∷ 120 ∷ []) ≡ Some token
    → Follows c token → Ends c (λ x. word_gives (word_of true (bytes ++ x)) (bytes ++ x))
ends_with_scope c bytes token g n e h =
    one_left c (λ x. word_gives (word_of true (bytes ++ x)) (bytes ++ x)) (120 ∷ 58 ∷ 120 ∷ []) token scope_ending
    (whole bytes (120 ∷ 58 ∷ 120 ∷ []) token
    (g (120 ∷ 58 ∷ 120 ∷ []) refl ∙ ap (λ z. bytes ++ word_of (not z) (120 ∷ 58 ∷ 120 ∷ [])) n) e) h

-- the word that begins so is a token that may follow
pub word_can_end : (c : Control) (bytes u : List ℕ) (token : Token) → WordGoesOn bytes → word_token (bytes ++ u) ≡ Some token → Follows c token
    → Ends c (λ x. word_gives (word_of true (bytes ++ x)) (bytes ++ x))
word_can_end c bytes u token g e h = by_kind (word_kind (bytes ++ u) token e) h
  where
    scope_if : {s n : List ℕ} (k : Bool) → has_colon bytes ≡ k → is_scoped (bytes ++ u) ≡ true → Follows c (Scoped s n)
        → Ends c (λ x. word_gives (word_of true (bytes ++ x)) (bytes ++ x))
    scope_if true k i h =
        let t = name_of_scoped bytes u k i in
        ends_with_x c bytes (Scoped t.0 t.1) g t.2 (record { after = h.after; leads = h.leads })
    scope_if false k i h =
        let t = scope_of_scoped bytes u k i in
        ends_with_scope c bytes (Scoped t.0 t.1) g k t.2 (record { after = h.after; leads = h.leads })

    plain_if : list_all is_word_byte (bytes ++ u) ≡ true → (f : (s n : List ℕ) → Follows c (Scoped s n)) → Ends c (λ x. word_gives (word_of true (bytes ++ x)) (bytes ++ x))
    plain_if a f =
        let front = all_front is_word_byte bytes u a in
        let t = scope_of_word bytes front in
        ends_with_scope c bytes (Scoped t.0 t.1) g (plain_no_colon bytes front) t.2 (f t.0 t.1)

    by_kind : {t : Token} → WordKind (bytes ++ u) t → Follows c t → Ends c (λ x. word_gives (word_of true (bytes ++ x)) (bytes ++ x))
    by_kind (flag_kind flag a) h = plain_if a (λ s n. record { after = h.after; leads = h.leads })
    by_kind (int_kind n a) h = plain_if a (λ s n. record { after = h.after; leads = h.leads })
    by_kind (plain_kind a) h =
        ends_with_x c bytes (Plain (bytes ++ 120 ∷ [])) g (name_token bytes (all_front is_word_byte bytes u a)) (record { after = h.after; leads = h.leads })
    by_kind (scoped_kind i) h = scope_if (has_colon bytes) refl i h
