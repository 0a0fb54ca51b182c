-- The worked rows.
use Rattle.std.proofs.Common.{◌≡◌, ℕ, ◌+◌, ◌-◌, Bool, true, false, List, [], ◌∷◌, map, refl, ap, sym, subst, ◌∙◌, arith, lit≤, if◌then◌else◌}
use Rattle.std.specs.Prelude.{codes, pos, nat_le, ◌&&◌}
use Rattle.std.proofs.lemmas.Bool.{lt-leb}
use Rattle.std.specs.declared.option.Option.TheVariants.{None, Some}
use Rattle.opam_names.specs.Names.{is_digit}
use Rattle.syntax_trees.specs.declared.token.Token.{Token}
use Rattle.syntax_trees.specs.declared.token.Token.TheVariants.{Int, Plain, Scoped, Colon, Not, Relation, Update, Text}
use Rattle.syntax_trees.specs.declared.tree.RelOp.TheVariants.{Ne}
use Rattle.syntax_trees.specs.declared.tree.EnvOp.TheVariants.{Before}
use Rattle.syntax_trees.specs.declared.tree.Span.{Span}
use Rattle.syntax_trees.specs.Faults.{IsDerived}
use Rattle.syntax_trees.specs.Following.{ExpectedNext, Operand, AfterPrimary, TokenControl as Control, at_entry, tokens_followed as followed, followed_after as followed_from, token_of}
use Rattle.syntax_trees.specs.Lexes.{none_read, gap_then, single_then}
use Rattle.syntax_trees.specs.Texts.{Gives, NoPiece, piece, decimal, IsInside, closes, gives}
use Rattle.syntax_trees.specs.Tokens.{Placed, placed, ends, single, text}
use Rattle.syntax_trees.proofs.OneTokens.{no_tokens, after_gap, after_single, no_text, no_inside}
use Rattle.syntax_trees.proofs.Shallow.{short_is_shallow}
use Rattle.syntax_faults.specs.Endings.{GoesOn, no_ending, name_ending, equals_ending, text_ending, no_escape, two_digits, one_quote}
use Rattle.syntax_faults.specs.Rows.{RowsAreTold}
use Rattle.syntax_faults.proofs.Begun.{stray_is_told, ended_inside_is_told}
use Rattle.syntax_faults.proofs.Relexed.{followed_append}

-- where a token stands
abbrev at : Token → ℕ → ℕ → Placed
at token from to = placed token (record { start = from; end = to })

-- the state in a value that has been begun, with an update or none
abbrev in_value : ExpectedNext → Bool → Control
in_value e updated = record { expected = e; updated = updated; frames = []; section = false }

none_leads : (kinds : List Token) (d : Control) → followed_from None kinds ≡ Some d → ⊥
none_leads [] d e = cc
none_leads (token ∷ kinds) d e = cc

-- a token that may not follow stands first
no_first : (c d : Control) (token : Token) (tokens others : List Placed) (span : Span) → tokens ≡ placed token span ∷ others
    → followed c (token ∷ []) ≡ None → followed c (map token_of tokens) ≡ Some d → ⊥
no_first c d token tokens others span e n f =
    none_leads (map token_of others) d (ap (λ o. followed_from o (map token_of others)) (sym n) ∙ sym (ap (λ z. followed c (map token_of z)) e) ∙ f)

-- a token that may follow, and one that may not
no_second : (c d : Control) (one other : Token) (tokens others more : List Placed) (a b : Span) → tokens ≡ placed one a ∷ others → others ≡ placed other b ∷ more
    → followed c (one ∷ other ∷ []) ≡ None → followed c (map token_of tokens) ≡ Some d → ⊥
no_second c d one other tokens others more a b e f n g =
    none_leads (map token_of more) d
    (ap (λ o. followed_from o (map token_of more)) (sym n) ∙ sym (followed_append (Some c) (one ∷ other ∷ []) (map token_of more))
    ∙ sym (ap (λ z. followed c (token_of (placed one a) ∷ map token_of z)) f) ∙ sym (ap (λ z. followed c (map token_of z)) e) ∙ g)

not_after_value : ¬ (GoesOn (in_value (AfterPrimary false) false) (codes "!x"))
not_after_value (ending, i, (tokens, d, p, e)) =
    let a = after_single refl p in no_first (in_value (AfterPrimary false) false) d Not tokens a.others _ a.is refl e

scope_for_name : ¬ (GoesOn (at_entry false) (codes "a:b"))
scope_for_name (ending, i, (tokens, d, p, e)) = let a = after_single refl p in no_first (at_entry false) d _ tokens a.others _ a.is refl e

number_for_name : ¬ (GoesOn (at_entry false) (codes "12 "))
number_for_name (ending, i, (tokens, d, p, e)) = let a = after_single refl p in no_first (at_entry false) d (Int (pos 12)) tokens a.others _ a.is refl e

colon_in_value : ¬ (GoesOn (in_value Operand true) (codes "y: "))
colon_in_value (ending, i, (tokens, d, p, e)) =
    let a = after_single refl p in
    let b = after_single refl a.spelled in
    no_second (in_value Operand true) d (Plain (codes "y")) Colon tokens a.others b.others _ _ a.is b.is refl e

too_large : (bytes : List ℕ) → decimal (50 ∷ 54 ∷ bytes) ≡ NoPiece
too_large [] = refl
too_large (c ∷ bytes) = none_if (is_digit c) (nat_le (260 + (c - 48)) 255) (lt-leb (260 + (c - 48)) 255 (omega arith))
  where
    none_if : (a b : Bool) → b ≡ false → (if a && b then Gives ((260 + (c - 48)) ∷ []) bytes else NoPiece) ≡ NoPiece
    none_if true true e = absurd cc
    none_if true false e = refl
    none_if false b e = refl

code_too_large : ¬ (GoesOn (in_value Operand false) (codes "\"\\26"))
code_too_large (ending, i, (tokens, d, p, e)) = no_text refl (λ t r i. no_inside (too_large ending) i) p

-- after what stands first inside a text
inside_after : {long : Bool} {bytes part more t r : List ℕ} → piece long bytes ≡ Gives part more → IsInside long bytes t r → (u : List ℕ) × IsInside long more u r
inside_after e (closes f) = let g = sym e ∙ f in absurd cc
inside_after {long} {more = more} {r = r} e (gives {more = m} {text = u} f i) = (u, subst (λ z. IsInside long z u r) (let g = sym e ∙ f in cc) i)

no_minus : ¬ (IsDerived (codes "a: 12 b: -"))
no_minus (entries, (tokens, p, q)) =
    let a = after_gap refl (after_single refl (after_single refl p).spelled).spelled in
    let b = after_gap refl (after_single refl a).spelled in
    no_tokens refl (after_gap refl (after_single refl (after_single refl b).spelled).spelled)

no_plus : ¬ (IsDerived (codes "a: x+"))
no_plus (entries, (tokens, p, q)) = no_tokens refl (after_single refl (after_gap refl (after_single refl (after_single refl p).spelled).spelled)).spelled

no_quotes : ¬ (IsDerived (codes "a: \"\"\"b\"\""))
no_quotes (entries, (tokens, p, q)) =
    no_text refl (λ t r i. no_inside refl (inside_after {part = 34 ∷ []} refl (inside_after {part = 34 ∷ []} refl (inside_after {part = codes "b"} refl i).1).1).1)
    (after_gap refl (after_single refl (after_single refl p).spelled).spelled)

pub rows_are_told : RowsAreTold
rows_are_told = record {
  not_after_value =
      stray_is_told (codes "a: b ") (codes "!") [] 120 (at (Plain (codes "a")) 0 1 ∷ at Colon 1 2 ∷ at (Plain (codes "b")) 3 4 ∷ [])
      (in_value (AfterPrimary false) false) (single_then refl (single_then refl (gap_then refl (single_then refl (gap_then refl none_read))))) refl refl
      (codes "=", equals_ending, (at (Relation Ne) 0 2 ∷ [], _, single refl (ends refl), refl)) not_after_value (short_is_shallow _ (lit≤ tt));
  scope_for_name =
      stray_is_told [] (codes "a:") (codes ": 1") 98 [] (at_entry false) none_read refl refl
      ([], no_ending, (at (Plain (codes "a")) 0 1 ∷ at Colon 1 2 ∷ [], _, single refl (single refl (ends refl)), refl)) scope_for_name
      (short_is_shallow _ (lit≤ tt));
  number_for_name =
      stray_is_told [] (codes "12") [] 32 [] (at_entry false) none_read refl refl
      (codes "x", name_ending, (at (Plain (codes "12x")) 0 3 ∷ [], _, single refl (ends refl), refl)) number_for_name (short_is_shallow _ (lit≤ tt));
  code_too_large =
      stray_is_told (codes "a: ") (codes "\"\\2") [] 54 (at (Plain (codes "a")) 0 1 ∷ at Colon 1 2 ∷ []) (in_value Operand false)
      (single_then refl (single_then refl (gap_then refl none_read))) refl refl
      (codes "00\"", text_ending two_digits one_quote, (at (Text (200 ∷ [])) 0 6 ∷ [], _, text refl (gives {part = 200 ∷ []} refl (closes refl)) (ends refl), refl))
      code_too_large (short_is_shallow _ (lit≤ tt));
  colon_in_value =
      stray_is_told (codes "f: x += ") (codes "y:") (codes "z") 32
      (at (Plain (codes "f")) 0 1 ∷ at Colon 1 2 ∷ at (Plain (codes "x")) 3 4 ∷ at (Update Before) 5 7 ∷ []) (in_value Operand true)
      (single_then refl (single_then refl (gap_then refl (single_then refl (gap_then refl (single_then refl (gap_then refl none_read))))))) refl refl
      (codes "x", name_ending, (at (Scoped (codes "y") (codes "x")) 0 3 ∷ [], _, single refl (ends refl), refl)) colon_in_value (short_is_shallow _ (lit≤ tt));
  lone_minus =
      ended_inside_is_told (codes "a: 12 b: ") (codes "-")
      (at (Plain (codes "a")) 0 1 ∷ at Colon 1 2 ∷ at (Int (pos 12)) 3 5 ∷ at (Plain (codes "b")) 6 7 ∷ at Colon 7 8 ∷ []) (in_value Operand false)
      (single_then refl (single_then refl (gap_then refl (single_then refl (gap_then refl (single_then refl (single_then refl (gap_then refl none_read)))))))) refl refl
      (codes "x", name_ending, (at (Plain (codes "-x")) 0 2 ∷ [], _, single refl (ends refl), refl)) no_minus (short_is_shallow _ (lit≤ tt));
  lone_plus =
      ended_inside_is_told (codes "a: ") (codes "x+") (at (Plain (codes "a")) 0 1 ∷ at Colon 1 2 ∷ []) (in_value Operand false)
      (single_then refl (single_then refl (gap_then refl none_read))) refl refl
      (codes "=", equals_ending, (at (Plain (codes "x")) 0 1 ∷ at (Update Before) 1 3 ∷ [], _, single refl (single refl (ends refl)), refl)) no_plus
      (short_is_shallow _ (lit≤ tt));
  two_quotes =
      ended_inside_is_told (codes "a: ") (codes "\"\"\"b\"\"") (at (Plain (codes "a")) 0 1 ∷ at Colon 1 2 ∷ []) (in_value Operand false)
      (single_then refl (single_then refl (gap_then refl none_read))) refl refl
      (34 ∷ [], text_ending no_escape one_quote, (at (Text (codes "b")) 0 7 ∷ [], _, text refl (gives {part = codes "b"} refl (closes refl)) (ends refl), refl)) no_quotes
      (short_is_shallow _ (lit≤ tt));
}
