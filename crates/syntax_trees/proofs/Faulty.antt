-- The worked rows of faults.
use Rattle.std.proofs.Common.{◌≡◌, ℕ, List, [], ◌∷◌, ◌++◌, Bool, true, false, refl, sym, subst, ap, ◌∙◌, lit<, lit≤, pos}
use Rattle.std.specs.Prelude.{codes}
use Rattle.syntax_trees.specs.declared.token.Token.TheVariants.{Int, Text, Plain, Colon, OpenGroup, Relation, Update}
use Rattle.syntax_trees.specs.declared.tree.EnvOp.TheVariants.{After}
use Rattle.syntax_trees.specs.declared.tree.RelOp.TheVariants.{Eq}
use Rattle.syntax_trees.specs.declared.tree.Node.{Node}
use Rattle.syntax_trees.specs.declared.tree.Span.{Span}
use Rattle.syntax_trees.specs.declared.tree.Value.TheOpen.{Value-F}
use Rattle.syntax_trees.specs.Grammar.{Spells, ValueLevel, OrLevel, RelationLevel, atom, bare, alone, relation, no_prefix, conjunction, disjunction, last_conjunct, last_disjunct, no_update, update}
use Rattle.syntax_trees.specs.Tokens.{Placed, placed, AreTokens, ends, gap, single, text}
use Rattle.syntax_trees.specs.Texts.{closes, gives}
use Rattle.syntax_trees.specs.Files.{Entry, field_entry, AreEntries, no_entry, field_next, section_next, labelled_next}
use Rattle.syntax_trees.specs.Rows.{RowsAreFaulty}
use Rattle.syntax_trees.specs.Samples.{span, word, int}
use Rattle.syntax_trees.specs.Samples as samples
use Rattle.syntax_trees.proofs.Derived.{on, atom_value, doubled_tokens, doubled_are_tokens, doubled_are_entries}
use Rattle.syntax_trees.proofs.Deeply.{too_many_lists}
use Rattle.syntax_trees.proofs.OneFile.{entries_stop}
use Rattle.syntax_trees.specs.Parsing.{stops}
use Rattle.syntax_trees.proofs.OneTree.{same}
use Rattle.syntax_trees.proofs.Shallow.{short_is_shallow}
use Rattle.syntax_trees.proofs.OneTokens.{no_tokens, after_gap, after_single, no_text, no_inside}

-- a file begins with a plain identifier
abbrev begins_entry : List Placed → Bool
begins_entry [] = true
begins_entry (placed (Plain name) at ∷ tokens) = true
begins_entry tokens = false

entries_begin : {tokens : List Placed} {entries : List Entry} → AreEntries tokens entries → begins_entry tokens ≡ true
entries_begin no_entry = refl
entries_begin (field_next p q) = refl
entries_begin (section_next p q) = refl
entries_begin (labelled_next p q) = refl

abbrev colon_goes_on : List Entry
colon_goes_on =
    (field_entry (codes "a") (span 0 1) (word (codes "x") 3 4)) ∷ []

abbrev colon_goes_on_tokens : List Placed
colon_goes_on_tokens =
    (on (Plain (codes "a")) 0 1) ∷ (on Colon 1 2) ∷ (on (Plain (codes "x")) 3 4) ∷ []

colon_goes_on_are_tokens : AreTokens 4 (codes "a: x") colon_goes_on_tokens
colon_goes_on_are_tokens =
    single refl (single refl (gap refl (single refl (ends refl))))

colon_goes_on_are_entries : AreEntries colon_goes_on_tokens colon_goes_on
colon_goes_on_are_entries =
    field_next (atom_value refl refl) no_entry

abbrev large_goes_on : List Entry
large_goes_on =
    (field_entry (codes "a") (span 0 1) (word (codes "9223372036854775808x") 3 23)) ∷ []

abbrev large_goes_on_tokens : List Placed
large_goes_on_tokens =
    (on (Plain (codes "a")) 0 1) ∷ (on Colon 1 2) ∷ (on (Plain (codes "9223372036854775808x")) 3 23) ∷ []

large_goes_on_are_tokens : AreTokens 23 (codes "a: 9223372036854775808x") large_goes_on_tokens
large_goes_on_are_tokens =
    single refl (single refl (gap refl (single refl (ends refl))))

large_goes_on_are_entries : AreEntries large_goes_on_tokens large_goes_on
large_goes_on_are_entries =
    field_next (atom_value refl refl) no_entry

abbrev minus_goes_on : List Entry
minus_goes_on =
    (field_entry (codes "a") (span 0 1) (int (pos 12) 3 5)) ∷ (field_entry (codes "b") (span 6 7) (word (codes "-x") 9 11))
    ∷ []

abbrev minus_goes_on_tokens : List Placed
minus_goes_on_tokens =
    (on (Plain (codes "a")) 0 1) ∷ (on Colon 1 2) ∷ (on (Int (pos 12)) 3 5) ∷ (on (Plain (codes "b")) 6 7) ∷
    (on Colon 7 8) ∷ (on (Plain (codes "-x")) 9 11) ∷ []

minus_goes_on_are_tokens : AreTokens 11 (codes "a: 12 b: -x") minus_goes_on_tokens
minus_goes_on_are_tokens =
    single refl (single refl (gap refl (single refl (gap refl (single refl (single refl (gap refl (single refl
    (ends refl)))))))))

minus_goes_on_are_entries : AreEntries minus_goes_on_tokens minus_goes_on
minus_goes_on_are_entries =
    field_next (atom_value refl refl) (field_next (atom_value refl refl) no_entry)

-- an escaped backslash after `a: "`
abbrev escape_goes_on : List Entry
escape_goes_on = field_entry (codes "a") (span 0 1) (samples.text (codes "\\") 3 7) ∷ []

abbrev escape_goes_on_tokens : List Placed
escape_goes_on_tokens = (on (Plain (codes "a")) 0 1) ∷ (on Colon 1 2) ∷ (on (Text (codes "\\")) 3 7) ∷ []

escape_goes_on_are_tokens : AreTokens 7 (codes "a: \"\\\\\"") escape_goes_on_tokens
escape_goes_on_are_tokens = single refl (single refl (gap refl (text refl (gives {part = 92 ∷ []} refl (closes refl)) (ends refl))))

escape_goes_on_are_entries : AreEntries escape_goes_on_tokens escape_goes_on
escape_goes_on_are_entries = field_next (atom_value refl refl) no_entry

no_scoped : {total : ℕ} {more : List ℕ} {tokens : List Placed} {entries : List Entry} → AreTokens total (codes "a:x" ++ more) tokens
    → AreEntries tokens entries → ⊥
no_scoped p q = let a = after_single refl p in let e = sym (ap begins_entry a.is) ∙ entries_begin q in cc

no_q : {total : ℕ} {more : List ℕ} {tokens : List Placed} → AreTokens total (codes "a: \"\\q" ++ more) tokens → ⊥
no_q p = no_text refl (λ t r i. no_inside refl i) (after_gap refl (after_single refl (after_single refl p).spelled).spelled)

no_minus : {total : ℕ} {tokens : List Placed} → AreTokens total (codes "a: 12 b: -") tokens → ⊥
no_minus p =
    let a = after_gap refl (after_single refl (after_single refl p).spelled).spelled in
    let b = after_gap refl (after_single refl a).spelled in
    no_tokens refl (after_gap refl (after_single refl (after_single refl b).spelled).spelled)

no_large : {total : ℕ} {tokens : List Placed} → AreTokens total (codes "a: 9223372036854775808") tokens → ⊥
no_large p = no_tokens refl (after_gap refl (after_single refl (after_single refl p).spelled).spelled)

no_large_space : {total : ℕ} {more : List ℕ} {tokens : List Placed} → AreTokens total (codes "a: 9223372036854775808 " ++ more) tokens → ⊥
no_large_space p = no_tokens refl (after_gap refl (after_single refl (after_single refl p).spelled).spelled)

-- a comment after the value
comment_goes_on_are_tokens : AreTokens 9 (codes "a: x (**)") colon_goes_on_tokens
comment_goes_on_are_tokens = single refl (single refl (gap refl (single refl (gap refl (gap refl (ends refl))))))

-- an update after a relation
abbrev sign_goes_on : List Entry
sign_goes_on =
    field_entry (codes "f") (span 0 1) (
    samples.spanned (Value-F.Env After (samples.related Eq (word (codes "a") 3 4) (word (codes "b") 7 8) 3 8) (word (codes "c") 12 13)) 3 13) ∷
    []

abbrev sign_goes_on_tokens : List Placed
sign_goes_on_tokens =
    on (Plain (codes "f")) 0 1 ∷ on Colon 1 2 ∷ on (Plain (codes "a")) 3 4 ∷ on (Relation Eq) 5 6 ∷ on (Plain (codes "b")) 7 8
    ∷ on (Update After) 9 11 ∷ on (Plain (codes "c")) 12 13 ∷ []

sign_goes_on_are_tokens : AreTokens 13 (codes "f: a = b =+ c") sign_goes_on_tokens
sign_goes_on_are_tokens =
    single refl (single refl (gap refl (single refl (gap refl (single refl (gap refl (single refl (gap refl (single refl (gap refl (single refl (ends refl))))))))))))

or_value : {tokens rest : List Placed} {n : Node} → Spells RelationLevel tokens n rest → Spells OrLevel tokens n rest
or_value p = disjunction (last_disjunct (conjunction (last_conjunct (no_prefix p))))

sign_goes_on_are_entries : AreEntries sign_goes_on_tokens sign_goes_on
sign_goes_on_are_entries =
    field_next (update (or_value (relation (bare (atom refl)) (bare (atom refl)))) (or_value (alone (bare (atom refl)) refl))) no_entry

entries_too : {ts us : List Placed} {es : List Entry} → ts ≡ us → AreEntries ts es → AreEntries us es
entries_too {es = es} e p = subst (λ ts. AreEntries ts es) e p

-- after a field's value, where it is the longest, a field or a section begins
then_entry : {name : List ℕ} {from at : Span} {tokens rest : List Placed} {v : Node} {es : List Entry} → Spells ValueLevel tokens v rest
    → stops ValueLevel rest ≡ true → AreEntries (placed (Plain name) from ∷ placed Colon at ∷ tokens) es → begins_entry rest ≡ true
then_entry p h (field_next q t) = let e = same p h q (entries_stop t) in ap begins_entry e.1 ∙ entries_begin t

no_group : {name word : List ℕ} {a b c d : Span} {more : List Placed} {es : List Entry}
    → AreEntries (placed (Plain name) a ∷ placed Colon b ∷ placed (Plain word) c ∷ placed OpenGroup d ∷ more) es → ⊥
no_group p = let e = then_entry (atom_value refl refl) refl p in cc

no_second : {name left right : List ℕ} {a b c d e f : Span} {more : List Placed} {es : List Entry}
    → AreEntries (placed (Plain name) a ∷ placed Colon b ∷ placed (Plain left) c ∷ placed (Relation Eq) d ∷ placed (Plain right) e ∷ placed (Relation Eq) f ∷ more) es → ⊥
no_second p = let e = then_entry (no_update (or_value (relation (bare (atom refl)) (bare (atom refl))))) refl p in cc

follows4 : {x y z w : Placed} {ts us vs ws ys : List Placed} → ts ≡ (x ∷ us) → us ≡ (y ∷ vs) → vs ≡ (z ∷ ws) → ws ≡ (w ∷ ys)
    → ts ≡ (x ∷ y ∷ z ∷ w ∷ ys)
follows4 e f g h = cc

follows6 : {x y z w u v : Placed} {ts bs cs ds es fs gs : List Placed} → ts ≡ (x ∷ bs) → bs ≡ (y ∷ cs) → cs ≡ (z ∷ ds) → ds ≡ (w ∷ es) → es ≡ (u ∷ fs)
    → fs ≡ (v ∷ gs) → ts ≡ (x ∷ y ∷ z ∷ w ∷ u ∷ v ∷ gs)
follows6 e f g h i j = cc

no_group_here : {total : ℕ} {more : List ℕ} {tokens : List Placed} {es : List Entry} → AreTokens total (codes "a: x (y" ++ more) tokens
    → AreEntries tokens es → ⊥
no_group_here p q =
    let a = after_single refl p in
    let b = after_single refl a.spelled in
    let c = after_single refl (after_gap refl b.spelled) in
    let d = after_single refl (after_gap refl c.spelled) in
    no_group (entries_too (follows4 a.is b.is c.is d.is) q)

no_group_end : {total : ℕ} {tokens : List Placed} {es : List Entry} → AreTokens total (codes "a: x (") tokens → AreEntries tokens es → ⊥
no_group_end p q =
    let a = after_single refl p in
    let b = after_single refl a.spelled in
    let c = after_single refl (after_gap refl b.spelled) in
    let d = after_single refl (after_gap refl c.spelled) in
    no_group (entries_too (follows4 a.is b.is c.is d.is) q)

no_second_here : {total : ℕ} {more : List ℕ} {tokens : List Placed} {es : List Entry} → AreTokens total (codes "f: a = b = " ++ more) tokens
    → AreEntries tokens es → ⊥
no_second_here p q =
    let a = after_single refl p in
    let b = after_single refl a.spelled in
    let c = after_single refl (after_gap refl b.spelled) in
    let d = after_single refl (after_gap refl c.spelled) in
    let e = after_single refl (after_gap refl d.spelled) in
    let f = after_single refl (after_gap refl e.spelled) in
    no_second (entries_too (follows6 a.is b.is c.is d.is e.is f.is) q)

pub rows_are_faulty : RowsAreFaulty
rows_are_faulty = record {
  scoped_name = (
    short_is_shallow _ (lit≤ tt),
    record {
      within = lit< tt;
      begins = (codes " x", (colon_goes_on, (colon_goes_on_tokens, colon_goes_on_are_tokens, colon_goes_on_are_entries)));
      stray = λ b. no_scoped b.1.1.1 b.1.1.2;
    },
  );
  unknown_escape = (
    short_is_shallow _ (lit≤ tt),
    record {
      within = lit< tt;
      begins = (codes "\\\"", (escape_goes_on, (escape_goes_on_tokens, escape_goes_on_are_tokens, escape_goes_on_are_entries)));
      stray = λ b. no_q b.1.1.1;
    },
  );
  lone_minus = (
    short_is_shallow _ (lit≤ tt),
    record {
      all = refl;
      begins = (codes "x", (minus_goes_on, (minus_goes_on_tokens, minus_goes_on_are_tokens, minus_goes_on_are_entries)));
      unfinished = λ d. no_minus d.1.1;
    },
  );
  too_large = (
    short_is_shallow _ (lit≤ tt),
    record {
      all = refl;
      begins = (codes "x", (large_goes_on, (large_goes_on_tokens, large_goes_on_are_tokens, large_goes_on_are_entries)));
      unfinished = λ d. no_large d.1.1;
    },
  );
  too_large_and_over = (
    short_is_shallow _ (lit≤ tt),
    record {
      within = lit< tt;
      begins = (codes "x", (large_goes_on, (large_goes_on_tokens, large_goes_on_are_tokens, large_goes_on_are_entries)));
      stray = λ b. no_large_space b.1.1.1;
    },
  );
  second_value = (
    short_is_shallow _ (lit≤ tt),
    record {
      within = lit< tt;
      begins = (codes "**)", (colon_goes_on, (colon_goes_on_tokens, comment_goes_on_are_tokens, colon_goes_on_are_entries)));
      stray = λ b. no_group_here b.1.1.1 b.1.1.2;
    },
  );
  maybe_comment = (
    short_is_shallow _ (lit≤ tt),
    record {
      all = refl;
      begins = (codes "**)", (colon_goes_on, (colon_goes_on_tokens, comment_goes_on_are_tokens, colon_goes_on_are_entries)));
      unfinished = λ d. no_group_end d.1.1 d.1.2;
    },
  );
  second_sign = (
    short_is_shallow _ (lit≤ tt),
    record {
      within = lit< tt;
      begins = (codes "+ c", (sign_goes_on, (sign_goes_on_tokens, sign_goes_on_are_tokens, sign_goes_on_are_entries)));
      stray = λ b. no_second_here b.1.1.1 b.1.1.2;
    },
  );
  twice = (short_is_shallow _ (lit≤ tt), (samples.doubled, (doubled_tokens, doubled_are_tokens, doubled_are_entries), refl));
  too_many_lists = too_many_lists;
}
