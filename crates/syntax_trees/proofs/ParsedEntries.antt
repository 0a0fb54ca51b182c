-- Entries of a file, one after another.
use Rattle.std.proofs.Common.{◌≡◌, ◌≢◌, ℕ, ◌<◌, ◌≤◌, true, List, [], ◌∷◌, ◌++◌, map, length, refl, sym, subst, ap, ◌∙◌, arith, append_assoc, Result, Ok, Err}
use Rattle.std.specs.declared.option.Option.{Option}
use Rattle.std.specs.declared.option.Option.TheVariants.{None, Some}
use Rattle.std.specs.Result.{IsErrAnd, IfErr}
use Rattle.syntax_trees.specs.declared.entry.ReadEntry.{ReadEntry}
use Rattle.syntax_trees.specs.declared.fault.ParseFault.{ParseFault}
use Rattle.syntax_trees.specs.declared.fault.ParseFault.TheVariants.{Memory}
use Rattle.syntax_trees.specs.declared.queue.Sign.TheVariants as sign
use Rattle.syntax_trees.specs.declared.token.Token.TheVariants.{Plain, Text, Colon, OpenBraces, CloseBraces}
use Rattle.syntax_trees.specs.declared.tree.Span.{Span}
use Rattle.syntax_trees.specs.declared.tree.Node.{Node}
use Rattle.syntax_trees.specs.Tokens.{Placed, placed}
use Rattle.syntax_trees.specs.Grammar.{ValueLevel, Spells}
use Rattle.syntax_trees.specs.Files.{Entry, field_entry, section_entry, AreFields, AreEntries, no_entry, field_next, section_next, labelled_next}
use Rattle.syntax_trees.specs.Nesting.{most, contents_depth, AreShallow}
use Rattle.syntax_trees.specs.Read.{entry_of, read_entries}
use Rattle.syntax_trees.specs.Parsing.{next_sign, stops, IsParsed, IsRefused}
use Rattle.syntax_trees.specs.ParsingEntries.{next_text, TakesText, MakesEntry, ReadsEntry, AreClosedFields, AreNoFields, IsEntry, IsNoEntry, HasNoShallow}
use Rattle.syntax_trees.proofs.OneTree.{same}
use Rattle.syntax_trees.proofs.OneFile.{entries_stop, entries_too, same_fields, same_section_next, after_section}

-- a field

field_only : {word : List ℕ} {from at : Span} {more rest : List Placed} {v : Node} → Spells ValueLevel more v rest → stops ValueLevel rest ≡ true
    → {all : List Entry} → AreEntries (placed (Plain word) from ∷ placed Colon at ∷ more) all
    → (others : List Entry) × (all ≡ field_entry word from v ∷ others) × AreEntries rest others
field_only {word = word} {from = from} p h (field_next {entries = others} q t) =
    let e = same p h q (entries_stop t) in
    (others, ap (λ n. field_entry word from n ∷ others) (sym e.0), entries_too e.1 t)

pub field_is_entry : (word : List ℕ) (from at : Span) (more rest : List Placed) (v : Node) → IsParsed ValueLevel 64 more v rest
    → IsEntry (placed (Plain word) from ∷ placed Colon at ∷ more) (field_entry word from v) rest
field_is_entry word from at more rest v p = record {
  leads = λ entries q. field_next p.spelled q;
  only = λ all q. field_only p.spelled p.stopped q;
  shallow = p.shallow;
}

field_none : {word : List ℕ} {from at : Span} {more : List Placed} → IsRefused ValueLevel 64 more → {e : Entry} {others : List Entry}
    → AreEntries (placed (Plain word) from ∷ placed Colon at ∷ more) (e ∷ others) → contents_depth e.contents ≤ 64 → ⊥
field_none h (field_next p q) s = h _ _ (record { spelled = p; stopped = entries_stop q; shallow = s })

pub no_value_no_entry : (word : List ℕ) (from at : Span) (more : List Placed) → IsRefused ValueLevel 64 more
    → IsNoEntry (placed (Plain word) from ∷ placed Colon at ∷ more)
no_value_no_entry word from at more h e others p s = field_none h p s

nameless : {tokens : List Placed} {all : List Entry} {e : Entry} {others : List Entry} → all ≡ e ∷ others
    → ((name : List ℕ) (at : Span) (more : List Placed) → tokens ≢ placed (Plain name) at ∷ more) → AreEntries tokens all → ⊥
nameless d h no_entry = cc
nameless d h (field_next {name = name} {from = from} p q) = h name from _ refl
nameless d h (section_next {name = name} {from = from} p q) = h name from _ refl
nameless d h (labelled_next {name = name} {from = from} p q) = h name from _ refl

pub no_name_no_entry : (tokens : List Placed) → ((name : List ℕ) (at : Span) (more : List Placed) → tokens ≢ placed (Plain name) at ∷ more)
    → IsNoEntry tokens
no_name_no_entry tokens h e others p s = nameless refl h p

-- a section

section_only : {word : List ℕ} {from at to : Span} {inner rest : List Placed} {fields : List (List ℕ × Node)} {places : List ℕ}
    → AreFields inner fields places (placed CloseBraces to ∷ rest) → {all : List Entry}
    → AreEntries (placed (Plain word) from ∷ placed OpenBraces at ∷ inner) all
    → (others : List Entry) × (all ≡ section_entry word None from fields places to ∷ others) × AreEntries rest others
section_only {word = word} {from = from} p (section_next {entries = others} q t) =
    let e = same_fields p refl q refl in
    (others, sym (same_section_next word None from e refl), entries_too (after_section e) t)

labelled_only : {word label : List ℕ} {from by at to : Span} {inner rest : List Placed} {fields : List (List ℕ × Node)} {places : List ℕ}
    → AreFields inner fields places (placed CloseBraces to ∷ rest) → {all : List Entry}
    → AreEntries (placed (Plain word) from ∷ placed (Text label) by ∷ placed OpenBraces at ∷ inner) all
    → (others : List Entry) × (all ≡ section_entry word (Some label) from fields places to ∷ others) × AreEntries rest others
labelled_only {word = word} {label = label} {from = from} p (labelled_next {entries = others} q t) =
    let e = same_fields p refl q refl in
    (others, sym (same_section_next word (Some label) from e refl), entries_too (after_section e) t)

pub section_is_entry : (word : List ℕ) (from at to : Span) (inner rest : List Placed) (fields : List (List ℕ × Node)) (places : List ℕ)
    → AreClosedFields inner fields places to rest
    → IsEntry (placed (Plain word) from ∷ placed OpenBraces at ∷ inner) (section_entry word None from fields places to) rest
section_is_entry word from at to inner rest fields places p = record {
  leads = λ entries q. section_next p.spelled q;
  only = λ all q. section_only p.spelled q;
  shallow = p.shallow;
}

pub labelled_is_entry : (word label : List ℕ) (from by at to : Span) (inner rest : List Placed) (fields : List (List ℕ × Node)) (places : List ℕ)
    → AreClosedFields inner fields places to rest
    → IsEntry (placed (Plain word) from ∷ placed (Text label) by ∷ placed OpenBraces at ∷ inner)
    (section_entry word (Some label) from fields places to) rest
labelled_is_entry word label from by at to inner rest fields places p = record {
  leads = λ entries q. labelled_next p.spelled q;
  only = λ all q. labelled_only p.spelled q;
  shallow = p.shallow;
}

section_none : {word : List ℕ} {from at : Span} {inner : List Placed} → AreNoFields inner → {e : Entry} {others : List Entry}
    → AreEntries (placed (Plain word) from ∷ placed OpenBraces at ∷ inner) (e ∷ others) → contents_depth e.contents ≤ 64 → ⊥
section_none h (section_next {to = to} {between = rest} {fields = fields} {places = places} p q) s =
    h fields places to rest (record { spelled = p; shallow = s })

labelled_none : {word label : List ℕ} {from by at : Span} {inner : List Placed} → AreNoFields inner → {e : Entry} {others : List Entry}
    → AreEntries (placed (Plain word) from ∷ placed (Text label) by ∷ placed OpenBraces at ∷ inner) (e ∷ others)
    → contents_depth e.contents ≤ 64 → ⊥
labelled_none h (labelled_next {to = to} {between = rest} {fields = fields} {places = places} p q) s =
    h fields places to rest (record { spelled = p; shallow = s })

pub no_fields_no_entry : (word : List ℕ) (from at : Span) (inner : List Placed) → AreNoFields inner
    → IsNoEntry (placed (Plain word) from ∷ placed OpenBraces at ∷ inner)
no_fields_no_entry word from at inner h e others p s = section_none h p s

pub no_fields_no_labelled : (word label : List ℕ) (from by at : Span) (inner : List Placed) → AreNoFields inner
    → IsNoEntry (placed (Plain word) from ∷ placed (Text label) by ∷ placed OpenBraces at ∷ inner)
no_fields_no_labelled word label from by at inner h e others p s = labelled_none h p s

-- after a name, no colon, no text and no brace
after_name : {word : List ℕ} {from : Span} {next : List Placed} → next_sign next ≢ Some sign.Colon → next_text next ≡ None
    → next_sign next ≢ Some sign.OpenBraces → {e : Entry} {others : List Entry} → AreEntries (placed (Plain word) from ∷ next) (e ∷ others) → ⊥
after_name h k l (field_next p q) = h refl
after_name h k l (section_next p q) = l refl
after_name h k l (labelled_next p q) = cc

pub no_section_no_entry : (word : List ℕ) (from : Span) (next : List Placed) → next_sign next ≢ Some sign.Colon → next_text next ≡ None
    → next_sign next ≢ Some sign.OpenBraces → IsNoEntry (placed (Plain word) from ∷ next)
no_section_no_entry word from next h k l e others p s = after_name h k l p

after_label : {word label : List ℕ} {from by : Span} {next : List Placed} → next_sign next ≢ Some sign.OpenBraces → {e : Entry} {others : List Entry}
    → AreEntries (placed (Plain word) from ∷ placed (Text label) by ∷ next) (e ∷ others) → ⊥
after_label h (labelled_next p q) = h refl

pub no_brace_no_entry : (word label : List ℕ) (from by : Span) (next : List Placed) → next_sign next ≢ Some sign.OpenBraces
    → IsNoEntry (placed (Plain word) from ∷ placed (Text label) by ∷ next)
no_brace_no_entry word label from by next h e others p s = after_label h p

-- what is read, as the functions say it

pub no_entry_read : (tokens rest : List Placed) (r : Result ReadEntry ParseFault) (fault : ParseFault) → IsErrAnd r (λ f. f ≡ fault)
    → (fault ≢ Memory → IsNoEntry tokens) → ReadsEntry tokens r rest
no_entry_read tokens rest (Ok e) fault f h = absurd f
no_entry_read tokens rest (Err g) fault f h = λ k. h (λ d. k (f ∙ d))

pub entry_read_at : (tokens others rest : List Placed) (r : Result ReadEntry ParseFault) → tokens ≡ others → ReadsEntry tokens r rest → ReadsEntry others r rest
entry_read_at tokens others rest r e p = subst (λ ts. ReadsEntry ts r rest) e p

pub entry_at : {tokens others rest : List Placed} {e d : Entry} → tokens ≡ others → d ≡ e → IsEntry tokens e rest → IsEntry others d rest
entry_at {tokens} {others} {rest} {e} {d} f g p = subst (λ x. IsEntry others x rest) (sym g) (subst (λ ts. IsEntry ts e rest) f p)

pub none_at : {tokens others : List Placed} → tokens ≡ others → IsNoEntry tokens → IsNoEntry others
none_at e h = subst IsNoEntry e h

section_at : (word : List ℕ) (from at to : Span) (tokens next inner rest : List Placed) (text : Option (List ℕ)) (fields : List (List ℕ × Node))
    (places : List ℕ) → TakesText tokens text next → next ≡ placed OpenBraces at ∷ inner → AreClosedFields inner fields places to rest
    → IsEntry (placed (Plain word) from ∷ tokens) (section_entry word text from fields places to) rest
section_at word from at to tokens next inner rest None fields places t e p =
    entry_at (ap (λ ts. placed (Plain word) from ∷ ts) (sym e ∙ t.0)) refl (section_is_entry word from at to inner rest fields places p)
section_at word from at to tokens next inner rest (Some label) fields places t e p =
    entry_at (ap (λ ts. placed (Plain word) from ∷ placed (Text label) t.0 ∷ ts) (sym e) ∙ ap (λ ts. placed (Plain word) from ∷ ts) (sym t.1)) refl
    (labelled_is_entry word label from t.0 at to inner rest fields places p)

pub section_read : (word : List ℕ) (from at to : Span) (tokens next inner rest : List Placed) (text : Option (List ℕ)) (fields : List (List ℕ × Node))
    (places : List ℕ) (r : Result ReadEntry ParseFault) → TakesText tokens text next → next ≡ placed OpenBraces at ∷ inner
    → AreClosedFields inner fields places to rest → MakesEntry (section_entry word text from fields places to) r
    → ReadsEntry (placed (Plain word) from ∷ tokens) r rest
section_read word from at to tokens next inner rest text fields places (Ok e) t f p m =
    entry_at refl m (section_at word from at to tokens next inner rest text fields places t f p)
section_read word from at to tokens next inner rest text fields places (Err g) t f p m = λ k. absurd (k m)

-- a name, and then no section
pub inside_missing : (word : List ℕ) (from at : Span) (tokens next inner : List Placed) (text : Option (List ℕ)) → TakesText tokens text next
    → next ≡ placed OpenBraces at ∷ inner → AreNoFields inner → IsNoEntry (placed (Plain word) from ∷ tokens)
inside_missing word from at tokens next inner None t e h =
    none_at (ap (λ ts. placed (Plain word) from ∷ ts) (sym e ∙ t.0)) (no_fields_no_entry word from at inner h)
inside_missing word from at tokens next inner (Some label) t e h =
    none_at (ap (λ ts. placed (Plain word) from ∷ placed (Text label) t.0 ∷ ts) (sym e) ∙ ap (λ ts. placed (Plain word) from ∷ ts) (sym t.1))
    (no_fields_no_labelled word label from t.0 at inner h)

pub brace_missing : (word : List ℕ) (from : Span) (tokens next : List Placed) (text : Option (List ℕ)) → TakesText tokens text next
    → next_sign next ≢ Some sign.OpenBraces → next_sign tokens ≢ Some sign.Colon → IsNoEntry (placed (Plain word) from ∷ tokens)
brace_missing word from tokens next None t h k =
    no_section_no_entry word from tokens k t.1 (λ e. h (ap next_sign t.0 ∙ e))
brace_missing word from tokens next (Some label) t h k =
    none_at (ap (λ ts. placed (Plain word) from ∷ ts) (sym t.1)) (no_brace_no_entry word label from t.0 next h)

-- the list of them

abbrev depths : List Entry → List ℕ
depths = map (λ e. contents_depth e.contents)

pub record EntriesSoFar (tokens : List Placed) (done : List Entry) (now : List Placed) : Type 0 where
  pub goes_on : (more : List Entry) → AreEntries now more → AreEntries tokens (done ++ more)
  pub only : (all : List Entry) → AreEntries tokens all → (more : List Entry) × (all ≡ done ++ more) × AreEntries now more
  pub shallow : most (map (λ e. contents_depth e.contents) done) ≤ 64

pub entries_start : (tokens : List Placed) → EntriesSoFar tokens [] tokens
entries_start tokens = record { goes_on = λ more p. p; only = λ all p. (all, refl, p); shallow = omega arith }

deep_more : (done : List Entry) (e : Entry) → most (depths done) ≤ 64 → contents_depth e.contents ≤ 64 → most (depths (done ++ e ∷ [])) ≤ 64
deep_more [] e h k = omega arith
deep_more (d ∷ done) e h k = let f = deep_more done e (omega arith) k in omega arith

pub entries_step : (tokens : List Placed) (done : List Entry) (now : List Placed) (e : Entry) (next : List Placed) (listed : List Entry)
    → EntriesSoFar tokens done now → IsEntry now e next → listed ≡ done ++ e ∷ [] → EntriesSoFar tokens listed next
entries_step tokens done now e next listed s p d = record {
  goes_on = λ more q.
      subst (λ es. AreEntries tokens es) (sym (append_assoc done (e ∷ []) more) ∙ ap (λ es. es ++ more) (sym d)) (s.goes_on (e ∷ more) (p.leads more q));
  only = λ all q.
      let a = s.only all q in
      let b = p.only a.0 a.2 in
      (b.0, a.1 ∙ ap (λ es. done ++ es) b.1 ∙ sym (append_assoc done (e ∷ []) b.0) ∙ ap (λ es. es ++ b.0) (sym d), b.2);
  shallow = subst (λ es. most (depths es) ≤ 64) (sym d) (deep_more done e s.shallow p.shallow);
}

none_more : {A : Type 0} (xs : List A) → xs ++ [] ≡ xs
none_more [] = refl
none_more (x ∷ xs) = ap (λ ys. x ∷ ys) (none_more xs)

pub entries_end : (tokens : List Placed) (done : List Entry) (now : List Placed) → EntriesSoFar tokens done now → now ≡ [] → AreEntries tokens done
entries_end tokens done now s e =
    subst (λ es. AreEntries tokens es) (none_more done) (s.goes_on [] (subst (λ ts. AreEntries ts []) (sym e) no_entry))

pub entries_shallow : (tokens : List Placed) (done : List Entry) (now : List Placed) → EntriesSoFar tokens done now → AreShallow done
entries_shallow tokens done now s = s.shallow

no_tokens : {x : Placed} {xs ts : List Placed} {es : List Entry} → AreEntries ts es → ts ≡ x ∷ xs → es ≡ [] → ⊥
no_tokens no_entry e d = cc
no_tokens (field_next p q) e d = cc
no_tokens (section_next p q) e d = cc
no_tokens (labelled_next p q) e d = cc

some_entry : (now : List Placed) → now ≢ [] → IsNoEntry now → (all : List Entry) → AreEntries now all → most (depths all) ≤ 64 → ⊥
some_entry [] h k all p s = h refl
some_entry (t ∷ now) h k (e ∷ all) p s = k e all p (omega arith)
some_entry (t ∷ now) h k [] p s = absurd (no_tokens p refl refl)

deep_later : (done more all : List Entry) → all ≡ done ++ more → most (depths all) ≤ 64 → most (depths more) ≤ 64
deep_later [] more all e h = subst (λ es. most (depths es) ≤ 64) e h
deep_later (d ∷ done) more all e h =
    let f : most (depths (d ∷ (done ++ more))) ≤ 64 = subst (λ es. most (depths es) ≤ 64) e h in
    deep_later done more (done ++ more) refl (omega arith)

pub entries_refused : (tokens : List Placed) (done : List Entry) (now : List Placed) → EntriesSoFar tokens done now → now ≢ [] → IsNoEntry now
    → HasNoShallow tokens
entries_refused tokens done now s h k all p q =
    let a = s.only all p in some_entry now h k a.0 a.2 (deep_later done a.0 all a.1 q)

pub entries_listed : (entries : List ReadEntry) (e : ReadEntry) → read_entries (entries ++ e ∷ []) ≡ read_entries entries ++ entry_of e ∷ []
entries_listed [] e = refl
entries_listed (d ∷ entries) e = ap (λ es. entry_of d ∷ es) (entries_listed entries e)

pub none_shallow : (tokens : List Placed) (A : Type 0) (r : Result A ParseFault) (fault : ParseFault) → IsErrAnd r (λ f. f ≡ fault)
    → (fault ≢ Memory → HasNoShallow tokens) → IfErr r (λ f. f ≢ Memory → HasNoShallow tokens)
none_shallow tokens A (Ok x) fault e h = absurd e
none_shallow tokens A (Err f) fault e h = λ k. h (λ g. k (e ∙ g))

pub some_left : (tokens : List Placed) → 0 < length tokens → tokens ≢ []
some_left [] l e = absurd (omega arith)
some_left (t ∷ tokens) l e = cc

pub none_left : (tokens : List Placed) → length tokens ≤ 0 → tokens ≡ []
none_left [] l = refl
none_left (t ∷ tokens) l = absurd (omega arith)
