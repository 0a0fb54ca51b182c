-- Fields of a section, one after another.
use Rattle.std.proofs.Common.{◌≡◌, ◌≢◌, ℕ, ◌+◌, ◌≤◌, true, List, [], ◌∷◌, ◌++◌, map, refl, sym, subst, ap, ◌∙◌, arith, append_assoc, Result, Ok, Err}
use Rattle.std.specs.Result.{IsErrAnd}
use Rattle.syntax_trees.specs.declared.fault.ParseFault.{ParseFault}
use Rattle.syntax_trees.specs.declared.fault.ParseFault.TheVariants.{Memory}
use Rattle.syntax_trees.specs.declared.parsing.FieldsInside.{FieldsInside}
use Rattle.syntax_trees.specs.declared.entry.ReadField.{ReadField}
use Rattle.syntax_trees.specs.Read.{field_of, read_fields, read_places}
use Rattle.std.specs.declared.option.Option.TheVariants.{Some}
use Rattle.syntax_trees.specs.declared.queue.Sign.TheVariants as sign
use Rattle.syntax_trees.specs.declared.token.Token.TheVariants.{Plain, Colon, CloseBraces}
use Rattle.syntax_trees.specs.declared.tree.Span.{Span}
use Rattle.syntax_trees.specs.declared.tree.Node.{Node}
use Rattle.syntax_trees.specs.Tokens.{Placed, placed}
use Rattle.syntax_trees.specs.Grammar.{ValueLevel, Spells}
use Rattle.syntax_trees.specs.Files.{AreFields, no_field, field}
use Rattle.syntax_trees.specs.Nesting.{depth, most}
use Rattle.syntax_trees.specs.Parsing.{next_sign, stops}
use Rattle.syntax_trees.specs.ParsingEntries.{IsField, IsNoField, AreClosedFields, AreNoFields, ReadsFields}
use Rattle.syntax_trees.proofs.OneTree.{same}
use Rattle.syntax_trees.proofs.OneFile.{fields_stop, fields_too}

abbrev Field : Type 0
Field = List ℕ × Node

abbrev depths : List Field → List ℕ
depths = map (λ f. depth f.1)

-- what was parsed is the beginning of whatever fields there are
pub record FieldsSoFar (tokens : List Placed) (fields : List (List ℕ × Node)) (places : List ℕ) (now : List Placed) : Type 0 where
  pub goes_on : (more : List (List ℕ × Node)) (others : List ℕ) (rest : List Placed) → AreFields now more others rest
      → AreFields tokens (fields ++ more) (places ++ others) rest
  pub only : (all : List (List ℕ × Node)) (begins : List ℕ) (to : Span) (rest : List Placed) → AreFields tokens all begins (placed CloseBraces to ∷ rest)
      → (more : List (List ℕ × Node)) × (others : List ℕ) × (all ≡ fields ++ more) × (begins ≡ places ++ others)
      × AreFields now more others (placed CloseBraces to ∷ rest)
  pub shallow : 1 + most (map (λ f. depth f.1) fields) ≤ 64

pub fields_start : (tokens : List Placed) → FieldsSoFar tokens [] [] tokens
fields_start tokens = record {
  goes_on = λ more others rest p. p;
  only = λ all begins to rest p. (all, begins, refl, refl, p);
  shallow = omega arith;
}

deep_more : (fields : List Field) (f : Field) → 1 + most (depths fields) ≤ 64 → depth f.1 ≤ 63 → 1 + most (depths (fields ++ f ∷ [])) ≤ 64
deep_more [] f h k = omega arith
deep_more (d ∷ fields) f h k = let e = deep_more fields f (omega arith) k in omega arith

next_only : {name : List ℕ} {from at : Span} {more next : List Placed} {v : Node} → Spells ValueLevel more v next → stops ValueLevel next ≡ true
    → {all : List Field} {begins : List ℕ} {to : Span} {rest : List Placed}
    → AreFields (placed (Plain name) from ∷ placed Colon at ∷ more) all begins (placed CloseBraces to ∷ rest)
    → (others : List Field) × (places : List ℕ) × (all ≡ (name, v) ∷ others) × (begins ≡ from.start ∷ places)
    × AreFields next others places (placed CloseBraces to ∷ rest)
next_only {name = name} {from = from} p h (field {fields = others} {places = places} q t) =
    let e = same p h q (fields_stop t refl) in
    let head : Node → List Field = λ n. (name, n) ∷ others in
    (others, places, ap head (sym e.0), refl, fields_too e.1 t)

field_only : (now : List Placed) (name : List ℕ) (place : ℕ) (v : Node) (next : List Placed) → IsField 63 now name place v next
    → (all : List Field) (begins : List ℕ) (to : Span) (rest : List Placed) → AreFields now all begins (placed CloseBraces to ∷ rest)
    → (others : List Field) × (places : List ℕ) × (all ≡ (name, v) ∷ others) × (begins ≡ place ∷ places)
    × AreFields next others places (placed CloseBraces to ∷ rest)
field_only now name place v next f all begins to rest p =
    let a = next_only f.parsed.spelled f.parsed.stopped (subst (λ ts. AreFields ts all begins (placed CloseBraces to ∷ rest)) f.begins p) in
    (a.0, a.1, a.2, a.3 ∙ ap (λ n. n ∷ a.1) f.starts, a.4)

field_more : (now : List Placed) (name : List ℕ) (place : ℕ) (v : Node) (next : List Placed) → IsField 63 now name place v next
    → (more : List Field) (others : List ℕ) (rest : List Placed) → AreFields next more others rest
    → AreFields now ((name, v) ∷ more) (place ∷ others) rest
field_more now name place v next f more others rest p =
    subst (λ n. AreFields now ((name, v) ∷ more) (n ∷ others) rest) f.starts
    (subst (λ ts. AreFields ts ((name, v) ∷ more) (f.from.start ∷ others) rest) (sym f.begins) (field f.parsed.spelled p))

fields_listed : (fields : List ReadField) (f : ReadField) → read_fields (fields ++ f ∷ []) ≡ read_fields fields ++ field_of f ∷ []
fields_listed [] f = refl
fields_listed (d ∷ fields) f = ap (λ fs. field_of d ∷ fs) (fields_listed fields f)

places_listed : (fields : List ReadField) (f : ReadField) → read_places (fields ++ f ∷ []) ≡ read_places fields ++ f.place ∷ []
places_listed [] f = refl
places_listed (d ∷ fields) f = ap (λ ps. d.place ∷ ps) (places_listed fields f)

one_more : (tokens : List Placed) (fields : List (List ℕ × Node)) (places : List ℕ) (now : List Placed) (name : List ℕ) (place : ℕ) (v : Node)
    (next : List Placed) (listed : List (List ℕ × Node)) (begun : List ℕ) → FieldsSoFar tokens fields places now → IsField 63 now name place v next
    → listed ≡ fields ++ (name, v) ∷ [] → begun ≡ places ++ place ∷ [] → FieldsSoFar tokens listed begun next
one_more tokens fields places now name place v next listed begun s f d e = record {
  goes_on = λ more others rest p.
      let a = s.goes_on ((name, v) ∷ more) (place ∷ others) rest (field_more now name place v next f more others rest p) in
      let b = subst (λ fs. AreFields tokens fs (places ++ place ∷ others) rest)
      (sym (append_assoc fields ((name, v) ∷ []) more) ∙ ap (λ fs. fs ++ more) (sym d)) a in
      subst (λ ps. AreFields tokens (listed ++ more) ps rest)
      (sym (append_assoc places (place ∷ []) others) ∙ ap (λ ps. ps ++ others) (sym e)) b;
  only = λ all begins to rest p.
      let a = s.only all begins to rest p in
      let b = field_only now name place v next f a.0 a.1 to rest a.4 in (
        b.0,
        b.1,
        a.2 ∙ ap (λ fs. fields ++ fs) b.2 ∙ sym (append_assoc fields ((name, v) ∷ []) b.0) ∙ ap (λ fs. fs ++ b.0) (sym d),
        a.3 ∙ ap (λ ps. places ++ ps) b.3 ∙ sym (append_assoc places (place ∷ []) b.1) ∙ ap (λ ps. ps ++ b.1) (sym e),
        b.4,
      );
  shallow = subst (λ fs. 1 + most (depths fs) ≤ 64) (sym d) (deep_more fields (name, v) s.shallow f.parsed.shallow);
}

pub fields_step : (tokens : List Placed) (fields : List ReadField) (now : List Placed) (f : ReadField) (next : List Placed) (listed : List ReadField)
    → FieldsSoFar tokens (read_fields fields) (read_places fields) now → IsField 63 now f.name f.place f.value next → listed ≡ fields ++ f ∷ []
    → FieldsSoFar tokens (read_fields listed) (read_places listed) next
fields_step tokens fields now f next listed s p e =
    one_more tokens (read_fields fields) (read_places fields) now f.name f.place f.value next (read_fields listed) (read_places listed) s p
    (ap read_fields e ∙ fields_listed fields f) (ap read_places e ∙ places_listed fields f)

none_more : {A : Type 0} (xs : List A) → xs ++ [] ≡ xs
none_more [] = refl
none_more (x ∷ xs) = ap (λ ys. x ∷ ys) (none_more xs)

pub fields_end : (tokens : List Placed) (fields : List (List ℕ × Node)) (places : List ℕ) (now : List Placed) (to : Span) (rest : List Placed)
    → FieldsSoFar tokens fields places now → now ≡ placed CloseBraces to ∷ rest → AreClosedFields tokens fields places to rest
fields_end tokens fields places now to rest s e =
    let end = placed CloseBraces to ∷ rest in
    let a = s.goes_on [] [] end (subst (λ ts. AreFields ts [] [] end) (sym e) no_field) in
    let b = subst (λ fs. AreFields tokens fs (places ++ []) end) (none_more fields) a in
    record { spelled = subst (λ ps. AreFields tokens fields ps end) (none_more places) b; shallow = s.shallow }

next_none : {now : List Placed} → next_sign now ≢ Some sign.CloseBraces → IsNoField 63 now
    → {all : List Field} {begins : List ℕ} {end : List Placed} (to : Span) (rest : List Placed) → placed CloseBraces to ∷ rest ≡ end
    → AreFields now all begins end → most (depths all) ≤ 63 → ⊥
next_none h k to rest e no_field s = h (ap next_sign (sym e))
next_none h k {end = end} to rest e (field {name = name} {from = from} {at = at} {tokens = more} {between = between} {value = v} {fields = fields} {places = places} p q) s =
    let closed = subst (λ ts. AreFields between fields places ts) (sym e) q in
    k name from.start v between (record {
      from = from;
      at = at;
      more = more;
      starts = refl;
      begins = refl;
      parsed = record { spelled = p; stopped = fields_stop closed refl; shallow = omega arith };
    })

deep_later : (fields more all : List Field) → all ≡ fields ++ more → 1 + most (depths all) ≤ 64 → most (depths more) ≤ 63
deep_later [] more all e h = let f = subst (λ fs. 1 + most (depths fs) ≤ 64) e h in omega arith
deep_later (d ∷ fields) more all e h =
    let f : 1 + most (depths (d ∷ (fields ++ more))) ≤ 64 = subst (λ fs. 1 + most (depths fs) ≤ 64) e h in
    deep_later fields more (fields ++ more) refl (omega arith)

pub fields_refused : (tokens : List Placed) (fields : List (List ℕ × Node)) (places : List ℕ) (now : List Placed) → FieldsSoFar tokens fields places now
    → next_sign now ≢ Some sign.CloseBraces → IsNoField 63 now → AreNoFields tokens
fields_refused tokens fields places now s h k all begins to rest p =
    let a = s.only all begins to rest p.spelled in
    next_none h k to rest refl a.4 (deep_later fields a.0 all a.2 p.shallow)

-- a fault that is passed on
pub no_fields_read : (tokens rest : List Placed) (r : Result FieldsInside ParseFault) (fault : ParseFault) → IsErrAnd r (λ f. f ≡ fault)
    → (fault ≢ Memory → AreNoFields tokens) → ReadsFields tokens r rest
no_fields_read tokens rest (Ok inside) fault e h = absurd e
no_fields_read tokens rest (Err f) fault e h = λ k. h (λ g. k (e ∙ g))

pub no_field_at : {allowed : ℕ} {tokens others : List Placed} → tokens ≡ others → IsNoField allowed tokens → IsNoField allowed others
no_field_at {allowed} e h = subst (λ ts. IsNoField allowed ts) e h

pub field_at : {allowed : ℕ} {tokens others rest : List Placed} {name : List ℕ} {place : ℕ} {v : Node} → tokens ≡ others
    → IsField allowed tokens name place v rest → IsField allowed others name place v rest
field_at {allowed} {rest = rest} {name = name} {place = place} {v = v} e h = subst (λ ts. IsField allowed ts name place v rest) e h
