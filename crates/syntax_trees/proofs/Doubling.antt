-- A doubled name is found with the names of each section apart, since sections begin at places of their own.
use Rattle.std.proofs.Common.{◌≡◌, ℕ, ◌≤◌, ◌+◌, ◌-◌, Bool, true, false, ◌&&◌, ◌||◌, List, [], ◌∷◌, ◌++◌, length, if◌then◌else◌, refl, sym, ap, ◌∙◌, arith}
use Rattle.std.specs.Prelude.{bytes_eq}
use Rattle.std.specs.List.{list_any}
use Rattle.std.proofs.lemmas.Bool.{eq-eqb}
use Rattle.std.proofs.lemmas.List.Folds.{list_any-append}
use Rattle.std.specs.declared.option.Option.{Option}
use Rattle.std.specs.declared.option.Option.TheVariants.{Some}
use Rattle.syntax_trees.specs.declared.entry.ReadContents.{ReadContents}
use Rattle.syntax_trees.specs.declared.entry.ReadContents.TheVariants.{Field, Section}
use Rattle.syntax_trees.specs.declared.entry.ReadEntry.{ReadEntry}
use Rattle.syntax_trees.specs.declared.entry.ReadField.{ReadField}
use Rattle.syntax_trees.specs.declared.file.Key.{Key}
use Rattle.syntax_trees.specs.Assembly.{fields_twice, contents_twice, entries_twice}
use Rattle.syntax_trees.specs.Doubles.{Name, ItemName, FieldName, key_eq, name_eq, field_names, inner_names, names, first_doubled, doubled_at}
use Rattle.syntax_trees.specs.Files.{Entry, AreEntries, no_entry, field_next, section_next, labelled_next}
use Rattle.syntax_trees.specs.Nesting.{first_of}
use Rattle.syntax_trees.specs.Read.{read_fields, read_places, read_contents, contents_places, read_entries}
use Rattle.syntax_trees.specs.Tokens.{Placed, AreTokens}
use Rattle.syntax_trees.proofs.SingleNames.{fields_end, other_section}
use Rattle.syntax_trees.proofs.Spanned.{InOrder, in_order, lies}

-- items stand one after another from this place on
abbrev pub Rises : ℕ → List Entry → Type 0
Rises place [] = Unit {0}
Rises place (entry ∷ entries) = (place ≤ entry.span.start) × Rises (entry.span.start + 1) entries

rises_sooner : (m n : ℕ) (entries : List Entry) → m ≤ n → Rises n entries → Rises m entries
rises_sooner m n [] l r = tt
rises_sooner m n (entry ∷ entries) l r = let a = r.0 in (omega arith, r.1)

pub rises : {tokens : List Placed} {entries : List Entry} → AreEntries tokens entries → (total place : ℕ) → InOrder total place tokens → Rises place entries
rises no_entry total place o = tt
rises (field_next {from = from} {at = at} {value = v} {entries = entries} q s) total place o =
    let a = lies q total at.end o.2.2 in
    let d = o.1 in let f = o.2.0 in let g = o.2.1 in let h = a.from in let i = a.some in
    (o.0, rises_sooner (from.start + 1) v.span.end entries (omega arith) (rises s total v.span.end a.after))
rises (section_next {from = from} {at = at} {to = to} {entries = entries} q s) total place o =
    let z = fields_end q total at.end o.2.2 in
    let d = o.1 in let f = o.2.0 in let g = o.2.1 in let h = z.1 in let i = z.2.0 in let j = z.2.1 in
    (o.0, rises_sooner (from.start + 1) to.end entries (omega arith) (rises s total to.end z.2.2))
rises (labelled_next {from = from} {by = by} {at = at} {to = to} {entries = entries} q s) total place o =
    let z = fields_end q total at.end o.2.2.2 in
    let d = o.1 in let f = o.2.0 in let g = o.2.1 in let u = o.2.2.0 in let w = o.2.2.1 in let h = z.1 in let i = z.2.0 in let j = z.2.1 in
    (o.0, rises_sooner (from.start + 1) to.end entries (omega arith) (rises s total to.end z.2.2))

-- the names of a section, and then others
record Passes (section : ℕ) (before : List Name) (listed : List (Name × ℕ)) (found : Option ℕ) (rest : List (Name × ℕ)) : Type 0 where
  later : List Name
  goes_on : first_doubled before (listed ++ rest) ≡ first_of found (first_doubled later rest)
  keys : (k : Key) → list_any (name_eq (ItemName k)) later ≡ list_any (name_eq (ItemName k)) before
  none : (s : ℕ) (n : List ℕ) → section + 1 ≤ s → list_any (name_eq (FieldName s n)) later ≡ list_any (name_eq (FieldName s n)) before

found_or : (c : Bool) (place : ℕ) (x y z : Option ℕ) → x ≡ first_of y z → (if c then Some place else x) ≡ first_of (if c then Some place else y) z
found_or true place x y z e = refl
found_or false place x y z e = e

last_or : (x y z : Bool) → y ≡ z → (x || y) ≡ (z || (x || false))
last_or true true z e = ap (λ b. b || true) e
last_or true false false e = refl
last_or true false true e = absurd cc
last_or false y true e = e
last_or false y false e = e

one_more : (p : List ℕ → Bool) (n : List ℕ) (seen : List (List ℕ)) (x y : Bool) → x ≡ p n → y ≡ list_any p seen → (x || y) ≡ list_any p (seen ++ n ∷ [])
one_more p n seen x y e f = ap (λ b. b || y) e ∙ last_or (p n) y (list_any p seen) f ∙ sym (list_any-append p seen (n ∷ []))

one_key_more : (p : Key → Bool) (k : Key) (seen : List Key) (x y : Bool) → x ≡ p k → y ≡ list_any p seen → (x || y) ≡ list_any p (seen ++ k ∷ [])
one_key_more p k seen x y e f = ap (λ b. b || y) e ∙ last_or (p k) y (list_any p seen) f ∙ sym (list_any-append p seen (k ∷ []))

in_one_section : (section : ℕ) (n m : List ℕ) → name_eq (FieldName section n) (FieldName section m) ≡ bytes_eq n m
in_one_section section n m = ap (λ b. b && bytes_eq n m) (eq-eqb section section refl)

fields_pass : (fields : List ReadField) (section : ℕ) (seen : List (List ℕ)) (before : List Name) (rest : List (Name × ℕ))
    → ((n : List ℕ) → list_any (name_eq (FieldName section n)) before ≡ list_any (bytes_eq n) seen)
    → Passes section before (field_names section (read_fields fields) (read_places fields)) (fields_twice seen fields) rest
fields_pass [] section seen before rest same = record { later = before; goes_on = refl; keys = λ k. refl; none = λ s n l. refl }
fields_pass (f ∷ fields) section seen before rest same =
    let more = fields_pass fields section (seen ++ f.name ∷ []) (FieldName section f.name ∷ before) rest
    (λ n. one_more (bytes_eq n) f.name seen _ _ (in_one_section section n f.name) (same n)) in
    let others = first_doubled (FieldName section f.name ∷ before) (field_names section (read_fields fields) (read_places fields) ++ rest) in
    record {
      later = more.later;
      goes_on = ap (λ c. if c then Some f.place else others) (same f.name) ∙ found_or (list_any (bytes_eq f.name) seen) f.place _ _ _ more.goes_on;
      keys = more.keys;
      none = λ s n l. more.none s n l ∙ ap (λ b. b || list_any (name_eq (FieldName s n)) before) (other_section s section n f.name l);
    }

contents_pass : (contents : ReadContents) (section : ℕ) (before : List Name) (rest : List (Name × ℕ))
    → ((n : List ℕ) → list_any (name_eq (FieldName section n)) before ≡ false)
    → Passes section before (inner_names section (read_contents contents) (contents_places contents)) (contents_twice contents) rest
contents_pass (Field v) section before rest none = record { later = before; goes_on = refl; keys = λ k. refl; none = λ s n l. refl }
contents_pass (Section fields) section before rest none = fields_pass fields section [] before rest none

pub entries_pass : (entries : List ReadEntry) (place : ℕ) → Rises place (read_entries entries) → (keys : List Key) (before : List Name)
    → ((k : Key) → list_any (name_eq (ItemName k)) before ≡ list_any (key_eq k) keys)
    → ((s : ℕ) (n : List ℕ) → place ≤ s → list_any (name_eq (FieldName s n)) before ≡ false)
    → first_doubled before (names (read_entries entries)) ≡ entries_twice keys entries
entries_pass [] place r keys before same none = refl
entries_pass (e ∷ entries) place r keys before same none =
    let start = e.span.start in
    let l : place ≤ start = r.0 in
    let p = contents_pass e.contents start (ItemName e.key ∷ before) (names (read_entries entries)) (λ n. none start n l) in
    let more = entries_pass entries (start + 1) r.1 (keys ++ e.key ∷ []) p.later
    (λ k. p.keys k ∙ one_key_more (key_eq k) e.key keys _ _ refl (same k)) (λ s n m. p.none s n m ∙ none s n (omega arith)) in
    let others = first_doubled (ItemName e.key ∷ before) (inner_names start (read_contents e.contents) (contents_places e.contents) ++ names (read_entries entries)) in
    ap (λ c. if c then Some start else others) (same e.key)
    ∙ ap (λ x. if list_any (key_eq e.key) keys then Some start else x) (p.goes_on ∙ ap (first_of (contents_twice e.contents)) more)

-- what is found is the first doubled name
pub twice_is_doubled : (bytes : List ℕ) (tokens : List Placed) (entries : List ReadEntry) → AreTokens (length bytes) bytes tokens
    → AreEntries tokens (read_entries entries) → doubled_at (read_entries entries) ≡ entries_twice [] entries
twice_is_doubled bytes tokens entries p q =
    let total = length bytes in
    let o : InOrder total (total - total) tokens = in_order p (omega arith) in
    entries_pass entries (total - total) (rises q total (total - total) o) [] [] (λ k. refl) (λ s n l. refl)
