-- Whether a name comes twice is told by the keys and the names alone, wherever they stand.
use Rattle.std.proofs.Common.{◌≡◌, ℕ, ◌≤◌, ◌+◌, Bool, true, false, not, ◌&&◌, ◌||◌, ◌==◌, List, [], ◌∷◌, ◌++◌, if◌then◌else◌, refl, sym, ◌∙◌, arith}
use Rattle.std.specs.Prelude.{bytes_eq}
use Rattle.std.specs.List.{list_any}
use Rattle.std.proofs.lemmas.Bool.{eq-eqb, ne_eqb}
use Rattle.std.specs.declared.option.Option.TheVariants.{None, Some}
use Rattle.opam_names.proofs.Bytes.{both_left, both_right}
use Rattle.syntax_trees.specs.declared.file.Key.{Key}
use Rattle.syntax_trees.specs.declared.tree.Node.{Node}
use Rattle.syntax_trees.specs.Tokens.{Placed}
use Rattle.syntax_trees.specs.Files.{Contents, FieldContents, SectionContents, Entry, AreFields, no_field, field, AreEntries, no_entry, field_next, section_next, labelled_next}
use Rattle.syntax_trees.specs.Doubles.{Name, ItemName, FieldName, key_eq, name_eq, field_names, names, first_doubled}
use Rattle.syntax_trees.specs.Trees.{told_items}
use Rattle.syntax_trees.proofs.WordsAgain.{skip}
use Rattle.syntax_trees.proofs.Spanned.{InOrder, both, lies}

abbrev pub names_of : List (List ℕ × Node) → List (List ℕ)
names_of [] = []
names_of (f ∷ fields) = f.0 ∷ names_of fields

abbrev pub inner_names_of : Contents → List (List ℕ)
inner_names_of (FieldContents v) = []
inner_names_of (SectionContents fields) = names_of fields

-- no name comes twice, nor is it among those before
abbrev pub names_free : List (List ℕ) → List (List ℕ) → Bool
names_free seen [] = true
names_free seen (n ∷ ns) = not (list_any (bytes_eq n) seen) && names_free (n ∷ seen) ns

abbrev pub items_free : List Key → List (Key × Contents) → Bool
items_free keys [] = true
items_free keys (item ∷ items) = not (list_any (key_eq item.0) keys) && (names_free [] (inner_names_of item.1) && items_free (item.0 ∷ keys) items)

-- a name that is not doubled, and then others
passed : (before : List Name) (n : Name × ℕ) (more : List (Name × ℕ)) → first_doubled before (n ∷ more) ≡ None
    → (list_any (name_eq n.0) before ≡ false) × (first_doubled (n.0 ∷ before) more ≡ None)
passed before n more e = split (list_any (name_eq n.0) before) e
  where
    split : (c : Bool) → (if c then Some n.1 else first_doubled (n.0 ∷ before) more) ≡ None → (c ≡ false) × (first_doubled (n.0 ∷ before) more ≡ None)
    split true e = absurd cc
    split false e = (refl, e)

not_any : (c d : Bool) → (c ≡ true → d ≡ true) → d ≡ false → not c ≡ true
not_any false d f e = refl
not_any true d f e = absurd (let g = sym (f refl) ∙ e in cc)

none_of : (c d : Bool) → (d ≡ true → c ≡ true) → not c ≡ true → d ≡ false
none_of c false f e = refl
none_of true true f e = absurd cc
none_of false true f e = absurd (let g = f refl in cc)

or_cases : (x y z w : Bool) → (x ≡ true → z ≡ true) → (y ≡ true → w ≡ true) → (x || y) ≡ true → (z || w) ≡ true
or_cases true y true w f g h = refl
or_cases true y false w f g h = absurd (let k = f refl in cc)
or_cases false y true w f g h = refl
or_cases false y false w f g h = g h

-- the keys are among the names before
abbrev pub KeysAmong : List Key → List Name → Type 0
KeysAmong keys before = (k : Key) → list_any (key_eq k) keys ≡ true → list_any (name_eq (ItemName k)) before ≡ true

abbrev NamesAmong : ℕ → List (List ℕ) → List Name → Type 0
NamesAmong section seen before = (n : List ℕ) → list_any (bytes_eq n) seen ≡ true → list_any (name_eq (FieldName section n)) before ≡ true

record FieldsFree (fields : List (List ℕ × Node)) (seen : List (List ℕ)) (keys : List Key) (rest : List (Name × ℕ)) : Type 0 where
  free : names_free seen (names_of fields) ≡ true
  before : List Name
  after : first_doubled before rest ≡ None
  keeps : KeysAmong keys before

in_section : (section : ℕ) (n m : List ℕ) → bytes_eq n m ≡ true → name_eq (FieldName section n) (FieldName section m) ≡ true
in_section section n m e = both (section == section) (bytes_eq n m) (eq-eqb section section refl) e

fields_free : {tokens : List Placed} {fields : List (List ℕ × Node)} {places : List ℕ} {left : List Placed} → AreFields tokens fields places left
    → (section : ℕ) (seen : List (List ℕ)) (before : List Name) (keys : List Key) (rest : List (Name × ℕ))
    → NamesAmong section seen before → KeysAmong keys before → first_doubled before (field_names section fields places ++ rest) ≡ None → FieldsFree fields seen keys rest
fields_free no_field section seen before keys rest a b e = record { free = refl; before = before; after = e; keeps = b }
fields_free (field {name = name} {from = from} {fields = fields} {places = places} q s) section seen before keys rest a b e =
    let p = passed before (FieldName section name, from.start) (field_names section fields places ++ rest) e in
    let more = fields_free s section (name ∷ seen) (FieldName section name ∷ before) keys rest
    (λ n h. or_cases (bytes_eq n name) (list_any (bytes_eq n) seen) (name_eq (FieldName section n) (FieldName section name)) (list_any (name_eq (FieldName section n)) before)
    (in_section section n name) (a n) h)
    b p.1 in
    record {
      free = both (not (list_any (bytes_eq name) seen)) (names_free (name ∷ seen) (names_of fields))
          (not_any (list_any (bytes_eq name) seen) (list_any (name_eq (FieldName section name)) before) (a name) p.0) more.free;
      before = more.before;
      after = more.after;
      keeps = more.keeps;
    }

key_more : (key : Key) (keys : List Key) (before : List Name) → KeysAmong keys before → KeysAmong (key ∷ keys) (ItemName key ∷ before)
key_more key keys before b k h = or_cases (key_eq k key) (list_any (key_eq k) keys) (key_eq k key) (list_any (name_eq (ItemName k)) before) (λ e. e) (b k) h

key_free : (key : Key) (keys : List Key) (before : List Name) → KeysAmong keys before → list_any (name_eq (ItemName key)) before ≡ false → not (list_any (key_eq key) keys) ≡ true
key_free key keys before b e = not_any (list_any (key_eq key) keys) (list_any (name_eq (ItemName key)) before) (b key) e

no_names : (section : ℕ) (before : List Name) → NamesAmong section [] before
no_names section before n h = absurd cc

item_free : (key : Key) (keys : List Key) (c : Contents) (items : List (Key × Contents)) → not (list_any (key_eq key) keys) ≡ true → names_free [] (inner_names_of c) ≡ true
    → items_free (key ∷ keys) items ≡ true → items_free keys ((key, c) ∷ items) ≡ true
item_free key keys c items e f g =
    both (not (list_any (key_eq key) keys)) (names_free [] (inner_names_of c) && items_free (key ∷ keys) items) e
    (both (names_free [] (inner_names_of c)) (items_free (key ∷ keys) items) f g)

-- where no name is doubled, no name comes twice
pub entries_free : {tokens : List Placed} {entries : List Entry} → AreEntries tokens entries → (before : List Name) (keys : List Key) → KeysAmong keys before
    → first_doubled before (names entries) ≡ None → items_free keys (told_items entries) ≡ true
entries_free no_entry before keys b e = refl
entries_free (field_next {name = name} {from = from} {value = v} {entries = entries} q s) before keys b e =
    let key : Key = record { name = name; section = false; label = None } in
    let p = passed before (ItemName key, from.start) (names entries) e in
    item_free key keys (FieldContents v) (told_items entries) (key_free key keys before b p.0) refl
    (entries_free s (ItemName key ∷ before) (key ∷ keys) (key_more key keys before b) p.1)
entries_free (section_next {name = name} {from = from} {fields = fields} {places = places} {entries = entries} q s) before keys b e =
    let key : Key = record { name = name; section = true; label = None } in
    let p = passed before (ItemName key, from.start) (field_names from.start fields places ++ names entries) e in
    let f = fields_free q from.start [] (ItemName key ∷ before) (key ∷ keys) (names entries) (no_names from.start (ItemName key ∷ before)) (key_more key keys before b) p.1 in
    item_free key keys (SectionContents fields) (told_items entries) (key_free key keys before b p.0) f.free (entries_free s f.before (key ∷ keys) f.keeps f.after)
entries_free (labelled_next {name = name} {label = label} {from = from} {fields = fields} {places = places} {entries = entries} q s) before keys b e =
    let key : Key = record { name = name; section = true; label = Some label } in
    let p = passed before (ItemName key, from.start) (field_names from.start fields places ++ names entries) e in
    let f = fields_free q from.start [] (ItemName key ∷ before) (key ∷ keys) (names entries) (no_names from.start (ItemName key ∷ before)) (key_more key keys before b) p.1 in
    item_free key keys (SectionContents fields) (told_items entries) (key_free key keys before b p.0) f.free (entries_free s f.before (key ∷ keys) f.keeps f.after)

-- the other way: the names before are among these keys, and their sections begin before a place
abbrev pub AmongKeys : List Name → List Key → Type 0
AmongKeys before keys = (k : Key) → list_any (name_eq (ItemName k)) before ≡ true → list_any (key_eq k) keys ≡ true

abbrev AmongNames : ℕ → List Name → List (List ℕ) → Type 0
AmongNames section before seen = (n : List ℕ) → list_any (name_eq (FieldName section n)) before ≡ true → list_any (bytes_eq n) seen ≡ true

abbrev pub NoneFrom : ℕ → List Name → Type 0
NoneFrom place before = (section : ℕ) (n : List ℕ) → place ≤ section → list_any (name_eq (FieldName section n)) before ≡ false

record FieldsPass (section : ℕ) (before : List Name) (listed : List (Name × ℕ)) (keys : List Key) (rest : List (Name × ℕ)) : Type 0 where
  later : List Name
  goes_on : first_doubled before (listed ++ rest) ≡ first_doubled later rest
  keeps : AmongKeys later keys
  none : NoneFrom (section + 1) later

in_names : (section : ℕ) (n m : List ℕ) → name_eq (FieldName section n) (FieldName section m) ≡ true → bytes_eq n m ≡ true
in_names section n m e = both_right (section == section) (bytes_eq n m) e

first_fails : (x y : Bool) → x ≡ false → (x && y) ≡ false
first_fails false y e = refl
first_fails true y e = absurd cc

neither_of : (x y : Bool) → x ≡ false → y ≡ false → (x || y) ≡ false
neither_of false false e f = refl
neither_of false true e f = f
neither_of true y e f = absurd cc

pub other_section : (s section : ℕ) (n m : List ℕ) → section + 1 ≤ s → name_eq (FieldName s n) (FieldName section m) ≡ false
other_section s section n m l = first_fails (s == section) (bytes_eq n m) (ne_eqb s section (λ e. omega arith))

fields_pass : (fields : List (List ℕ × Node)) (places : List ℕ) (section : ℕ) (seen : List (List ℕ)) (before : List Name) (keys : List Key) (rest : List (Name × ℕ))
    → AmongNames section before seen → AmongKeys before keys → NoneFrom (section + 1) before → names_free seen (names_of fields) ≡ true
    → FieldsPass section before (field_names section fields places) keys rest
fields_pass [] places section seen before keys rest a b c e = record { later = before; goes_on = refl; keeps = b; none = c }
fields_pass (f ∷ fields) [] section seen before keys rest a b c e = record { later = before; goes_on = refl; keeps = b; none = c }
fields_pass (f ∷ fields) (place ∷ places) section seen before keys rest a b c e =
    let here = both_left (not (list_any (bytes_eq f.0) seen)) (names_free (f.0 ∷ seen) (names_of fields)) e in
    let next = both_right (not (list_any (bytes_eq f.0) seen)) (names_free (f.0 ∷ seen) (names_of fields)) e in
    let more = fields_pass fields places section (f.0 ∷ seen) (FieldName section f.0 ∷ before) keys rest
    (λ n h. or_cases (name_eq (FieldName section n) (FieldName section f.0)) (list_any (name_eq (FieldName section n)) before) (bytes_eq n f.0) (list_any (bytes_eq n) seen)
    (in_names section n f.0) (a n) h)
    b (λ s n l. neither_of (name_eq (FieldName s n) (FieldName section f.0)) (list_any (name_eq (FieldName s n)) before) (other_section s section n f.0 l) (c s n l)) next in
    record {
      later = more.later;
      goes_on = skip _ _ _ (none_of (list_any (bytes_eq f.0) seen) (list_any (name_eq (FieldName section f.0)) before) (a f.0) here) ∙ more.goes_on;
      keeps = more.keeps;
      none = more.none;
    }

more_keys : (key : Key) (keys : List Key) (before : List Name) → AmongKeys before keys → AmongKeys (ItemName key ∷ before) (key ∷ keys)
more_keys key keys before b k h = or_cases (key_eq k key) (list_any (name_eq (ItemName k)) before) (key_eq k key) (list_any (key_eq k) keys) (λ e. e) (b k) h

key_new : (key : Key) (keys : List Key) (before : List Name) → AmongKeys before keys → not (list_any (key_eq key) keys) ≡ true → list_any (name_eq (ItemName key)) before ≡ false
key_new key keys before b e = none_of (list_any (key_eq key) keys) (list_any (name_eq (ItemName key)) before) (b key) e

is_none : (c : Bool) → c ≡ false → c ≡ true → ⊥
is_none true e f = cc
is_none false e f = cc

-- an item's own parts of what is free
free_key : (key : Key) (keys : List Key) (c : Contents) (items : List (Key × Contents)) → items_free keys ((key, c) ∷ items) ≡ true → not (list_any (key_eq key) keys) ≡ true
free_key key keys c items e = both_left (not (list_any (key_eq key) keys)) (names_free [] (inner_names_of c) && items_free (key ∷ keys) items) e

free_names : (key : Key) (keys : List Key) (c : Contents) (items : List (Key × Contents)) → items_free keys ((key, c) ∷ items) ≡ true → names_free [] (inner_names_of c) ≡ true
free_names key keys c items e =
    both_left (names_free [] (inner_names_of c)) (items_free (key ∷ keys) items)
    (both_right (not (list_any (key_eq key) keys)) (names_free [] (inner_names_of c) && items_free (key ∷ keys) items) e)

free_items : (key : Key) (keys : List Key) (c : Contents) (items : List (Key × Contents)) → items_free keys ((key, c) ∷ items) ≡ true → items_free (key ∷ keys) items ≡ true
free_items key keys c items e =
    both_right (names_free [] (inner_names_of c)) (items_free (key ∷ keys) items)
    (both_right (not (list_any (key_eq key) keys)) (names_free [] (inner_names_of c) && items_free (key ∷ keys) items) e)

pub fields_end : {tokens : List Placed} {fields : List (List ℕ × Node)} {places : List ℕ} {to : Placed} {rest : List Placed} → AreFields tokens fields places (to ∷ rest)
    → (total from : ℕ) → InOrder total from tokens → (next : ℕ) × (from ≤ next) × InOrder total next (to ∷ rest)
fields_end no_field total at o = (at, omega arith, o)
fields_end (field {at = sign} {value = v} p q) total at o =
    let a = lies p total sign.end o.2.2 in
    let b = fields_end q total v.span.end a.after in
    let c = o.0 in let d = o.1 in let e = o.2.0 in let f = o.2.1 in let g = a.from in let h = a.some in let i = b.1 in
    (b.0, omega arith, b.2)

-- the names of a section of the entries to come
section_passes : (section place : ℕ) (key : Key) (fields : List (List ℕ × Node)) (places : List ℕ) (before : List Name) (keys : List Key) (rest : List (Name × ℕ))
    → place ≤ section → AmongKeys before keys → NoneFrom place before → not (list_any (key_eq key) keys) ≡ true → names_free [] (names_of fields) ≡ true
    → FieldsPass section before ((ItemName key, section) ∷ field_names section fields places) (key ∷ keys) rest
section_passes section place key fields places before keys rest l b c e f =
    let p = fields_pass fields places section [] (ItemName key ∷ before) (key ∷ keys) rest (λ n h. absurd (is_none (list_any (name_eq (FieldName section n)) before) (c section n l) h))
    (more_keys key keys before b) (λ s n m. c s n (omega arith)) f in
    record { later = p.later; goes_on = skip _ _ _ (key_new key keys before b e) ∙ p.goes_on; keeps = p.keeps; none = p.none }

pub entries_pass : {tokens : List Placed} {entries : List Entry} → AreEntries tokens entries → (total place : ℕ) → InOrder total place tokens → (before : List Name) (keys : List Key)
    → AmongKeys before keys → NoneFrom place before → items_free keys (told_items entries) ≡ true → first_doubled before (names entries) ≡ None
entries_pass no_entry total place o before keys b c e = refl
entries_pass (field_next {name = name} {from = from} {at = at} {value = v} {entries = entries} q s) total place o before keys b c e =
    let key : Key = record { name = name; section = false; label = None } in
    let a = lies q total at.end o.2.2 in
    let d = o.0 in let f = o.1 in let g = o.2.0 in let h = o.2.1 in let i = a.from in let j = a.some in
    skip _ _ _ (key_new key keys before b (free_key key keys (FieldContents v) (told_items entries) e))
    ∙ entries_pass s total v.span.end a.after (ItemName key ∷ before) (key ∷ keys) (more_keys key keys before b) (λ t n l. c t n (omega arith))
    (free_items key keys (FieldContents v) (told_items entries) e)
entries_pass (section_next {name = name} {from = from} {at = at} {to = to} {fields = fields} {places = places} {entries = entries} q s) total place o before keys b c e =
    let key : Key = record { name = name; section = true; label = None } in
    let z = fields_end q total at.end o.2.2 in
    let d = o.0 in let f = o.1 in let g = o.2.0 in let h = o.2.1 in let i = z.1 in let j = z.2.0 in let m = z.2.1 in
    let p = section_passes from.start place key fields places before keys (names entries) d b c (free_key key keys (SectionContents fields) (told_items entries) e)
    (free_names key keys (SectionContents fields) (told_items entries) e) in
    p.goes_on
    ∙ entries_pass s total to.end z.2.2 p.later (key ∷ keys) p.keeps (λ t n l. p.none t n (omega arith)) (free_items key keys (SectionContents fields) (told_items entries) e)
entries_pass (labelled_next {name = name} {label = label} {from = from} {by = by} {at = at} {to = to} {fields = fields} {places = places} {entries = entries} q s) total place o before keys b c e =
    let key : Key = record { name = name; section = true; label = Some label } in
    let z = fields_end q total at.end o.2.2.2 in
    let d = o.0 in let f = o.1 in let g = o.2.0 in let h = o.2.1 in let u = o.2.2.0 in let w = o.2.2.1 in let i = z.1 in let j = z.2.0 in let m = z.2.1 in
    let p = section_passes from.start place key fields places before keys (names entries) d b c (free_key key keys (SectionContents fields) (told_items entries) e)
    (free_names key keys (SectionContents fields) (told_items entries) e) in
    p.goes_on
    ∙ entries_pass s total to.end z.2.2 p.later (key ∷ keys) p.keeps (λ t n l. p.none t n (omega arith)) (free_items key keys (SectionContents fields) (told_items entries) e)
