-- How a file is put together from its items.
use Rattle.std.proofs.Common.{◌≡◌, ℕ, Bool, true, false, not, ◌&&◌, ◌||◌, List, [], ◌∷◌, ◌++◌, map, reverse, if◌then◌else◌, refl, sym, ap, subst, ◌∙◌, append_assoc}
use Rattle.std.specs.Prelude.{bytes_eq}
use Rattle.std.specs.List.{list_any}
use Rattle.std.specs.Map.{keys_of}
use Rattle.std.specs.Option.{is_some, option_eq}
use mathlib.Core.Bool.{beq}
use Rattle.std.proofs.lemmas.Map.Made.{is_some-lookup}
use Rattle.indexmap.specs.IndexMap.{IndexMap, get, get_by, keys, insert_entry}
use Rattle.indexmap.proofs.CallerLemmas.{insert_entry-new}
use Rattle.std.proofs.lemmas.List.{append-nil, reverse-append}
use Rattle.std.specs.declared.option.Option.{Option}
use Rattle.std.specs.declared.option.Option.TheVariants.{None, Some}
use Rattle.syntax_trees.specs.contracts.file.KeyPartialEq.TheImpl as derived
use Rattle.syntax_trees.specs.declared.entry.ReadContents.{ReadContents}
use Rattle.syntax_trees.specs.declared.entry.ReadContents.TheVariants.{Field, Section}
use Rattle.syntax_trees.specs.declared.entry.ReadEntry.{ReadEntry}
use Rattle.syntax_trees.specs.declared.entry.ReadField.{ReadField}
use Rattle.syntax_trees.specs.declared.fault.SyntaxFault.{SyntaxFault}
use Rattle.syntax_trees.specs.declared.fault.SyntaxFault.TheVariants.{Ended, Stray, Deep, Doubled, Memory}
use Rattle.syntax_trees.specs.declared.file.Item.{Item}
use Rattle.syntax_trees.specs.declared.file.Key.{Key}
use Rattle.syntax_trees.specs.declared.tree.Node.{Node}
use Rattle.syntax_trees.specs.declared.tree.Span.{Span}
use Rattle.syntax_trees.specs.Assembly.{TellsDoubled, contents_twice, entries_twice, fields_twice, is_section, told_entries, told_entry}
use Rattle.syntax_trees.specs.Doubles.{key_eq, label_eq}
use Rattle.syntax_trees.specs.Files.{Contents, Entry}
use Rattle.syntax_trees.specs.Nesting.{first_of}
use Rattle.syntax_trees.specs.Read.{field_of, read_fields, read_entries}
use Rattle.syntax_trees.specs.Trees.{contents_of, told_items}
use Rattle.syntax_trees.proofs.WordsAgain.{skip, enter}

keys_more : {K X : Type 0} (es : List (K × X)) (k : K) (x : X) → keys_of (es ++ (k, x) ∷ []) ≡ keys_of es ++ k ∷ []
keys_more [] k x = refl
keys_more (e ∷ es) k x = ap (λ ks. e.0 ∷ ks) (keys_more es k x)

-- the last of what is taken from the end comes first
pub next_of : {A : Type 0} (old new : List A) (x : A) → old ≡ new ++ x ∷ [] → reverse old ≡ x ∷ reverse new
next_of old new x e = ap reverse e ∙ reverse-append new (x ∷ [])

-- the fields of a section of which the first are in a map
pub record ReadsFields (all : List ReadField) (es : List (List ℕ × Node)) (rest : List ReadField) : Type 0 where
  pub fields : es ++ read_fields rest ≡ read_fields all
  pub twice : fields_twice (keys_of es) rest ≡ fields_twice [] all

pub fields_begin : (all : List ReadField) → ReadsFields all [] all
fields_begin all = record { fields = refl; twice = refl }

pub fields_next : (all rest : List ReadField) (es : List (List ℕ × Node)) (field : ReadField) → list_any (bytes_eq field.name) (keys_of es) ≡ false
    → ReadsFields all es (field ∷ rest) → ReadsFields all (es ++ field_of field ∷ []) rest
fields_next all rest es field h r = record {
  fields = append_assoc es (field_of field ∷ []) (read_fields rest) ∙ r.fields;
  twice = ap (λ ks. fields_twice ks rest) (keys_more es field.name field.value) ∙ sym (skip _ _ _ h) ∙ r.twice;
}

pub fields_end : (all : List ReadField) (es : List (List ℕ × Node)) → ReadsFields all es [] → (es ≡ read_fields all) × (fields_twice [] all ≡ None)
fields_end all es r = (sym (append-nil es) ∙ r.fields, sym r.twice)

-- the fault of the next one is that of all
none_tells : (fault : SyntaxFault) (other : Option ℕ) → TellsDoubled None fault → TellsDoubled other fault
none_tells (Doubled at) other h = absurd cc
none_tells Memory other h = tt
none_tells (Ended at) other h = h
none_tells (Stray at) other h = h
none_tells (Deep at) other h = h

told_too : (fault : SyntaxFault) (one other : Option ℕ) → one ≡ other → TellsDoubled one fault → TellsDoubled other fault
told_too fault one other e h = let Here : Option ℕ → Type 0 = λ o. TellsDoubled o fault in subst Here e h

first_tells : (c : Bool) (place : ℕ) (fault : SyntaxFault) (other : Option ℕ) → TellsDoubled (if c then Some place else None) fault
    → TellsDoubled (if c then Some place else other) fault
first_tells true place fault other h = h
first_tells false place fault other h = none_tells fault other h

pub fields_fault : (all rest : List ReadField) (es : List (List ℕ × Node)) (field : ReadField) (fault : SyntaxFault)
    → TellsDoubled (if list_any (bytes_eq field.name) (keys_of es) then Some field.place else None) fault
    → ReadsFields all es (field ∷ rest) → TellsDoubled (fields_twice [] all) fault
fields_fault all rest es field fault h r = told_too fault _ _ r.twice (first_tells (list_any (bytes_eq field.name) (keys_of es)) field.place fault _ h)

-- the items of a file of which the first are in a map
pub record ReadsEntries (all : List ReadEntry) (es : List (Key × Item)) (places : List Span) (rest : List ReadEntry) : Type 0 where
  pub items : told_entries es ++ told_items (read_entries rest) ≡ told_items (read_entries all)
  pub places_are : places ++ map (λ (entry : Entry). entry.span) (read_entries rest) ≡ map (λ (entry : Entry). entry.span) (read_entries all)
  pub twice : entries_twice (keys_of es) rest ≡ entries_twice [] all

pub entries_begin : (all : List ReadEntry) → ReadsEntries all [] [] all
entries_begin all = record { items = refl; places_are = refl; twice = refl }

pub entries_next : (all rest : List ReadEntry) (es new : List (Key × Item)) (places : List Span) (entry : ReadEntry)
    → list_any (key_eq entry.key) (keys_of es) ≡ false → contents_twice entry.contents ≡ None
    → told_entries new ≡ told_entries es ++ told_entry entry ∷ [] → keys_of new ≡ keys_of es ++ entry.key ∷ []
    → ReadsEntries all es places (entry ∷ rest) → ReadsEntries all new (places ++ entry.span ∷ []) rest
entries_next all rest es new places entry h k told keys r = record {
  items = ap (λ l. l ++ told_items (read_entries rest)) told ∙ append_assoc (told_entries es) (told_entry entry ∷ []) (told_items (read_entries rest)) ∙ r.items;
  places_are = append_assoc places (entry.span ∷ []) (map (λ (e : Entry). e.span) (read_entries rest)) ∙ r.places_are;
  twice = ap (λ ks. entries_twice ks rest) keys
      ∙ sym (skip _ _ _ h ∙ ap (λ f. first_of f (entries_twice (keys_of es ++ entry.key ∷ []) rest)) k) ∙ r.twice;
}

pub entries_end : (all : List ReadEntry) (es : List (Key × Item)) (places : List Span) → ReadsEntries all es places []
    → (told_entries es ≡ told_items (read_entries all)) × (places ≡ map (λ (entry : Entry). entry.span) (read_entries all)) × (entries_twice [] all ≡ None)
entries_end all es places r = (sym (append-nil (told_entries es)) ∙ r.items, sym (append-nil places) ∙ r.places_are, sym r.twice)

some_tells : (fault : SyntaxFault) (found other : Option ℕ) → TellsDoubled found fault → TellsDoubled (first_of found other) fault
some_tells fault None other h = none_tells fault other h
some_tells fault (Some place) other h = h

later_tells : (c : Bool) (place : ℕ) (fault : SyntaxFault) (found other : Option ℕ) → TellsDoubled (if c then Some place else found) fault
    → TellsDoubled (if c then Some place else first_of found other) fault
later_tells true place fault found other h = h
later_tells false place fault found other h = some_tells fault found other h

pub entries_fault : (all rest : List ReadEntry) (es : List (Key × Item)) (places : List Span) (entry : ReadEntry) (fault : SyntaxFault)
    → TellsDoubled (if list_any (key_eq entry.key) (keys_of es) then Some entry.span.start else contents_twice entry.contents) fault
    → ReadsEntries all es places (entry ∷ rest) → TellsDoubled (entries_twice [] all) fault
entries_fault all rest es places entry fault h r =
    told_too fault _ _ r.twice (later_tells (list_any (key_eq entry.key) (keys_of es)) entry.span.start fault (contents_twice entry.contents) _ h)

-- what an insertion says of the keys that were there
pub absent : {K X S : Type 0} (eq : K → K → Bool) (m : IndexMap K X S) (k : K) (old : Option X) → old ≡ get eq m k → old ≡ None → list_any (eq k) (keys m) ≡ false
absent eq m k old e n = sym (is_some-lookup (eq k) m.entries) ∙ ap is_some (sym e ∙ n)

pub present : {K X S : Type 0} (eq : K → K → Bool) (m : IndexMap K X S) (k : K) (old : Option X) (x : X) → old ≡ get eq m k → old ≡ Some x → list_any (eq k) (keys m) ≡ true
present eq m k old x e n = sym (is_some-lookup (eq k) m.entries) ∙ ap is_some (sym e ∙ n)

pub added : {K X S : Type 0} (eq : K → K → Bool) (m : IndexMap K X S) (k : K) (x : X) (old : Option X) (new : List (K × X)) → old ≡ get eq m k → old ≡ None
    → new ≡ insert_entry eq m.entries k x → new ≡ m.entries ++ (k, x) ∷ []
added eq m k x old new e n i = i ∙ insert_entry-new eq m k x (sym e ∙ n)

pub place_told : (c : Bool) (place : ℕ) → c ≡ true → (if c then Some place else None) ≡ Some place
place_told c place e = enter _ _ _ e

any_by : (p q : Key → Bool) → ((k : Key) → p k ≡ q k) → (keys : List Key) → list_any p keys ≡ list_any q keys
any_by p q same [] = refl
any_by p q same (k ∷ keys) = ap (λ b. b || list_any p keys) (same k) ∙ ap (λ b. q k || b) (any_by p q same keys)

-- keys are compared as the definition compares them
sides_same : (n a b l m : Bool) → l ≡ m → (n && (beq a b && l)) ≡ ((n && (if a then b else not b)) && m)
sides_same true true true l m e = e
sides_same true true false l m e = refl
sides_same true false true l m e = refl
sides_same true false false l m e = e
sides_same false a b l m e = refl

labels_same : (x y : Option (List ℕ)) → option_eq bytes_eq x y ≡ label_eq x y
labels_same None None = refl
labels_same (Some x) (Some y) = refl
labels_same None (Some y) = refl
labels_same (Some x) None = refl

pub same_key : (q k : Key) → (derived.eq-value).it q k ≡ key_eq q k
same_key q k = sides_same (bytes_eq q.name k.name) q.section k.section (option_eq bytes_eq q.label k.label) (label_eq q.label k.label) (labels_same q.label k.label)

pub same_any : (k : Key) (keys : List Key) → list_any ((derived.eq-value).it k) keys ≡ list_any (key_eq k) keys
same_any k keys = any_by ((derived.eq-value).it k) (key_eq k) (same_key k) keys

told_append : (es : List (Key × Item)) (key : Key) (item : Item) (contents : Contents) → contents_of item ≡ contents
    → told_entries (es ++ (key, item) ∷ []) ≡ told_entries es ++ (key, contents) ∷ []
told_append [] key item contents h = ap (λ c. (let pair : Key × Contents = (key, c) in pair) ∷ []) h
told_append (e ∷ es) key item contents h = ap (λ l. (let pair : Key × Contents = (e.0, contents_of e.1) in pair) ∷ l) (told_append es key item contents h)

-- the fault of what is in an item, where its key is new or it is a field
pub contents_fault : (contents : ReadContents) (among : Bool) (place : ℕ) (fault : SyntaxFault) → false ≡ (is_section contents && among)
    → TellsDoubled (contents_twice contents) fault → TellsDoubled (if among then Some place else contents_twice contents) fault
contents_fault (Field v) true place fault e h = none_tells fault (Some place) h
contents_fault (Field v) false place fault e h = h
contents_fault (Section fields) true place fault e h = absurd cc
contents_fault (Section fields) false place fault e h = h

pub item_fault : (among : Bool) (place : ℕ) (found : Option ℕ) (fault : SyntaxFault) → found ≡ None → TellsDoubled (if among then Some place else None) fault
    → TellsDoubled (if among then Some place else found) fault
item_fault among place found fault e h = told_too fault _ _ (ap (λ o. if among then Some place else o) (sym e)) h

pub section_told : (contents : ReadContents) (among : Bool) (place : ℕ) (other : Option ℕ) → true ≡ (is_section contents && among)
    → (if among then Some place else other) ≡ Some place
section_told (Field v) among place other e = absurd cc
section_told (Section fields) true place other e = refl
section_told (Section fields) false place other e = absurd cc

pub told_more : (es : List (Key × Item)) (key : Key) (item : Item) (contents : Contents) (new : List (Key × Item)) → new ≡ es ++ (key, item) ∷ []
    → contents_of item ≡ contents → told_entries new ≡ told_entries es ++ (key, contents) ∷ []
told_more es key item contents new e h = ap told_entries e ∙ told_append es key item contents h

pub keys_too : (es new : List (Key × Item)) (key : Key) (item : Item) → new ≡ es ++ (key, item) ∷ [] → keys_of new ≡ keys_of es ++ key ∷ []
keys_too es new key item e = ap keys_of e ∙ keys_more es key item

pub of_section : (contents : ReadContents) (fields : List ReadField) (r any : Bool) → contents ≡ Section fields → r ≡ any → r ≡ (is_section contents && any)
of_section contents fields r any e h = let Here : ReadContents → Type 0 = λ c. r ≡ (is_section c && any) in subst Here (sym e) h

pub key_found : {S : Type 0} (m : IndexMap Key Item S) (k : Key) → is_some (get_by ((derived.eq-value).it k) m) ≡ list_any (key_eq k) (keys m)
key_found m k = is_some-lookup ((derived.eq-value).it k) m.entries ∙ same_any k (keys m)
