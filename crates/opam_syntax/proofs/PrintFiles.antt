-- Items that some tokens spell are spelled by their canonical text as well.
use Rattle.std.proofs.Common.{◌≡◌, ℕ, true, false, List, [], ◌∷◌, ◌++◌, refl, sym, ap, ◌∙◌}
use Rattle.std.specs.Prelude.{codes}
use Rattle.std.proofs.lemmas.List.{append_assoc}
use Rattle.std.specs.declared.option.Option.TheVariants.{None, Some}
use Rattle.syntax_trees.specs.declared.file.Key.{Key}
use Rattle.syntax_trees.specs.declared.token.Token.TheVariants.{Plain, Colon}
use Rattle.syntax_trees.specs.declared.tree.Node.{Node}
use Rattle.syntax_trees.specs.declared.tree.Span.{Span}
use Rattle.syntax_trees.specs.Tokens.{Placed, placed, AreTokens, ends, gap, single}
use Rattle.syntax_trees.specs.Grammar.{ValueLevel, Spells, begins_relation}
use Rattle.syntax_trees.specs.Files.{Contents, FieldContents, SectionContents, Entry, field_entry, AreFields, no_field, field, AreEntries, no_entry, field_next, section_next, labelled_next}
use Rattle.opam_syntax.specs.Spelling.{value_text, quoted, field_text, fields_text, items_text}
use Rattle.syntax_trees.specs.Trees.{told_items}
use Rattle.opam_syntax.specs.Printed.{placeless, placeless_fields, placeless_items}
use Rattle.syntax_trees.proofs.WordsAgain.{Reads, reads_first}
use Rattle.opam_syntax.proofs.PrintTexts.{text_reads}
use Rattle.opam_syntax.proofs.PrintTokens.{AreRead}
use Rattle.opam_syntax.proofs.PrintValues.{at_line, read_after, again, other_text}
use Rattle.opam_syntax.proofs.Placeless.{two_same}

-- a field on a line of its own, before other text
record LineAgain (total : ℕ) (name : List ℕ) (v : Node) (more : List ℕ) (after : List Placed) : Type 0 where
  from : Span
  at : Span
  tokens : List Placed
  spelled : AreTokens total (field_text name v ++ more) (placed (Plain name) from ∷ placed Colon at ∷ tokens)
  found : Node
  derived : Spells ValueLevel tokens found after
  same : placeless found ≡ placeless v

line_text : (name spelling more : List ℕ) → name ++ codes ": " ++ spelling ++ codes "\n" ++ more ≡ name ++ (58 ∷ 32 ∷ (spelling ++ 10 ∷ more))
line_text name spelling more =
    append_assoc (name ++ codes ": " ++ spelling) (codes "\n") more ∙ append_assoc (name ++ codes ": ") spelling (10 ∷ more)
    ∙ append_assoc name (codes ": ") (spelling ++ 10 ∷ more)

line_again : (name : List ℕ) {tokens : List Placed} {v : Node} {left : List Placed} → Spells ValueLevel tokens v left → Reads name (Plain name) → AreRead tokens
    → (total : ℕ) (more : List ℕ) (after : List Placed) → AreTokens total more after → begins_relation after ≡ begins_relation left → LineAgain total name v more after
line_again name {v = v} q n r total more after p k =
    let a = again q r total (10 ∷ more) after at_line (gap refl p) k in
    record {
      from = _;
      at = _;
      tokens = a.tokens;
      spelled = other_text (line_text name (value_text v) more)
          (single (reads_first name (58 ∷ 32 ∷ (value_text v ++ 10 ∷ more)) (Plain name) n refl) (single refl (gap refl a.spelled)));
      found = a.found;
      derived = a.derived;
      same = a.same;
    }

-- what follows fields is read after them
fields_after : {tokens : List Placed} {fields : List (List ℕ × Node)} {places : List ℕ} {rest : List Placed} → AreFields tokens fields places rest → AreRead tokens → AreRead rest
fields_after no_field r = r
fields_after (field q s) r = fields_after s (read_after q r.1.1)

record FieldsAgain (total : ℕ) (old : List Placed) (fields : List (List ℕ × Node)) (rest : List ℕ) (after : List Placed) : Type 0 where
  tokens : List Placed
  spelled : AreTokens total (fields_text fields ++ rest) tokens
  found : List (List ℕ × Node)
  places : List ℕ
  derived : AreFields tokens found places after
  same : placeless_fields found ≡ placeless_fields fields
  head : begins_relation tokens ≡ begins_relation old

same_field : (name : List ℕ) {v w : Node} {fs gs : List (List ℕ × Node)} → v ≡ w → fs ≡ gs → ((name, v) ∷ fs) ≡ ((name, w) ∷ gs)
same_field name e f = two_same (λ (x : Node) (xs : List (List ℕ × Node)). (name, x) ∷ xs) e f

fields_again : {tokens : List Placed} {fields : List (List ℕ × Node)} {places : List ℕ} {left : List Placed} → AreFields tokens fields places left → AreRead tokens
    → (total : ℕ) (rest : List ℕ) (after : List Placed) → AreTokens total rest after → begins_relation after ≡ begins_relation left → FieldsAgain total tokens fields rest after
fields_again no_field r total rest after p k = record { tokens = after; spelled = p; found = []; places = []; derived = no_field; same = refl; head = k }
fields_again (field {name = name} {value = v} {fields = fields} q s) r total rest after p k =
    let b = fields_again s (read_after q r.1.1) total rest after p k in
    let l = line_again name q r.0 r.1.1 total (fields_text fields ++ rest) b.tokens b.spelled b.head in
    record {
      tokens = _;
      spelled = other_text (ap (λ t. 32 ∷ 32 ∷ t) (append_assoc (field_text name v) (fields_text fields) rest)) (gap refl (gap refl l.spelled));
      found = (name, l.found) ∷ b.found;
      places = l.from.start ∷ b.places;
      derived = field l.derived b.derived;
      same = same_field name l.same b.same;
      head = refl;
    }

section_text : (name label fields more : List ℕ)
    → name ++ codes " " ++ label ++ codes "{\n" ++ fields ++ codes "}\n" ++ more ≡ name ++ (32 ∷ (label ++ (123 ∷ 10 ∷ (fields ++ 125 ∷ 10 ∷ more))))
section_text name label fields more =
    append_assoc (name ++ codes " " ++ label ++ codes "{\n" ++ fields) (codes "}\n") more
    ∙ append_assoc (name ++ codes " " ++ label ++ codes "{\n") fields (125 ∷ 10 ∷ more)
    ∙ append_assoc (name ++ codes " " ++ label) (codes "{\n") (fields ++ 125 ∷ 10 ∷ more)
    ∙ append_assoc (name ++ codes " ") label (123 ∷ 10 ∷ (fields ++ 125 ∷ 10 ∷ more))
    ∙ append_assoc name (codes " ") (label ++ (123 ∷ 10 ∷ (fields ++ 125 ∷ 10 ∷ more)))

pub record EntriesAgain (total : ℕ) (entries : List Entry) : Type 0 where
  pub tokens : List Placed
  pub spelled : AreTokens total (items_text (told_items entries)) tokens
  pub found : List Entry
  pub derived : AreEntries tokens found
  pub same : placeless_items (told_items found) ≡ placeless_items (told_items entries)
  pub plain : begins_relation tokens ≡ false

entries_plain : {tokens : List Placed} {entries : List Entry} → AreEntries tokens entries → begins_relation tokens ≡ false
entries_plain no_entry = refl
entries_plain (field_next q s) = refl
entries_plain (section_next q s) = refl
entries_plain (labelled_next q s) = refl

same_item : (key : Key) {c d : Contents} {xs ys : List (Key × Contents)} → c ≡ d → xs ≡ ys → ((key, c) ∷ xs) ≡ ((key, d) ∷ ys)
same_item key e f = two_same (λ (x : Contents) (zs : List (Key × Contents)). (key, x) ∷ zs) e f

pub entries_again : {tokens : List Placed} {entries : List Entry} → AreEntries tokens entries → AreRead tokens → (total : ℕ) → EntriesAgain total entries
entries_again no_entry r total = record { tokens = []; spelled = ends refl; found = []; derived = no_entry; same = refl; plain = refl }
entries_again (field_next {name = name} {value = v} {entries = entries} q s) r total =
    let b = entries_again s (read_after q r.1.1) total in
    let l = line_again name q r.0 r.1.1 total (items_text (told_items entries)) b.tokens b.spelled (b.plain ∙ sym (entries_plain s)) in
    record {
      tokens = _;
      spelled = l.spelled;
      found = field_entry name l.from l.found ∷ b.found;
      derived = field_next l.derived b.derived;
      same = same_item (record { name = name; section = false; label = None }) (ap FieldContents l.same) b.same;
      plain = refl;
    }
entries_again (section_next {name = name} {fields = fields} {entries = entries} q s) r total =
    let b = entries_again s (fields_after q r.1.1).1 total in
    let more = items_text (told_items entries) in
    let c = fields_again q r.1.1 total (125 ∷ 10 ∷ more) _ (single refl (gap refl b.spelled)) refl in
    record {
      tokens = _;
      spelled = other_text (section_text name [] (fields_text fields) more)
          (single (reads_first name (32 ∷ 123 ∷ 10 ∷ (fields_text fields ++ 125 ∷ 10 ∷ more)) (Plain name) r.0 refl) (gap refl (single refl (gap refl c.spelled))));
      found = _;
      derived = section_next c.derived b.derived;
      same = same_item (record { name = name; section = true; label = None }) (ap SectionContents c.same) b.same;
      plain = refl;
    }
entries_again (labelled_next {name = name} {label = label} {fields = fields} {entries = entries} q s) r total =
    let b = entries_again s (fields_after q r.1.1.1).1 total in
    let more = items_text (told_items entries) in
    let c = fields_again q r.1.1.1 total (125 ∷ 10 ∷ more) _ (single refl (gap refl b.spelled)) refl in
    let tail = 123 ∷ 10 ∷ (fields_text fields ++ 125 ∷ 10 ∷ more) in
    record {
      tokens = _;
      spelled = other_text (section_text name (quoted label ++ codes " ") (fields_text fields) more
          ∙ ap (λ t. name ++ 32 ∷ t) (append_assoc (quoted label) (codes " ") tail))
          (single (reads_first name (32 ∷ (quoted label ++ 32 ∷ tail)) (Plain name) r.0 refl)
          (gap refl (text_reads total label (32 ∷ tail) _ refl (gap refl (single refl (gap refl c.spelled))))));
      found = _;
      derived = labelled_next c.derived b.derived;
      same = same_item (record { name = name; section = true; label = Some label }) (ap SectionContents c.same) b.same;
      plain = refl;
    }
