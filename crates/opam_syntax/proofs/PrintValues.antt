-- A value that some tokens spell is spelled by its canonical text as well, whatever was between the tokens.
use Rattle.std.proofs.Common.{◌≡◌, ℕ, Bool, true, false, ◌&&◌, ◌==◌, List, [], ◌∷◌, ◌++◌, refl, sym, ap, subst, ◌∙◌, map}
use Rattle.std.specs.Prelude.{codes}
use Rattle.std.proofs.lemmas.List.{append_assoc}
use Rattle.std.specs.declared.option.Option.TheVariants.{None, Some}
use Rattle.std.specs.Fmt.{signed_decimal}
use Rattle.std.proofs.lemmas.Bool.{eqb-true}
use Rattle.syntax_trees.specs.declared.token.Token.{Token}
use Rattle.syntax_trees.specs.declared.token.Token.TheVariants.{Flag, Int, Text, Plain, Scoped, OpenGroup, Relation, Update}
use Rattle.syntax_trees.specs.declared.tree.RelOp.{RelOp}
use Rattle.syntax_trees.specs.declared.tree.RelOp.TheVariants.{Eq, Ne, Lt, Le, Gt, Ge}
use Rattle.syntax_trees.specs.declared.tree.EnvOp.{EnvOp}
use Rattle.syntax_trees.specs.declared.tree.EnvOp.TheVariants.{Set, Before, After, BeforeKeep, AfterKeep}
use Rattle.syntax_trees.specs.declared.tree.Span.{Span}
use Rattle.syntax_trees.specs.declared.tree.Node.{Node}
use Rattle.syntax_trees.specs.declared.tree.Value.{Value, roll-Value}
use Rattle.syntax_trees.specs.declared.tree.Value.TheOpen.{Value-F}
use Rattle.syntax_trees.specs.declared.tree.Value.TheFolds.{map-Value}
use Rattle.syntax_trees.specs.Signs.{begins_with, relation_text, update_text}
use Rattle.syntax_trees.specs.Tokens.{Single, first, Placed, placed, span_between, AreTokens, gap, single}
use Rattle.syntax_trees.specs.Grammar.{Level, OrLevel, AndLevel, PrimaryLevel, atom_of, last_span, all_of, any_of, begins_relation, Spells, atom, list, group, bare, braced, pre_relation, alone, relation, no_prefix, negation, definedness, conjunction, disjunction, no_update, update, AreValues, no_value, value, AreConjuncts, last_conjunct, conjunct, AreDisjuncts, last_disjunct, disjunct}
use Rattle.opam_syntax.specs.Spelling.{value_text, joined_by, quoted, flag_text}
use Rattle.opam_syntax.specs.Printed.{placeless}
use Rattle.syntax_trees.proofs.Folds.{node_at}
use Rattle.opam_syntax.proofs.PrintFolds.{text_at}
use Rattle.syntax_trees.proofs.OneTokens.{no_tokens}
use Rattle.opam_syntax.proofs.Placeless.{placeless_value, placeless_at, bare_shape, two_same}
use Rattle.syntax_trees.proofs.WordsAgain.{Reads, reads_first, ends_word, skip}
use Rattle.opam_syntax.proofs.PrintTexts.{text_reads}
use Rattle.opam_syntax.proofs.PrintTokens.{IsToken, AreRead}

-- what may stand after a value in a canonical text
pub data Ends : List ℕ → Type 0 where
  at_blank : {rest : List ℕ} → Ends (32 ∷ rest)
  at_line : {rest : List ℕ} → Ends (10 ∷ rest)
  at_list : {rest : List ℕ} → Ends (93 ∷ rest)
  at_group : {rest : List ℕ} → Ends (41 ∷ rest)
  at_braces : {rest : List ℕ} → Ends (125 ∷ rest)

word_ends : {rest : List ℕ} → Ends rest → ends_word rest ≡ true
word_ends at_blank = refl
word_ends at_line = refl
word_ends at_list = refl
word_ends at_group = refl
word_ends at_braces = refl

no_quote : {rest : List ℕ} → Ends rest → begins_with (34 ∷ []) rest ≡ false
no_quote at_blank = refl
no_quote at_line = refl
no_quote at_list = refl
no_quote at_group = refl
no_quote at_braces = refl

-- what follows a value is read after it
mutual
  pub read_after : {level : Level} {tokens : List Placed} {n : Node} {rest : List Placed} → Spells level tokens n rest → AreRead tokens → AreRead rest
  read_after (atom e) r = r.1
  read_after (list p) r = (values_after p r.1).1
  read_after (group p) r = (values_after p r.1).1
  read_after (bare p) r = read_after p r
  read_after (braced p q) r = (values_after q (read_after p r).1).1
  read_after (pre_relation p) r = read_after p r.1
  read_after (alone p h) r = read_after p r
  read_after (relation p q) r = read_after q (read_after p r).1
  read_after (no_prefix p) r = read_after p r
  read_after (negation p) r = read_after p r.1
  read_after (definedness p) r = read_after p r.1
  read_after (conjunction p) r = conjuncts_after p r
  read_after (disjunction p) r = disjuncts_after p r
  read_after (no_update p) r = read_after p r
  read_after (update p q) r = read_after q (read_after p r).1

  values_after : {tokens : List Placed} {ns : List Node} {rest : List Placed} → AreValues tokens ns rest → AreRead tokens → AreRead rest
  values_after no_value r = r
  values_after (value p q) r = values_after q (read_after p r)

  conjuncts_after : {tokens : List Placed} {n : Node} {ns : List Node} {rest : List Placed} → AreConjuncts tokens n ns rest → AreRead tokens → AreRead rest
  conjuncts_after (last_conjunct p) r = read_after p r
  conjuncts_after (conjunct p q) r = conjuncts_after q (read_after p r).1

  disjuncts_after : {tokens : List Placed} {n : Node} {ns : List Node} {rest : List Placed} → AreDisjuncts tokens n ns rest → AreRead tokens → AreRead rest
  disjuncts_after (last_disjunct p) r = read_after p r
  disjuncts_after (disjunct p q) r = disjuncts_after q (read_after p r).1

-- the canonical text of a value, before other text, is that value again
pub record Again (level : Level) (total : ℕ) (old : List Placed) (n : Node) (rest : List ℕ) (after : List Placed) : Type 0 where
  pub tokens : List Placed
  pub spelled : AreTokens total (value_text n ++ rest) tokens
  pub found : Node
  pub derived : Spells level tokens found after
  pub same : placeless found ≡ placeless n
  pub head : begins_relation tokens ≡ begins_relation old

pub record AllAgain (total : ℕ) (old : List Placed) (ns : List Node) (rest : List ℕ) (after : List Placed) : Type 0 where
  pub tokens : List Placed
  pub spelled : AreTokens total (joined_by (codes " ") (map value_text ns) ++ rest) tokens
  pub found : List Node
  pub derived : AreValues tokens found after
  pub same : map placeless found ≡ map placeless ns
  pub head : begins_relation tokens ≡ begins_relation old

record PartsAgain (Derive : List Placed → Node → List Node → Type 0) (between : List ℕ) (total : ℕ) (old : List Placed) (n : Node) (ns : List Node) (rest : List ℕ) : Type 0 where
  tokens : List Placed
  spelled : AreTokens total (joined_by between (map value_text (n ∷ ns)) ++ rest) tokens
  found : Node
  others : List Node
  derived : Derive tokens found others
  same : placeless found ≡ placeless n
  same_others : map placeless others ≡ map placeless ns
  head : begins_relation tokens ≡ begins_relation old

-- one token
atom_head : (token : Token) (one other : Span) (after old : List Placed) → begins_relation (placed token one ∷ after) ≡ begins_relation (placed token other ∷ old)
atom_head (Relation op) one other after old = refl
atom_head token one other after old = refl

pub other_text : {total : ℕ} {xs ys : List ℕ} {tokens : List Placed} → xs ≡ ys → AreTokens total ys tokens → AreTokens total xs tokens
other_text {total} {tokens = tokens} e p = subst (λ bytes. AreTokens total bytes tokens) (sym e) p

atom_made : (token : Token) (shape : Value-F Value Node) (spelling : List ℕ) (span : Span) (total : ℕ) (old : List Placed) (rest : List ℕ) (after : List Placed) (at : Span)
    → atom_of token ≡ Some (roll-Value shape) → value_text (node_at shape span) ≡ spelling → AreTokens total (spelling ++ rest) (placed token at ∷ after)
    → Again PrimaryLevel total (placed token span ∷ old) (node_at shape span) rest after
atom_made token shape spelling span total old rest after at e t p = record {
  tokens = placed token at ∷ after;
  spelled = other_text (ap (λ l. l ++ rest) t) p;
  found = node_at shape at;
  derived = atom e;
  same = placeless_at shape at ∙ sym (placeless_at shape span);
  head = atom_head token at span after old;
}

word_made : (token : Token) (shape : Value-F Value Node) (word : List ℕ) (span : Span) (total : ℕ) (old : List Placed) (rest : List ℕ) (after : List Placed)
    → atom_of token ≡ Some (roll-Value shape) → value_text (node_at shape span) ≡ word → Reads word token → Ends rest → AreTokens total rest after
    → Again PrimaryLevel total (placed token span ∷ old) (node_at shape span) rest after
word_made token shape word span total old rest after e t r h p =
    atom_made token shape word span total old rest after (span_between total (word ++ rest) rest) e t (single (reads_first word rest token r (word_ends h)) p)

flag_reads : (flag : Bool) → Reads (flag_text flag) (Flag flag)
flag_reads true = record { begins = refl; whole = refl; means = refl }
flag_reads false = record { begins = refl; whole = refl; means = refl }

the_same : {v w : Value} → Some v ≡ Some w → v ≡ w
the_same e = cc

none_some : {A B : Type 0} {x : A} → None ≡ Some x → B
none_some e = absurd cc

atom_is : (token : Token) (shape : Value-F Value Node) (v : Value) (span : Span) (total : ℕ) (old : List Placed) (rest : List ℕ) (after : List Placed)
    → Some (roll-Value shape) ≡ Some v → Again PrimaryLevel total (placed token span ∷ old) (node_at shape span) rest after
    → Again PrimaryLevel total (placed token span ∷ old) (record { value = v; span = span }) rest after
atom_is token shape v span total old rest after e a =
    subst (λ w. Again PrimaryLevel total (placed token span ∷ old) (record { value = w; span = span }) rest after) (the_same e) a

atom_again : (token : Token) (v : Value) (span : Span) (total : ℕ) (old : List Placed) (rest : List ℕ) (after : List Placed) → atom_of token ≡ Some v → IsToken token
    → Ends rest → AreTokens total rest after → Again PrimaryLevel total (placed token span ∷ old) (record { value = v; span = span }) rest after
atom_again (Flag flag) v span total old rest after e r h p =
    let shape : Value-F Value Node = Value-F.Flag flag in
    atom_is (Flag flag) shape v span total old rest after e (word_made (Flag flag) shape (flag_text flag) span total old rest after refl (text_at shape span) (flag_reads flag) h p)
atom_again (Int number) v span total old rest after e r h p =
    let shape : Value-F Value Node = Value-F.Int number in
    atom_is (Int number) shape v span total old rest after e (word_made (Int number) shape (signed_decimal number) span total old rest after refl (text_at shape span) r h p)
atom_again (Text bytes) v span total old rest after e r h p =
    let shape : Value-F Value Node = Value-F.Text bytes in
    atom_is (Text bytes) shape v span total old rest after e (atom_made (Text bytes) shape (quoted bytes) span total old rest after
    (span_between total (quoted bytes ++ rest) rest) refl (text_at shape span) (text_reads total bytes rest after (no_quote h) p))
atom_again (Plain name) v span total old rest after e r h p =
    let shape : Value-F Value Node = Value-F.Ident (record { scope = None; name = name }) in
    atom_is (Plain name) shape v span total old rest after e (word_made (Plain name) shape name span total old rest after refl (text_at shape span) r h p)
atom_again (Scoped scope name) v span total old rest after e r h p =
    let shape : Value-F Value Node = Value-F.Ident (record { scope = Some scope; name = name }) in
    atom_is (Scoped scope name) shape v span total old rest after e
    (word_made (Scoped scope name) shape (scope ++ codes ":" ++ name) span total old rest after refl (text_at shape span) r h p)
atom_again token v span total old rest after e r h p = none_some e

-- signs
relation_first : (op : RelOp) (rest : List ℕ) → first (relation_text op ++ 32 ∷ rest) ≡ Single (Relation op) (32 ∷ rest)
relation_first Eq rest = refl
relation_first Ne rest = refl
relation_first Lt rest = refl
relation_first Le rest = refl
relation_first Gt rest = refl
relation_first Ge rest = refl

update_first : (op : EnvOp) (rest : List ℕ) → IsToken (Update op) → first (update_text op ++ 32 ∷ rest) ≡ Single (Update op) (32 ∷ rest)
update_first Set rest r = absurd r
update_first Before rest r = refl
update_first After rest r = refl
update_first BeforeKeep rest r = refl
update_first AfterKeep rest r = refl

-- no token begins with a star
no_star : {total : ℕ} {tokens : List Placed} (bytes : List ℕ) → AreTokens total bytes tokens → begins_with (42 ∷ []) bytes ≡ false
no_star [] p = refl
no_star {total} {tokens} (b ∷ bytes) p = star (42 == b) refl p
  where
    star : (c : Bool) → (42 == b) ≡ c → AreTokens total (b ∷ bytes) tokens → (c && true) ≡ false
    star true e q = absurd (no_tokens refl (subst (λ x. AreTokens total (x ∷ bytes) tokens) (sym (eqb-true 42 b e)) q))
    star false e q = refl

group_first : {total : ℕ} {tokens : List Placed} (bytes : List ℕ) → AreTokens total bytes tokens → first (40 ∷ bytes) ≡ Single OpenGroup bytes
group_first bytes p = skip _ _ _ (no_star bytes p)

-- texts of values that are made of others
enclosed_text : (opening closing inside rest : List ℕ) → opening ++ inside ++ closing ++ rest ≡ opening ++ (inside ++ (closing ++ rest))
enclosed_text opening closing inside rest =
    append_assoc (opening ++ inside) closing rest ∙ append_assoc opening inside (closing ++ rest)

braced_text : (before inside rest : List ℕ) → before ++ codes " {" ++ inside ++ codes "}" ++ rest ≡ before ++ (32 ∷ 123 ∷ (inside ++ 125 ∷ rest))
braced_text before inside rest =
    enclosed_text (before ++ codes " {") (codes "}") inside rest ∙ append_assoc before (codes " {") (inside ++ 125 ∷ rest)

signed_text : (sign right rest : List ℕ) → sign ++ codes " " ++ right ++ rest ≡ sign ++ 32 ∷ (right ++ rest)
signed_text sign right rest = append_assoc (sign ++ codes " ") right rest ∙ append_assoc sign (codes " ") (right ++ rest)

between_text : (left sign right rest : List ℕ) → left ++ codes " " ++ sign ++ codes " " ++ right ++ rest ≡ left ++ 32 ∷ (sign ++ 32 ∷ (right ++ rest))
between_text left sign right rest =
    signed_text (left ++ codes " " ++ sign) right rest ∙ append_assoc (left ++ codes " ") sign (32 ∷ (right ++ rest))
    ∙ append_assoc left (codes " ") (sign ++ 32 ∷ (right ++ rest))

-- values of a list, with a blank between them
spaced : List Node → List ℕ → List ℕ
spaced [] rest = rest
spaced (n ∷ ns) rest = 32 ∷ (joined_by (codes " ") (map value_text (n ∷ ns)) ++ rest)

spaced_ends : (ns : List Node) (rest : List ℕ) → Ends rest → Ends (spaced ns rest)
unfolding spaced
spaced_ends [] rest h = h
spaced_ends (n ∷ ns) rest h = at_blank

spaced_tokens : (ns : List Node) (rest : List ℕ) {total : ℕ} {tokens : List Placed} → AreTokens total (joined_by (codes " ") (map value_text ns) ++ rest) tokens
    → AreTokens total (spaced ns rest) tokens
unfolding spaced
spaced_tokens [] rest p = p
spaced_tokens (n ∷ ns) rest p = gap refl p

spaced_text : (n : Node) (ns : List Node) (rest : List ℕ) → joined_by (codes " ") (map value_text (n ∷ ns)) ++ rest ≡ value_text n ++ spaced ns rest
unfolding spaced
spaced_text n [] rest = refl
spaced_text n (m ∷ ns) rest =
    let more = joined_by (codes " ") (map value_text (m ∷ ns)) in
    append_assoc (value_text n ++ codes " ") more rest ∙ append_assoc (value_text n) (codes " ") (more ++ rest)

joined_text : (between : List ℕ) (n m : Node) (ns : List Node) (rest : List ℕ)
    → joined_by between (map value_text (n ∷ m ∷ ns)) ++ rest ≡ value_text n ++ (between ++ (joined_by between (map value_text (m ∷ ns)) ++ rest))
joined_text between n m ns rest =
    let more = joined_by between (map value_text (m ∷ ns)) in
    append_assoc (value_text n ++ between) more rest ∙ append_assoc (value_text n) between (more ++ rest)

-- parts that are joined are one value
all_text : (n : Node) (ns : List Node) → value_text (all_of n ns) ≡ joined_by (codes " & ") (map value_text (n ∷ ns))
all_text n [] = refl
all_text n (m ∷ ns) = text_at (Value-F.And (n ∷ m ∷ ns)) (record { start = n.span.start; end = (last_span m ns).end })

any_text : (n : Node) (ns : List Node) → value_text (any_of n ns) ≡ joined_by (codes " | ") (map value_text (n ∷ ns))
any_text n [] = refl
any_text n (m ∷ ns) = text_at (Value-F.Or (n ∷ m ∷ ns)) (record { start = n.span.start; end = (last_span m ns).end })

list_same : {n m : Node} {ns ms : List Node} → n ≡ m → ns ≡ ms → (n ∷ ns) ≡ (m ∷ ms)
list_same e f = two_same (λ (x : Node) (xs : List Node). x ∷ xs) e f

all_same : (n m : Node) (ns ms : List Node) → placeless n ≡ placeless m → map placeless ns ≡ map placeless ms → placeless (all_of n ns) ≡ placeless (all_of m ms)
all_same n m [] [] e f = e
all_same n m [] (y ∷ ms) e f = absurd cc
all_same n m (x ∷ ns) [] e f = absurd cc
all_same n m (x ∷ ns) (y ∷ ms) e f =
    placeless_at (Value-F.And (n ∷ x ∷ ns)) (record { start = n.span.start; end = (last_span x ns).end })
    ∙ ap (λ l. bare_shape (Value-F.And l)) (list_same e f)
    ∙ sym (placeless_at (Value-F.And (m ∷ y ∷ ms)) (record { start = m.span.start; end = (last_span y ms).end }))

any_same : (n m : Node) (ns ms : List Node) → placeless n ≡ placeless m → map placeless ns ≡ map placeless ms → placeless (any_of n ns) ≡ placeless (any_of m ms)
any_same n m [] [] e f = e
any_same n m [] (y ∷ ms) e f = absurd cc
any_same n m (x ∷ ns) [] e f = absurd cc
any_same n m (x ∷ ns) (y ∷ ms) e f =
    placeless_at (Value-F.Or (n ∷ x ∷ ns)) (record { start = n.span.start; end = (last_span x ns).end })
    ∙ ap (λ l. bare_shape (Value-F.Or l)) (list_same e f)
    ∙ sym (placeless_at (Value-F.Or (m ∷ y ∷ ms)) (record { start = m.span.start; end = (last_span y ms).end }))

all_again : {total : ℕ} {old after : List Placed} {n : Node} {ns : List Node} {rest : List ℕ}
    → PartsAgain (λ ts m ms. AreConjuncts ts m ms after) (codes " & ") total old n ns rest → Again AndLevel total old (all_of n ns) rest after
all_again {n = n} {ns = ns} {rest = rest} a = record {
  tokens = a.tokens;
  spelled = other_text (ap (λ l. l ++ rest) (all_text n ns)) a.spelled;
  found = all_of a.found a.others;
  derived = conjunction a.derived;
  same = all_same a.found n a.others ns a.same a.same_others;
  head = a.head;
}

any_again : {total : ℕ} {old after : List Placed} {n : Node} {ns : List Node} {rest : List ℕ}
    → PartsAgain (λ ts m ms. AreDisjuncts ts m ms after) (codes " | ") total old n ns rest → Again OrLevel total old (any_of n ns) rest after
any_again {n = n} {ns = ns} {rest = rest} a = record {
  tokens = a.tokens;
  spelled = other_text (ap (λ l. l ++ rest) (any_text n ns)) a.spelled;
  found = any_of a.found a.others;
  derived = disjunction a.derived;
  same = any_same a.found n a.others ns a.same a.same_others;
  head = a.head;
}

-- the same value, made of what was found, wherever it stands
one_same : (shape other : Value-F Value Node) (span at : Span)
    → bare_shape (map-Value Value Node Value Node placeless_value placeless shape)
    ≡ bare_shape (map-Value Value Node Value Node placeless_value placeless other)
    → placeless (node_at shape span) ≡ placeless (node_at other at)
one_same shape other span at e = placeless_at shape span ∙ e ∙ sym (placeless_at other at)

mutual
  pub again : {level : Level} {tokens : List Placed} {n : Node} {left : List Placed} → Spells level tokens n left → AreRead tokens → (total : ℕ) (rest : List ℕ) (after : List Placed)
      → Ends rest → AreTokens total rest after → begins_relation after ≡ begins_relation left → Again level total tokens n rest after
  again (atom {token = token} {value = v} {span = span} {rest = old} e) r total rest after h p k = atom_again token v span total old rest after e r.0 h p
  again (list {from = from} {to = to} {nodes = ns} q) r total rest after h p k =
      let a = values_again q r.1 total (93 ∷ rest) _ at_list (single refl p) refl in
      record {
        tokens = _;
        spelled = other_text (ap (λ l. l ++ rest) (text_at (Value-F.List ns) (record { start = from.start; end = to.end }))
            ∙ enclosed_text (codes "[") (codes "]") (joined_by (codes " ") (map value_text ns)) rest) (single refl a.spelled);
        found = _;
        derived = list a.derived;
        same = one_same (Value-F.List a.found) (Value-F.List ns) _ _ (ap (λ l. bare_shape (Value-F.List l)) a.same);
        head = refl;
      }
  again (group {from = from} {to = to} {nodes = ns} q) r total rest after h p k =
      let a = values_again q r.1 total (41 ∷ rest) _ at_group (single refl p) refl in
      record {
        tokens = _;
        spelled = other_text (ap (λ l. l ++ rest) (text_at (Value-F.Group ns) (record { start = from.start; end = to.end }))
            ∙ enclosed_text (codes "(") (codes ")") (joined_by (codes " ") (map value_text ns)) rest) (single (group_first _ a.spelled) a.spelled);
        found = _;
        derived = group a.derived;
        same = one_same (Value-F.Group a.found) (Value-F.Group ns) _ _ (ap (λ l. bare_shape (Value-F.Group l)) a.same);
        head = refl;
      }
  again (bare q) r total rest after h p k =
      let a = again q r total rest after h p k in
      record { tokens = a.tokens; spelled = a.spelled; found = a.found; derived = bare a.derived; same = a.same; head = a.head }
  again (braced {from = from} {to = to} {value = v} {nodes = ns} q s) r total rest after h p k =
      let b = values_again s (read_after q r).1 total (125 ∷ rest) _ at_braces (single refl p) refl in
      let inside = joined_by (codes " ") (map value_text ns) ++ 125 ∷ rest in
      let a = again q r total (32 ∷ 123 ∷ inside) _ at_blank (gap refl (single refl b.spelled)) refl in
      record {
        tokens = a.tokens;
        spelled = other_text (ap (λ l. l ++ rest) (text_at (Value-F.Braced v ns) (record { start = v.span.start; end = to.end }))
            ∙ braced_text (value_text v) (joined_by (codes " ") (map value_text ns)) rest) a.spelled;
        found = _;
        derived = braced a.derived b.derived;
        same = one_same (Value-F.Braced a.found b.found) (Value-F.Braced v ns) _ _ (two_same (λ x xs. bare_shape (Value-F.Braced x xs)) a.same b.same);
        head = a.head;
      }
  again (pre_relation {op = op} {from = from} {right = w} q) r total rest after h p k =
      let a = again q r.1 total rest after h p k in
      record {
        tokens = _;
        spelled = other_text (ap (λ l. l ++ rest) (text_at (Value-F.PreRel op w) (record { start = from.start; end = w.span.end }))
            ∙ signed_text (relation_text op) (value_text w) rest) (single (relation_first op _) (gap refl a.spelled));
        found = _;
        derived = pre_relation a.derived;
        same = one_same (Value-F.PreRel op a.found) (Value-F.PreRel op w) _ _ (ap (λ x. bare_shape (Value-F.PreRel op x)) a.same);
        head = refl;
      }
  again (alone q e) r total rest after h p k =
      let a = again q r total rest after h p k in
      record { tokens = a.tokens; spelled = a.spelled; found = a.found; derived = alone a.derived (k ∙ e); same = a.same; head = a.head }
  again (relation {op = op} {left = v} {right = w} q s) r total rest after h p k =
      let b = again s (read_after q r).1 total rest after h p k in
      let a = again q r total (32 ∷ (relation_text op ++ 32 ∷ (value_text w ++ rest))) _ at_blank (gap refl (single (relation_first op _) (gap refl b.spelled))) refl in
      record {
        tokens = a.tokens;
        spelled = other_text (ap (λ l. l ++ rest) (text_at (Value-F.Rel op v w) (record { start = v.span.start; end = w.span.end }))
            ∙ between_text (value_text v) (relation_text op) (value_text w) rest) a.spelled;
        found = _;
        derived = relation a.derived b.derived;
        same = one_same (Value-F.Rel op a.found b.found) (Value-F.Rel op v w) _ _ (two_same (λ x y. bare_shape (Value-F.Rel op x y)) a.same b.same);
        head = a.head;
      }
  again (no_prefix q) r total rest after h p k =
      let a = again q r total rest after h p k in
      record { tokens = a.tokens; spelled = a.spelled; found = a.found; derived = no_prefix a.derived; same = a.same; head = a.head }
  again (negation {from = from} {value = v} q) r total rest after h p k =
      let a = again q r.1 total rest after h p k in
      record {
        tokens = _;
        spelled = other_text (ap (λ l. l ++ rest) (text_at (Value-F.Not v) (record { start = from.start; end = v.span.end }))) (single refl (gap refl a.spelled));
        found = _;
        derived = negation a.derived;
        same = one_same (Value-F.Not a.found) (Value-F.Not v) _ _ (ap (λ x. bare_shape (Value-F.Not x)) a.same);
        head = refl;
      }
  again (definedness {from = from} {value = v} q) r total rest after h p k =
      let a = again q r.1 total rest after h p k in
      record {
        tokens = _;
        spelled = other_text (ap (λ l. l ++ rest) (text_at (Value-F.Defined v) (record { start = from.start; end = v.span.end }))) (single refl (gap refl a.spelled));
        found = _;
        derived = definedness a.derived;
        same = one_same (Value-F.Defined a.found) (Value-F.Defined v) _ _ (ap (λ x. bare_shape (Value-F.Defined x)) a.same);
        head = refl;
      }
  again (conjunction q) r total rest after h p k = all_again (conjuncts_again q r total rest after h p k)
  again (disjunction q) r total rest after h p k = any_again (disjuncts_again q r total rest after h p k)
  again (no_update q) r total rest after h p k =
      let a = again q r total rest after h p k in
      record { tokens = a.tokens; spelled = a.spelled; found = a.found; derived = no_update a.derived; same = a.same; head = a.head }
  again (update {op = op} {left = v} {right = w} q s) r total rest after h p k =
      let t = read_after q r in
      let b = again s t.1 total rest after h p k in
      let a = again q r total (32 ∷ (update_text op ++ 32 ∷ (value_text w ++ rest))) _ at_blank (gap refl (single (update_first op _ t.0) (gap refl b.spelled))) refl in
      record {
        tokens = a.tokens;
        spelled = other_text (ap (λ l. l ++ rest) (text_at (Value-F.Env op v w) (record { start = v.span.start; end = w.span.end }))
            ∙ between_text (value_text v) (update_text op) (value_text w) rest) a.spelled;
        found = _;
        derived = update a.derived b.derived;
        same = one_same (Value-F.Env op a.found b.found) (Value-F.Env op v w) _ _ (two_same (λ x y. bare_shape (Value-F.Env op x y)) a.same b.same);
        head = a.head;
      }

  pub values_again : {tokens : List Placed} {ns : List Node} {left : List Placed} → AreValues tokens ns left → AreRead tokens → (total : ℕ) (rest : List ℕ) (after : List Placed)
      → Ends rest → AreTokens total rest after → begins_relation after ≡ begins_relation left → AllAgain total tokens ns rest after
  values_again no_value r total rest after h p k = record { tokens = after; spelled = p; found = []; derived = no_value; same = refl; head = k }
  values_again (value {first = n} {more = ns} q s) r total rest after h p k =
      let b = values_again s (read_after q r) total rest after h p k in
      let a = again q r total (spaced ns rest) b.tokens (spaced_ends ns rest h) (spaced_tokens ns rest b.spelled) b.head in
      record {
        tokens = a.tokens;
        spelled = other_text (spaced_text n ns rest) a.spelled;
        found = a.found ∷ b.found;
        derived = value a.derived b.derived;
        same = list_same a.same b.same;
        head = a.head;
      }

  conjuncts_again : {tokens : List Placed} {n : Node} {ns : List Node} {left : List Placed} → AreConjuncts tokens n ns left → AreRead tokens → (total : ℕ) (rest : List ℕ) (after : List Placed)
      → Ends rest → AreTokens total rest after → begins_relation after ≡ begins_relation left → PartsAgain (λ ts m ms. AreConjuncts ts m ms after) (codes " & ") total tokens n ns rest
  conjuncts_again (last_conjunct q) r total rest after h p k =
      let a = again q r total rest after h p k in
      record { tokens = a.tokens; spelled = a.spelled; found = a.found; others = []; derived = last_conjunct a.derived; same = a.same; same_others = refl; head = a.head }
  conjuncts_again (conjunct {first = n} {next = m} {more = ns} q s) r total rest after h p k =
      let b = conjuncts_again s (read_after q r).1 total rest after h p k in
      let a = again q r total (32 ∷ 38 ∷ 32 ∷ (joined_by (codes " & ") (map value_text (m ∷ ns)) ++ rest)) _ at_blank (gap refl (single refl (gap refl b.spelled))) refl in
      record {
        tokens = a.tokens;
        spelled = other_text (joined_text (codes " & ") n m ns rest) a.spelled;
        found = a.found;
        others = b.found ∷ b.others;
        derived = conjunct a.derived b.derived;
        same = a.same;
        same_others = list_same b.same b.same_others;
        head = a.head;
      }

  disjuncts_again : {tokens : List Placed} {n : Node} {ns : List Node} {left : List Placed} → AreDisjuncts tokens n ns left → AreRead tokens → (total : ℕ) (rest : List ℕ) (after : List Placed)
      → Ends rest → AreTokens total rest after → begins_relation after ≡ begins_relation left → PartsAgain (λ ts m ms. AreDisjuncts ts m ms after) (codes " | ") total tokens n ns rest
  disjuncts_again (last_disjunct q) r total rest after h p k =
      let a = again q r total rest after h p k in
      record { tokens = a.tokens; spelled = a.spelled; found = a.found; others = []; derived = last_disjunct a.derived; same = a.same; same_others = refl; head = a.head }
  disjuncts_again (disjunct {first = n} {next = m} {more = ns} q s) r total rest after h p k =
      let b = disjuncts_again s (read_after q r).1 total rest after h p k in
      let a = again q r total (32 ∷ 124 ∷ 32 ∷ (joined_by (codes " | ") (map value_text (m ∷ ns)) ++ rest)) _ at_blank (gap refl (single refl (gap refl b.spelled))) refl in
      record {
        tokens = a.tokens;
        spelled = other_text (joined_text (codes " | ") n m ns rest) a.spelled;
        found = a.found;
        others = b.found ∷ b.others;
        derived = disjunct a.derived b.derived;
        same = a.same;
        same_others = list_same b.same b.same_others;
        head = a.head;
      }
