-- The worked rows, derived step by step.
use Rattle.std.proofs.Common.{◌≡◌, ℕ, List, [], ◌∷◌, ◌++◌, Bool, true, false, not, ◌&&◌, refl, lit≤}
use Rattle.std.specs.Prelude.{codes, IsFalse, ◌==◌, if◌then◌else◌}
use Rattle.std.specs.List.{list_all}
use Rattle.opam_names.proofs.Bytes.{both_left, both_right}
use Rattle.std.specs.declared.option.Option.TheVariants.{Some}
use Rattle.syntax_trees.specs.declared.token.Token.{Token}
use Rattle.syntax_trees.specs.declared.token.Token.TheVariants.{Text, Plain, Colon, OpenList, CloseList, OpenBraces, CloseBraces, Relation, And}
use Rattle.syntax_trees.specs.declared.tree.RelOp.TheVariants.{Eq, Ge}
use Rattle.syntax_trees.specs.declared.tree.Node.{Node}
use Rattle.syntax_trees.specs.declared.tree.Span.{Span}
use Rattle.syntax_trees.specs.declared.tree.Value.{Value}
use Rattle.syntax_trees.specs.Texts.{IsInside, closes, gives}
use Rattle.syntax_trees.specs.Tokens.{Placed, placed, AreTokens, ends, gap, single, text}
use Rattle.syntax_trees.specs.Grammar.{Spells, atom_of, begins_relation, ValueLevel, RelationLevel, BracedLevel, PrimaryLevel, atom, list, bare, braced, pre_relation, alone, relation, no_prefix, conjunction, disjunction, no_update, no_value, value, last_conjunct, conjunct, last_disjunct}
use Rattle.syntax_trees.specs.Files.{AreEntries, no_entry, field_next}
use Rattle.syntax_trees.specs.Trees.{IsSpelling}
use Rattle.syntax_trees.proofs.Folds.{depth_at}
use Rattle.syntax_trees.specs.Rows.{RowsAreSpelled}
use Rattle.syntax_trees.specs.Samples.{sample_text, sample, lock_text, lock, dune_text, dune, fmt_text, fmt, app_text, app, doubled_text, doubled}

abbrev pub on : Token → ℕ → ℕ → Placed
on token from to = placed token (record { start = from; end = to })

relation_value : {tokens rest : List Placed} {n : Node} → Spells RelationLevel tokens n rest → Spells ValueLevel tokens n rest
relation_value p = no_update (disjunction (last_disjunct (conjunction (last_conjunct (no_prefix p)))))

braced_value : {tokens rest : List Placed} {n : Node} → Spells BracedLevel tokens n rest → IsFalse (begins_relation rest) → Spells ValueLevel tokens n rest
braced_value p h = relation_value (alone p h)

pub primary_value : {tokens rest : List Placed} {n : Node} → Spells PrimaryLevel tokens n rest → IsFalse (begins_relation rest) → Spells ValueLevel tokens n rest
primary_value p h = braced_value (bare p) h

pub atom_value : {token : Token} {v : Value} {span : Span} {rest : List Placed} → atom_of token ≡ Some v → IsFalse (begins_relation rest)
    → Spells ValueLevel (placed token span ∷ rest) (record { value = v; span = span }) rest
atom_value e h = primary_value (atom e) h

chosen : {A : Type 0} (p q r : A) (x y : Bool) → (not x && not y) ≡ true → (if x then p else (if y then q else r)) ≡ r
chosen p q r false false h = refl
chosen p q r false true h = absurd cc
chosen p q r true y h = absurd cc

-- neither a backslash nor a quote
abbrev is_simple : ℕ → Bool
is_simple b = not (b == 92) && not (b == 34)

-- a text without escapes spells itself
quoted_here : (w : List ℕ) {rest : List ℕ} → list_all is_simple w ≡ true → IsInside false (w ++ 34 ∷ rest) w rest
quoted_here [] h = closes refl
quoted_here (b ∷ w) {rest} h =
    gives {part = b ∷ []} {text = w} (chosen _ _ _ (b == 92) (b == 34) (both_left (is_simple b) (list_all is_simple w) h))
    (quoted_here w (both_right (is_simple b) (list_all is_simple w) h))

abbrev sample_tokens : List Placed
sample_tokens =
    (on (Plain (codes "a")) 0 1) ∷ (on Colon 1 2) ∷ (on OpenList 2 3) ∷ (on (Plain (codes "x")) 4 5) ∷ (on (Text
    (codes "y")) 6 9) ∷ (on OpenBraces 9 10) ∷ (on (Relation Ge) 10 12) ∷ (on (Text (codes "2")) 12 15) ∷
    (on CloseBraces 15 16) ∷ (on CloseList 17 18) ∷ []

sample_are_tokens : AreTokens 18 sample_text sample_tokens
sample_are_tokens =
    single refl (single refl (single refl (gap refl (single refl (gap refl (text refl (quoted_here (codes "y") refl)
    (single refl (single refl (text refl (quoted_here (codes "2") refl) (single refl (gap refl (single refl
    (ends refl)))))))))))))

sample_are_entries : AreEntries sample_tokens sample
sample_are_entries =
    field_next (primary_value (list (value (atom_value refl refl) (value (braced_value (braced (atom refl) (value
    (relation_value (pre_relation (bare (atom refl)))) no_value)) refl) no_value))) refl) no_entry

pub sample_is_spelled : IsSpelling sample_text sample
sample_is_spelled = record { derived = (sample_tokens, sample_are_tokens, sample_are_entries); shallow = simp depth_at (lit≤ tt); single = refl }

abbrev lock_tokens : List Placed
lock_tokens =
    (on (Plain (codes "name")) 0 4) ∷ (on Colon 4 5) ∷ (on (Text (codes "proj")) 6 12) ∷ (on (Plain
    (codes "depends")) 13 20) ∷ (on Colon 20 21) ∷ (on OpenList 22 23) ∷ (on (Text (codes "alcotest")) 23 33) ∷
    (on OpenBraces 34 35) ∷ (on (Relation Eq) 35 36) ∷ (on (Text (codes "1.7.0")) 37 44) ∷ (on And 45 46) ∷ (on
    (Plain (codes "with-test")) 47 56) ∷ (on CloseBraces 56 57) ∷ (on (Text (codes "app")) 58 63) ∷
    (on OpenBraces 64 65) ∷ (on (Relation Eq) 65 66) ∷ (on (Text (codes "1.0")) 67 72) ∷ (on CloseBraces 72 73) ∷
    (on (Text (codes "dune")) 74 80) ∷ (on OpenBraces 81 82) ∷ (on (Relation Eq) 82 83) ∷ (on (Text
    (codes "3.10.0")) 84 92) ∷ (on CloseBraces 92 93) ∷ (on (Text (codes "fmt")) 94 99) ∷ (on OpenBraces 100 101) ∷
    (on (Relation Eq) 101 102) ∷ (on (Text (codes "0.9.0")) 103 110) ∷ (on CloseBraces 110 111) ∷
    (on CloseList 111 112) ∷ []

lock_are_tokens : AreTokens 113 lock_text lock_tokens
lock_are_tokens =
    single refl (single refl (gap refl (text refl (quoted_here (codes "proj") refl) (gap refl (single refl
    (single refl (gap refl (single refl (text refl (quoted_here (codes "alcotest") refl) (gap refl (single refl
    (single refl (gap refl (text refl (quoted_here (codes "1.7.0") refl) (gap refl (single refl (gap refl
    (single refl (single refl (gap refl (text refl (quoted_here (codes "app") refl) (gap refl (single refl
    (single refl (gap refl (text refl (quoted_here (codes "1.0") refl) (single refl (gap refl (text refl
    (quoted_here (codes "dune") refl) (gap refl (single refl (single refl (gap refl (text refl (quoted_here
    (codes "3.10.0") refl) (single refl (gap refl (text refl (quoted_here (codes "fmt") refl) (gap refl (single refl
    (single refl (gap refl (text refl (quoted_here (codes "0.9.0") refl) (single refl (single refl (gap refl
    (ends refl))))))))))))))))))))))))))))))))))))))))))))))

lock_are_entries : AreEntries lock_tokens lock
lock_are_entries =
    field_next (atom_value refl refl) (field_next (primary_value (list (value (braced_value (braced (atom refl) (value
    (no_update (disjunction (last_disjunct (conjunction (conjunct (no_prefix (pre_relation (bare (atom refl))))
    (last_conjunct (no_prefix (alone (bare (atom refl)) refl)))))))) no_value)) refl) (value (braced_value (braced
    (atom refl) (value (relation_value (pre_relation (bare (atom refl)))) no_value)) refl) (value (braced_value
    (braced (atom refl) (value (relation_value (pre_relation (bare (atom refl)))) no_value)) refl) (value
    (braced_value (braced (atom refl) (value (relation_value (pre_relation (bare
    (atom refl)))) no_value)) refl) no_value))))) refl) no_entry)

pub lock_is_spelled : IsSpelling lock_text lock
lock_is_spelled = record { derived = (lock_tokens, lock_are_tokens, lock_are_entries); shallow = simp depth_at (lit≤ tt); single = refl }

abbrev dune_tokens : List Placed
dune_tokens =
    (on (Plain (codes "opam-version")) 0 12) ∷ (on Colon 12 13) ∷ (on (Text (codes "2.0")) 14 19) ∷ (on (Plain
    (codes "build")) 20 25) ∷ (on Colon 25 26) ∷ (on OpenList 27 28) ∷ (on OpenList 28 29) ∷ (on (Text
    (codes "ocaml")) 29 36) ∷ (on (Text (codes "boot.ml")) 37 46) ∷ (on (Text (codes "-j")) 47 51) ∷ (on (Plain
    (codes "jobs")) 52 56) ∷ (on CloseList 56 57) ∷ (on OpenList 58 59) ∷ (on (Text (codes "./dune.exe")) 59 71) ∷
    (on (Text (codes "build")) 72 79) ∷ (on (Text (codes "-p")) 80 84) ∷ (on (Plain (codes "name")) 85 89) ∷
    (on CloseList 89 90) ∷ (on CloseList 90 91) ∷ []

dune_are_tokens : AreTokens 92 dune_text dune_tokens
dune_are_tokens =
    single refl (single refl (gap refl (text refl (quoted_here (codes "2.0") refl) (gap refl (single refl (single refl
    (gap refl (single refl (single refl (text refl (quoted_here (codes "ocaml") refl) (gap refl (text refl
    (quoted_here (codes "boot.ml") refl) (gap refl (text refl (quoted_here (codes "-j") refl) (gap refl (single refl
    (single refl (gap refl (single refl (text refl (quoted_here (codes "./dune.exe") refl) (gap refl (text refl
    (quoted_here (codes "build") refl) (gap refl (text refl (quoted_here (codes "-p") refl) (gap refl (single refl
    (single refl (single refl (gap refl (ends refl))))))))))))))))))))))))))))))

dune_are_entries : AreEntries dune_tokens dune
dune_are_entries =
    field_next (atom_value refl refl) (field_next (primary_value (list (value (primary_value (list (value
    (atom_value refl refl) (value (atom_value refl refl) (value (atom_value refl refl) (value
    (atom_value refl refl) no_value))))) refl) (value (primary_value (list (value (atom_value refl refl) (value
    (atom_value refl refl) (value (atom_value refl refl) (value
    (atom_value refl refl) no_value))))) refl) no_value))) refl) no_entry)

pub dune_is_spelled : IsSpelling dune_text dune
dune_is_spelled = record { derived = (dune_tokens, dune_are_tokens, dune_are_entries); shallow = simp depth_at (lit≤ tt); single = refl }

abbrev fmt_tokens : List Placed
fmt_tokens =
    (on (Plain (codes "opam-version")) 0 12) ∷ (on Colon 12 13) ∷ (on (Text (codes "2.0")) 14 19) ∷ (on (Plain
    (codes "depends")) 20 27) ∷ (on Colon 27 28) ∷ (on OpenList 29 30) ∷ (on (Text (codes "dune")) 30 36) ∷
    (on OpenBraces 37 38) ∷ (on (Relation Ge) 38 40) ∷ (on (Text (codes "2.0")) 41 46) ∷ (on And 47 48) ∷ (on (Plain
    (codes "build")) 49 54) ∷ (on CloseBraces 54 55) ∷ (on CloseList 55 56) ∷ (on (Plain (codes "build")) 57 62) ∷
    (on Colon 62 63) ∷ (on OpenList 64 65) ∷ (on OpenList 65 66) ∷ (on (Text (codes "dune")) 66 72) ∷ (on (Text
    (codes "build")) 73 80) ∷ (on (Text (codes "-p")) 81 85) ∷ (on (Plain (codes "name")) 86 90) ∷ (on (Text
    (codes "-j")) 91 95) ∷ (on (Plain (codes "jobs")) 96 100) ∷ (on (Text (codes "@runtest")) 101 111) ∷
    (on OpenBraces 112 113) ∷ (on (Plain (codes "with-test")) 113 122) ∷ (on CloseBraces 122 123) ∷
    (on CloseList 123 124) ∷ (on CloseList 124 125) ∷ []

fmt_are_tokens : AreTokens 126 fmt_text fmt_tokens
fmt_are_tokens =
    single refl (single refl (gap refl (text refl (quoted_here (codes "2.0") refl) (gap refl (single refl (single refl
    (gap refl (single refl (text refl (quoted_here (codes "dune") refl) (gap refl (single refl (single refl
    (gap refl (text refl (quoted_here (codes "2.0") refl) (gap refl (single refl (gap refl (single refl (single refl
    (single refl (gap refl (single refl (single refl (gap refl (single refl (single refl (text refl (quoted_here
    (codes "dune") refl) (gap refl (text refl (quoted_here (codes "build") refl) (gap refl (text refl (quoted_here
    (codes "-p") refl) (gap refl (single refl (gap refl (text refl (quoted_here (codes "-j") refl) (gap refl
    (single refl (gap refl (text refl (quoted_here (codes "@runtest") refl) (gap refl (single refl (single refl
    (single refl (single refl (single refl (gap refl (ends refl)))))))))))))))))))))))))))))))))))))))))))))))

fmt_are_entries : AreEntries fmt_tokens fmt
fmt_are_entries =
    field_next (atom_value refl refl) (field_next (primary_value (list (value (braced_value (braced (atom refl) (value
    (no_update (disjunction (last_disjunct (conjunction (conjunct (no_prefix (pre_relation (bare (atom refl))))
    (last_conjunct (no_prefix (alone (bare (atom refl)) refl)))))))) no_value)) refl) no_value)) refl) (field_next
    (primary_value (list (value (primary_value (list (value (atom_value refl refl) (value (atom_value refl refl)
    (value (atom_value refl refl) (value (atom_value refl refl) (value (atom_value refl refl) (value
    (atom_value refl refl) (value (braced_value (braced (atom refl) (value
    (atom_value refl refl) no_value)) refl) no_value)))))))) refl) no_value)) refl) no_entry))

pub fmt_is_spelled : IsSpelling fmt_text fmt
fmt_is_spelled = record { derived = (fmt_tokens, fmt_are_tokens, fmt_are_entries); shallow = simp depth_at (lit≤ tt); single = refl }

abbrev app_tokens : List Placed
app_tokens =
    (on (Plain (codes "opam-version")) 0 12) ∷ (on Colon 12 13) ∷ (on (Text (codes "2.0")) 14 19) ∷ (on (Plain
    (codes "depends")) 20 27) ∷ (on Colon 27 28) ∷ (on OpenList 29 30) ∷ (on (Text (codes "fmt")) 30 35) ∷ (on (Text
    (codes "dune")) 36 42) ∷ (on OpenBraces 43 44) ∷ (on (Relation Ge) 44 46) ∷ (on (Text (codes "2.0")) 47 52) ∷
    (on CloseBraces 52 53) ∷ (on CloseList 53 54) ∷ (on (Plain (codes "available")) 55 64) ∷ (on Colon 64 65) ∷ (on
    (Plain (codes "os")) 66 68) ∷ (on (Relation Eq) 69 70) ∷ (on (Text (codes "linux")) 71 78) ∷ []

app_are_tokens : AreTokens 79 app_text app_tokens
app_are_tokens =
    single refl (single refl (gap refl (text refl (quoted_here (codes "2.0") refl) (gap refl (single refl (single refl
    (gap refl (single refl (text refl (quoted_here (codes "fmt") refl) (gap refl (text refl (quoted_here
    (codes "dune") refl) (gap refl (single refl (single refl (gap refl (text refl (quoted_here (codes "2.0") refl)
    (single refl (single refl (gap refl (single refl (single refl (gap refl (single refl (gap refl (single refl
    (gap refl (text refl (quoted_here (codes "linux") refl) (gap refl (ends refl)))))))))))))))))))))))))))))

app_are_entries : AreEntries app_tokens app
app_are_entries =
    field_next (atom_value refl refl) (field_next (primary_value (list (value (atom_value refl refl) (value
    (braced_value (braced (atom refl) (value (relation_value (pre_relation (bare
    (atom refl)))) no_value)) refl) no_value))) refl) (field_next (relation_value (relation (bare (atom refl)) (bare
    (atom refl)))) no_entry))

pub app_is_spelled : IsSpelling app_text app
app_is_spelled = record { derived = (app_tokens, app_are_tokens, app_are_entries); shallow = simp depth_at (lit≤ tt); single = refl }

abbrev pub doubled_tokens : List Placed
doubled_tokens =
    (on (Plain (codes "a")) 0 1) ∷ (on Colon 1 2) ∷ (on (Plain (codes "x")) 3 4) ∷ (on (Plain (codes "a")) 5 6) ∷
    (on Colon 6 7) ∷ (on (Plain (codes "y")) 8 9) ∷ []

pub doubled_are_tokens : AreTokens 9 doubled_text doubled_tokens
doubled_are_tokens =
    single refl (single refl (gap refl (single refl (gap refl (single refl (single refl (gap refl (single refl
    (ends refl)))))))))

pub doubled_are_entries : AreEntries doubled_tokens doubled
doubled_are_entries =
    field_next (atom_value refl refl) (field_next (atom_value refl refl) no_entry)

pub rows_are_spelled : RowsAreSpelled
rows_are_spelled = record {
  empty = record { derived = ([], ends refl, no_entry); shallow = lit≤ tt; single = refl };
  a_sample = sample_is_spelled;
  a_lock = lock_is_spelled;
  dune_file = dune_is_spelled;
  fmt_file = fmt_is_spelled;
  app_file = app_is_spelled;
  all_escapes =
      gives {part = 92 ∷ []} refl (gives {part = 34 ∷ []} refl (gives {part = 39 ∷ []} refl (gives {part = 10 ∷ []} refl (gives {part = 9 ∷ []} refl
      (gives {part = 13 ∷ []} refl (gives {part = 8 ∷ []} refl (gives {part = 32 ∷ []} refl (gives {part = 65 ∷ []} refl (gives {part = 74 ∷ []} refl
      (gives {part = []} refl (gives {part = 122 ∷ []} refl (closes refl))))))))))));
}
