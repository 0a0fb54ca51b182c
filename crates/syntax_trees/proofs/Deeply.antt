-- A text that nests too deep.
use Rattle.std.proofs.Common.{◌≡◌, ℕ, zero, suc, ◌<◌, ◌≤◌, ◌-◌, ◌+◌, Bool, true, false, List, [], ◌∷◌, ◌++◌, refl, ap, ◌∙◌, arith, lit<, if◌then◌else◌}
use Rattle.std.specs.Prelude.{codes, replicate}
use Rattle.std.proofs.lemmas.Bool.Decides.{nat_tests}
use Rattle.std.specs.Option.{unwrap_or}
use Rattle.std.specs.declared.option.Option.{Option}
use Rattle.std.specs.declared.option.Option.TheVariants.{None, Some}
use Rattle.syntax_trees.specs.declared.fault.SyntaxFault.TheVariants.{Deep}
use Rattle.syntax_trees.specs.declared.token.Token.TheVariants.{Plain, Colon, OpenList, CloseList}
use Rattle.syntax_trees.specs.declared.tree.Node.{Node}
use Rattle.syntax_trees.specs.declared.tree.Value.TheOpen.{Value-F}
use Rattle.syntax_trees.specs.Tokens.{Placed, placed, span_between, AreTokens, ends, single}
use Rattle.syntax_trees.specs.Grammar.{Spells, PrimaryLevel, list, no_value, value}
use Rattle.syntax_trees.specs.Files.{Entry, field_entry, AreEntries, no_entry, field_next}
use Rattle.syntax_trees.specs.Nesting.{around, is_in, deeper, first_of}
use Rattle.syntax_trees.specs.Faults.{IsFaultOf}
use Rattle.syntax_trees.specs.Rows.{lists_opened}
use Rattle.syntax_trees.specs.Samples.{span, list_of}
use Rattle.syntax_trees.proofs.Derived.{on, primary_value}
use Rattle.syntax_trees.proofs.Shallow.{around_at, not_so_soon}

-- a bracket, and whether it opens
abbrev bracket_bytes : List Bool → List ℕ
bracket_bytes [] = []
bracket_bytes (opens ∷ more) = (if opens then 91 else 93) ∷ bracket_bytes more

abbrev bracket_tokens : ℕ → List Bool → List Placed
bracket_tokens total [] = []
bracket_tokens total (opens ∷ more) =
    placed (if opens then OpenList else CloseList) (span_between total (bracket_bytes (opens ∷ more)) (bracket_bytes more)) ∷ bracket_tokens total more

bracket_are_tokens : (total : ℕ) (brackets : List Bool) → AreTokens total (bracket_bytes brackets) (bracket_tokens total brackets)
bracket_are_tokens total [] = ends refl
bracket_are_tokens total (true ∷ more) = single refl (bracket_are_tokens total more)
bracket_are_tokens total (false ∷ more) = single refl (bracket_are_tokens total more)

-- so many lists, each in the next, round an empty one
abbrev nested : ℕ → ℕ → ℕ → Node
nested zero from to = list_of [] from to
nested (suc n) from to = list_of (nested n (from + 1) (to - 1) ∷ []) from to

abbrev nested_tokens : ℕ → ℕ → ℕ → List Placed → List Placed
nested_tokens zero from to rest = on OpenList from (from + 1) ∷ on CloseList (to - 1) to ∷ rest
nested_tokens (suc n) from to rest = on OpenList from (from + 1) ∷ nested_tokens n (from + 1) (to - 1) (on CloseList (to - 1) to ∷ rest)

nested_spells : (n from to : ℕ) (rest : List Placed) → Spells PrimaryLevel (nested_tokens n from to rest) (nested n from to) rest
nested_spells zero from to rest = list no_value
nested_spells (suc n) from to rest = list (value (primary_value (nested_spells n (from + 1) (to - 1) (on CloseList (to - 1) to ∷ rest)) refl) no_value)

inside_span : (place from to : ℕ) → from ≤ place → place < to → is_in place (span from to) ≡ true
inside_span place from to l m = grind (arith, nat_tests)

the_same : {m n : ℕ} → Some m ≡ Some n → m ≡ n
the_same e = cc

one_deeper : (b : Bool) (o : Option ℕ) (n : ℕ) → b ≡ true → o ≡ Some n → (if b then first_of (deeper (first_of o None)) (Some 0) else None) ≡ Some (suc n)
one_deeper true (Some m) n e f = let g = the_same f in ap Some (omega arith)
one_deeper true None n e f = absurd cc
one_deeper false o n e f = absurd cc

nested_around : (n place from to : ℕ) → place ≡ from + n → place + n < to → around place (nested n from to) ≡ Some n
nested_around zero place from to e l =
    around_at place (Value-F.List []) (span from to)
    ∙ ap (λ b. if b then Some 0 else None) (inside_span place from to (omega arith) (omega arith))
nested_around (suc n) place from to e l =
    let inner = nested n (from + 1) (to - 1) in
    let h : around place inner ≡ Some n = nested_around n place (from + 1) (to - 1) (omega arith) (omega arith) in
    around_at place (Value-F.List (inner ∷ [])) (span from to)
    ∙ one_deeper (is_in place (span from to)) (around place inner) n (inside_span place from to (omega arith) (omega arith)) h

at_least : (o : Option ℕ) (n : ℕ) → o ≡ Some n → n ≤ unwrap_or (first_of o None) 0
at_least None n e = absurd cc
at_least (Some m) n e = let f = the_same e in omega arith

abbrev deep : List Entry
deep = field_entry (codes "a") (span 0 1) (nested 64 2 132) ∷ []

abbrev deep_tokens : List Placed
deep_tokens = on (Plain (codes "a")) 0 1 ∷ on Colon 1 2 ∷ nested_tokens 64 2 132 []

deep_are_tokens : AreTokens 132 (lists_opened 65 ++ replicate 65 93) deep_tokens
deep_are_tokens = single refl (single refl (bracket_are_tokens 132 (replicate 65 true ++ replicate 65 false)))

deep_are_entries : AreEntries deep_tokens deep
deep_are_entries = field_next (primary_value (nested_spells 64 2 132 []) refl) no_entry

pub too_many_lists : IsFaultOf (lists_opened 65) (Deep 66)
too_many_lists = record {
  deep = record {
    within = lit< tt;
    nests = record {
      more = replicate 65 93;
      tokens = deep_tokens;
      entries = deep;
      spelled = deep_are_tokens;
      derived = deep_are_entries;
      opens = refl;
      nested = at_least (around 66 (nested 64 2 132)) 64 (nested_around 64 66 2 132 refl (lit< tt));
    };
    whole = refl;
  };
  first = λ earlier l d. let a = not_so_soon _ earlier d.nests in omega arith;
}
