-- What is read is the text of the file, and what is refused is the text of none.
use Rattle.std.proofs.Common.{◌≡◌, ◌≢◌, ℕ, List, [], length, subst, ◌∙◌}
use Rattle.std.specs.Prelude.{Result, Ok, Err, IfErr, IfOk, OnOk}
use Rattle.std.specs.declared.option.Option.{Option}
use Rattle.std.specs.declared.option.Option.TheVariants.{None}
use Rattle.syntax_trees.specs.declared.entry.ReadEntry.{ReadEntry}
use Rattle.syntax_trees.specs.declared.fault.SyntaxFault.{SyntaxFault}
use Rattle.syntax_trees.specs.declared.fault.SyntaxFault.TheVariants.{Ended, Stray, Deep, Doubled, Memory}
use Rattle.syntax_trees.specs.declared.file.File.{File}
use Rattle.syntax_trees.specs.Assembly.{TellsDoubled, entries_twice}
use Rattle.syntax_trees.specs.Files.{AreEntries}
use Rattle.syntax_trees.specs.Nesting.{AreShallow}
use Rattle.syntax_trees.specs.ParsingEntries.{HasNoShallow}
use Rattle.syntax_trees.specs.Read.{read_entries}
use Rattle.syntax_trees.specs.Faults.{IsDerived, IsFaultOf, IsNowhereDeep}
use Rattle.opam_syntax.specs.Reading.{IsRefused}
use Rattle.syntax_trees.specs.Tokens.{Placed, AreTokens}
use Rattle.syntax_trees.specs.Trees.{HasEntries, IsTextOf}
use Rattle.syntax_trees.proofs.Doubling.{twice_is_doubled}
use Rattle.syntax_trees.proofs.Ended.{file_tokens_follow}
use Rattle.syntax_trees.proofs.NowhereDeep.{derived_nowhere_deep, faultless}
use Rattle.syntax_trees.proofs.OneTokens.{same_tokens}
use Rattle.syntax_faults.proofs.DeepDecided.{nowhere_below}
use Rattle.syntax_faults.proofs.Sinking.{below_shallow}

pub text_of_file : (bytes : List ℕ) (tokens : List Placed) (entries : List ReadEntry) (file : File) → AreTokens (length bytes) bytes tokens
    → AreEntries tokens (read_entries entries) → AreShallow (read_entries entries) → HasEntries file (read_entries entries) → entries_twice [] entries ≡ None
    → IsTextOf bytes file
text_of_file bytes tokens entries file p q s h e = (
  read_entries entries,
  record { derived = (tokens, p, q); shallow = s; single = twice_is_doubled bytes tokens entries p q ∙ e },
  h,
)

-- bytes that spell no tokens, and bytes of which the tokens are no shallow items
pub no_tokens : (bytes : List ℕ) → ((all : List Placed) → AreTokens (length bytes) bytes all → ⊥) → IsNowhereDeep bytes → ¬ (IsDerived bytes)
no_tokens bytes none nowhere (entries, (tokens, p, q)) = none tokens p

pub no_shallow : (bytes : List ℕ) (tokens : List Placed) → AreTokens (length bytes) bytes tokens → HasNoShallow tokens → IsNowhereDeep bytes → ¬ (IsDerived bytes)
no_shallow bytes tokens p none nowhere (entries, (others, q, r)) =
    let derived : AreEntries tokens entries = subst (λ ts. AreEntries ts entries) (same_tokens q p) r in
    let f = file_tokens_follow tokens entries derived in
    none entries derived (below_shallow tokens entries derived (nowhere_below bytes tokens f.0 nowhere p f.1))

-- a fault of the bytes refuses them
pub fault_refused : (bytes : List ℕ) (fault : SyntaxFault) → IsFaultOf bytes fault → IsRefused bytes fault
fault_refused bytes Memory f = tt
fault_refused bytes (Ended at) f = λ file t. let g = faultless bytes file (Ended at) t f in cc
fault_refused bytes (Stray at) f = λ file t. let g = faultless bytes file (Stray at) t f in cc
fault_refused bytes (Deep at) f = λ file t. let g = faultless bytes file (Deep at) t f in cc
fault_refused bytes (Doubled at) f = λ file t. let g = faultless bytes file (Doubled at) t f in cc

-- the fault of an assembled file: a doubled name of shallow items
doubled_told : (bytes : List ℕ) (tokens : List Placed) (entries : List ReadEntry) (fault : SyntaxFault) → AreTokens (length bytes) bytes tokens
    → AreEntries tokens (read_entries entries) → AreShallow (read_entries entries) → TellsDoubled (entries_twice [] entries) fault → IsFaultOf bytes fault
doubled_told bytes tokens entries (Doubled at) p q s h =
    (derived_nowhere_deep bytes tokens (read_entries entries) p q s, (read_entries entries, (tokens, p, q), twice_is_doubled bytes tokens entries p q ∙ h))
doubled_told bytes tokens entries Memory p q s h = tt
doubled_told bytes tokens entries (Ended at) p q s h = absurd h
doubled_told bytes tokens entries (Stray at) p q s h = absurd h
doubled_told bytes tokens entries (Deep at) p q s h = absurd h

pub fault_told : (bytes : List ℕ) (tokens : List Placed) (entries : List ReadEntry) (result : Result File SyntaxFault) → AreTokens (length bytes) bytes tokens
    → AreEntries tokens (read_entries entries) → AreShallow (read_entries entries) → IfErr result (TellsDoubled (entries_twice [] entries))
    → IfErr result (IsFaultOf bytes)
fault_told bytes tokens entries (Ok file) p q s h = tt
fault_told bytes tokens entries (Err fault) p q s h = doubled_told bytes tokens entries fault p q s h

-- the same of the answer of a call
pub text_read : (bytes : List ℕ) (tokens : List Placed) (entries : List ReadEntry) (result : Result File SyntaxFault) → AreTokens (length bytes) bytes tokens
    → AreEntries tokens (read_entries entries) → AreShallow (read_entries entries) → IfOk result (λ file. HasEntries file (read_entries entries))
    → OnOk result (entries_twice [] entries ≡ None) → IfOk result (λ file. IsTextOf bytes file)
text_read bytes tokens entries (Ok file) p q s h e = text_of_file bytes tokens entries file p q s h e
text_read bytes tokens entries (Err fault) p q s h e = tt
