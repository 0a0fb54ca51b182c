-- Findings of bytes by those of their file, or by why they are none.
use Rattle.std.proofs.Common.{◌≡◌, ◌≢◌, ℕ, List, [], ◌∷◌, sym, subst}
use Rattle.std.specs.Result.{IfOk, OnOk}
use Rattle.std.specs.declared.result.Result.{Result}
use Rattle.std.specs.declared.result.Result.TheVariants.{Ok, Err}
use Rattle.std.proofs.lemmas.Result.{IfOk-weaker}
use Rattle.syntax_trees.specs.Faults.{IsFaultOf}
use Rattle.syntax_trees.specs.Trees.{IsTextOf, items_of}
use Rattle.syntax_trees.specs.declared.fault.SyntaxFault.{SyntaxFault}
use Rattle.syntax_trees.specs.declared.fault.SyntaxFault.TheVariants.{Memory}
use Rattle.syntax_trees.specs.declared.file.File.{File}
use Rattle.opam_lint.specs.declared.finding.Finding.{Finding}
use Rattle.opam_lint.specs.Findings.{file_findings}
use Rattle.opam_lint.specs.Linted.{IsLinted, a_file, no_file, syntax_finding}

pub file_linted : {X E : Type 0} (bytes : List ℕ) (file : File) (items : X → List Finding) (r : Result X E) → IsTextOf bytes file
    → IfOk r (λ all. items all ≡ file_findings (items_of file) file.places) → IfOk r (λ all. IsLinted bytes (items all))
file_linted bytes file items r text are =
    IfOk-weaker r (λ all. items all ≡ file_findings (items_of file) file.places) (λ all. IsLinted bytes (items all))
    (λ all is. subst (IsLinted bytes) (sym is) (a_file text)) are

pub syntax_linted : {X E : Type 0} (bytes : List ℕ) (fault : SyntaxFault) (items : X → List Finding) (r : Result X E) → IsFaultOf bytes fault
    → OnOk r (fault ≢ Memory) → IfOk r (λ all. items all ≡ syntax_finding fault ∷ []) → IfOk r (λ all. IsLinted bytes (items all))
syntax_linted bytes fault items (Ok all) told known is = subst (IsLinted bytes) (sym is) (no_file known told)
syntax_linted bytes fault items (Err e) told known is = tt
