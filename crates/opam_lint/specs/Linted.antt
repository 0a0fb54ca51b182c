-- What is found in the bytes of an opam file: why they are none, or else what is found in the file whose text they are.
use Rattle.std.specs.Prelude.{◌≢◌, ℕ, List, [], ◌∷◌}
use Rattle.syntax_trees.specs.Faults.{IsFaultOf}
use Rattle.syntax_trees.specs.Trees.{IsTextOf, items_of}
use Rattle.syntax_trees.specs.declared.fault.SyntaxFault.{SyntaxFault}
use Rattle.syntax_trees.specs.declared.fault.SyntaxFault.TheVariants.{Ended, Stray, Deep, Doubled, Memory}
use Rattle.syntax_trees.specs.declared.file.File.{File}
use Rattle.opam_package.specs.declared.fault.PackageFault.TheVariants.{Syntax}
use Rattle.opam_lint.specs.declared.finding.Finding.{Finding}
use Rattle.opam_lint.specs.declared.finding.Problem.TheVariants.{Fault}
use Rattle.opam_lint.specs.Findings.{file_findings, finding}

-- a doubled name has a code of its own
abbrev pub syntax_code : SyntaxFault → ℕ
syntax_code (Ended at) = 1
syntax_code (Stray at) = 1
syntax_code (Deep at) = 1
syntax_code (Doubled at) = 2
syntax_code Memory = 1

-- where bytes are no file
abbrev pub syntax_place : SyntaxFault → ℕ
syntax_place (Ended at) = at
syntax_place (Stray at) = at
syntax_place (Deep at) = at
syntax_place (Doubled at) = at
syntax_place Memory = 0

-- why bytes are no file is found alone
abbrev pub syntax_finding : SyntaxFault → Finding
syntax_finding fault = finding (syntax_code fault) (syntax_place fault) (Fault (Syntax fault))

-- the bytes have this fault, which is no want of memory; or else these are the findings of the file whose text they are
pub data IsLinted (bytes : List ℕ) : List Finding → Type 0 where
  no_file : {fault : SyntaxFault} → fault ≢ Memory → IsFaultOf bytes fault → IsLinted bytes (syntax_finding fault ∷ [])
  a_file : {file : File} → IsTextOf bytes file → IsLinted bytes (file_findings (items_of file) file.places)
