-- What comes of the bytes of an install file (opam manual, package definitions: `.install` files).
use Rattle.std.specs.Prelude.{◌≡◌, ◌≢◌, ℕ, List}
use Rattle.std.specs.declared.option.Option.TheVariants.{None}
use Rattle.syntax_trees.specs.Faults.{IsFaultOf}
use Rattle.syntax_trees.specs.Trees.{IsTextOf}
use Rattle.syntax_trees.specs.declared.fault.SyntaxFault.{SyntaxFault}
use Rattle.syntax_trees.specs.declared.fault.SyntaxFault.TheVariants as syntax
use Rattle.syntax_trees.specs.declared.file.File.{File}
use Rattle.install_sections.specs.declared.fault.InstallFault.{InstallFault}
use Rattle.install_sections.specs.declared.fault.InstallFault.TheVariants.{Syntax, Memory}
use Rattle.install_sections.specs.declared.placement.Placement.{Placement}
use Rattle.install_sections.specs.InstallFaults.{IsFirstOf, first_fault}
use Rattle.install_sections.specs.Placements.{faults_in, placements_in}

-- the bytes are the text of a file in which nothing is wrong, and these are its placements
pub record IsInstallText (bytes name : List ℕ) (placements : List Placement) : Type 0 where
  pub file : File
  pub text : IsTextOf bytes file
  pub sound : first_fault (faults_in name file) ≡ None
  pub placed : placements ≡ placements_in name file

-- what is told of a fault of the syntax: want of memory is told as such
abbrev pub told_install_syntax : SyntaxFault → InstallFault
told_install_syntax syntax.Memory = Memory
told_install_syntax (syntax.Ended at) = Syntax (syntax.Ended at)
told_install_syntax (syntax.Stray at) = Syntax (syntax.Stray at)
told_install_syntax (syntax.Deep at) = Syntax (syntax.Deep at)
told_install_syntax (syntax.Doubled at) = Syntax (syntax.Doubled at)

-- why bytes are refused: memory was wanting, this is the fault of the bytes, which are no file, or the first thing that is wrong with the
-- file
pub data IsRefusedInstall : List ℕ → List ℕ → InstallFault → Type 0 where
  no_memory : {bytes name : List ℕ} → IsRefusedInstall bytes name Memory
  no_file : {bytes name : List ℕ} {fault : SyntaxFault} → fault ≢ syntax.Memory → IsFaultOf bytes fault → IsRefusedInstall bytes name (Syntax fault)
  faulty : {bytes name : List ℕ} {file : File} {fault : InstallFault} → IsTextOf bytes file → IsFirstOf (faults_in name file) fault
      → IsRefusedInstall bytes name fault
