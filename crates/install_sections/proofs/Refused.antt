-- What is wrong with a file is wrong with the bytes that are its text.
use Rattle.std.proofs.Common.{◌≡◌, ℕ, List, IfErr, subst, sym}
use Rattle.std.specs.declared.result.Result.{Result}
use Rattle.std.specs.declared.result.Result.TheVariants.{Ok, Err}
use Rattle.syntax_trees.specs.Faults.{IsFaultOf}
use Rattle.syntax_trees.specs.Trees.{IsTextOf}
use Rattle.syntax_trees.specs.declared.fault.SyntaxFault.{SyntaxFault}
use Rattle.syntax_trees.specs.declared.fault.SyntaxFault.TheVariants as syntax
use Rattle.syntax_trees.specs.declared.file.File.{File}
use Rattle.install_sections.specs.declared.fault.InstallFault.{InstallFault}
use Rattle.install_sections.specs.declared.placement.Placement.{Placement}
use Rattle.install_sections.specs.InstallFaults.{IsFirstOf}
use Rattle.install_sections.specs.Placements.{faults_in}
use Rattle.install_sections.specs.Readings.{IsRefusedInstall, no_memory, no_file, faulty, told_install_syntax}

pub refused_text : (bytes name : List ℕ) (file : File) (result : Result (List Placement) InstallFault) → IsTextOf bytes file
    → IfErr result (λ fault. IsFirstOf (faults_in name file) fault) → IfErr result (IsRefusedInstall bytes name)
refused_text bytes name file (Ok placements) text told = tt
refused_text bytes name file (Err fault) text told = faulty text told

-- a fault of the syntax
of_syntax : (bytes name : List ℕ) (fault : SyntaxFault) → IsFaultOf bytes fault → IsRefusedInstall bytes name (told_install_syntax fault)
of_syntax bytes name syntax.Memory is = no_memory
of_syntax bytes name (syntax.Ended at) is = no_file (λ e. cc) is
of_syntax bytes name (syntax.Stray at) is = no_file (λ e. cc) is
of_syntax bytes name (syntax.Deep at) is = no_file (λ e. cc) is
of_syntax bytes name (syntax.Doubled at) is = no_file (λ e. cc) is

pub told_so : (bytes name : List ℕ) (fault : SyntaxFault) (told : InstallFault) → told ≡ told_install_syntax fault → IsFaultOf bytes fault
    → IsRefusedInstall bytes name told
told_so bytes name fault told so is =
    let P : InstallFault → Type 0 = λ f. IsRefusedInstall bytes name f in subst P (sym so) (of_syntax bytes name fault is)
