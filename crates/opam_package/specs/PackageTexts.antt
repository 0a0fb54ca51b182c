-- What bytes say of a package, and why they are refused: syntax first, then the first fault of the file.
use Rattle.std.specs.Prelude.{◌≡◌, ◌≢◌, ℕ, List, []}
use Rattle.std.specs.declared.option.Option.TheVariants.{Some}
use Rattle.opam_names.specs.declared.packages.Pkg.{Pkg}
use Rattle.syntax_trees.specs.Faults.{IsFaultOf}
use Rattle.syntax_trees.specs.Trees.{IsTextOf, items_of}
use Rattle.syntax_trees.specs.declared.fault.SyntaxFault.{SyntaxFault}
use Rattle.syntax_trees.specs.declared.fault.SyntaxFault.TheVariants as syntax
use Rattle.syntax_trees.specs.declared.file.File.{File}
use Rattle.opam_filter.specs.Variables.{Values}
use Rattle.opam_package.specs.declared.fault.PackageFault.{PackageFault}
use Rattle.opam_package.specs.declared.fault.PackageFault.TheVariants.{Memory, Syntax}
use Rattle.opam_package.specs.declared.package.Package.{Package}
use Rattle.opam_package.specs.FieldFaults.{file_faults}
use Rattle.opam_package.specs.PackageFaults.{first_fault}
use Rattle.opam_package.specs.Packages.{package_in}

-- the bytes are the text of a file without faults, and the package is that of the file
pub record IsPackageText (bytes : List ℕ) (pkg : Pkg) (globals : Values) (found : Package) : Type 0 where
  pub file : File
  pub text : IsTextOf bytes file
  pub sound : file_faults pkg (items_of file) ≡ []
  pub read : found ≡ package_in pkg globals (items_of file)

-- what is told of a fault of the syntax: want of memory is told as such
abbrev pub told_syntax : SyntaxFault → PackageFault
told_syntax syntax.Memory = Memory
told_syntax (syntax.Ended at) = Syntax (syntax.Ended at)
told_syntax (syntax.Stray at) = Syntax (syntax.Stray at)
told_syntax (syntax.Deep at) = Syntax (syntax.Deep at)
told_syntax (syntax.Doubled at) = Syntax (syntax.Doubled at)

-- memory was wanting, or this is the fault of the bytes, which are no file, or the first fault of the file whose text they are
pub data IsPackageFault (bytes : List ℕ) (pkg : Pkg) : PackageFault → Type 0 where
  no_memory : IsPackageFault bytes pkg Memory
  no_file : {fault : SyntaxFault} → fault ≢ syntax.Memory → IsFaultOf bytes fault → IsPackageFault bytes pkg (Syntax fault)
  faulty : {file : File} {fault : PackageFault} → IsTextOf bytes file → first_fault (file_faults pkg (items_of file)) ≡ Some fault → IsPackageFault bytes pkg fault
