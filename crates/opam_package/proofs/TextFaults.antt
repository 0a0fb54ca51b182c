-- A reading of bytes by the reading of their file.
use Rattle.std.proofs.Common.{◌≡◌, ℕ, List, [], subst, sym}
use Rattle.std.specs.Result.{IfErr, IfOk, OnOk}
use Rattle.std.specs.declared.result.Result.{Result}
use Rattle.std.specs.declared.result.Result.TheVariants.{Ok, Err}
use Rattle.opam_names.specs.declared.packages.Pkg.{Pkg}
use Rattle.syntax_trees.specs.Faults.{IsFaultOf}
use Rattle.syntax_trees.specs.Trees.{IsTextOf, items_of}
use Rattle.syntax_trees.specs.declared.fault.SyntaxFault.{SyntaxFault}
use Rattle.syntax_trees.specs.declared.fault.SyntaxFault.TheVariants as syntax
use Rattle.syntax_trees.specs.declared.file.File.{File}
use Rattle.opam_filter.specs.Variables.{Values}
use Rattle.opam_package.specs.declared.fault.PackageFault.{PackageFault}
use Rattle.opam_package.specs.declared.fault.PackageFault.TheVariants.{Memory}
use Rattle.opam_package.specs.declared.package.Package.{Package}
use Rattle.opam_package.specs.FieldFaults.{file_faults}
use Rattle.opam_package.specs.PackageFaults.{IsFirstOf}
use Rattle.opam_package.specs.Packages.{package_in}
use Rattle.opam_package.specs.PackageTexts.{IsPackageFault, IsPackageText, no_memory, no_file, faulty, told_syntax}

-- a fault of the file
pub of_file : (bytes : List ℕ) (pkg : Pkg) (file : File) (fault : PackageFault) → IsTextOf bytes file
    → IsFirstOf (file_faults pkg (items_of file)) fault → IsPackageFault bytes pkg fault
of_file bytes pkg file Memory text is = no_memory
of_file bytes pkg file fault text is = faulty text is

-- a package of the file
pub read_ok : (bytes : List ℕ) (pkg : Pkg) (globals : Values) (file : File) (r : Result Package PackageFault) → IsTextOf bytes file
    → OnOk r (file_faults pkg (items_of file) ≡ []) → IfOk r (λ found. found ≡ package_in pkg globals (items_of file))
    → IfOk r (λ found. IsPackageText bytes pkg globals found)
read_ok bytes pkg globals file (Ok found) text sound read = record { file = file; text = text; sound = sound; read = read }
read_ok bytes pkg globals file (Err fault) text sound read = tt

pub read_err : (bytes : List ℕ) (pkg : Pkg) (file : File) (r : Result Package PackageFault) → IsTextOf bytes file
    → IfErr r (λ fault. IsFirstOf (file_faults pkg (items_of file)) fault) → IfErr r (λ fault. IsPackageFault bytes pkg fault)
read_err bytes pkg file (Ok found) text is = tt
read_err bytes pkg file (Err fault) text is = of_file bytes pkg file fault text is

-- a fault of the syntax
pub of_syntax : (bytes : List ℕ) (pkg : Pkg) (fault : SyntaxFault) → IsFaultOf bytes fault → IsPackageFault bytes pkg (told_syntax fault)
of_syntax bytes pkg syntax.Memory is = no_memory
of_syntax bytes pkg (syntax.Ended at) is = no_file (λ e. cc) is
of_syntax bytes pkg (syntax.Stray at) is = no_file (λ e. cc) is
of_syntax bytes pkg (syntax.Deep at) is = no_file (λ e. cc) is
of_syntax bytes pkg (syntax.Doubled at) is = no_file (λ e. cc) is

pub told_so : (bytes : List ℕ) (pkg : Pkg) (fault : SyntaxFault) (told : PackageFault) → told ≡ told_syntax fault → IsFaultOf bytes fault
    → IsPackageFault bytes pkg told
told_so bytes pkg fault told so is =
    let P : PackageFault → Type 0 = λ f. IsPackageFault bytes pkg f in subst P (sym so) (of_syntax bytes pkg fault is)
