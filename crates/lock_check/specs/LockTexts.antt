-- What bytes bind as a lock, and why they are refused: syntax first, then the first fault of the items.
use Rattle.std.specs.Prelude.{◌≡◌, ◌≢◌, ℕ, List, [], codes}
use Rattle.std.specs.declared.option.Option.{Option}
use Rattle.std.specs.declared.option.Option.TheVariants.{Some}
use Rattle.opam_names.specs.declared.packages.Pkg.{Pkg}
use Rattle.syntax_trees.specs.Lookup.{field_value}
use Rattle.syntax_trees.specs.Faults.{IsFaultOf}
use Rattle.syntax_trees.specs.Trees.{IsTextOf}
use Rattle.syntax_trees.specs.declared.fault.SyntaxFault.{SyntaxFault}
use Rattle.syntax_trees.specs.declared.fault.SyntaxFault.TheVariants as syntax
use Rattle.syntax_trees.specs.declared.file.File.{File}
use Rattle.syntax_trees.specs.declared.tree.Node.{Node}
use Rattle.opam_filter.specs.Variables.{Values}
use Rattle.lock_check.specs.declared.lock_fault.LockFault.{LockFault}
use Rattle.lock_check.specs.declared.lock_fault.LockFault.TheVariants.{Memory, Syntax}
use Rattle.lock_check.specs.LockFaults.{first_lock_fault}
use Rattle.lock_check.specs.LockItems.{bound_by, lock_faults}

-- the field `depends` of a file, the only one that is looked at
abbrev pub depends_of : File → Option Node
depends_of file = field_value file.items.entries (codes "depends")

-- the bytes are the text of a file whose items have no fault, and these are the packages that it binds
pub record IsLockOf (bytes : List ℕ) (globals : Values) (bound : List Pkg) : Type 0 where
  pub file : File
  pub text : IsTextOf bytes file
  pub sound : lock_faults (depends_of file) ≡ []
  pub binds : bound ≡ bound_by globals (depends_of file)

-- what is told of a fault of the syntax: want of memory is told as such
abbrev pub told_lock_syntax : SyntaxFault → LockFault
told_lock_syntax syntax.Memory = Memory
told_lock_syntax (syntax.Ended at) = Syntax (syntax.Ended at)
told_lock_syntax (syntax.Stray at) = Syntax (syntax.Stray at)
told_lock_syntax (syntax.Deep at) = Syntax (syntax.Deep at)
told_lock_syntax (syntax.Doubled at) = Syntax (syntax.Doubled at)

-- memory was wanting, or this is the fault of the bytes, which are no file, or the first fault of the file whose text they are
pub data IsLockFault (bytes : List ℕ) : LockFault → Type 0 where
  no_memory : IsLockFault bytes Memory
  no_file : {fault : SyntaxFault} → fault ≢ syntax.Memory → IsFaultOf bytes fault → IsLockFault bytes (Syntax fault)
  faulty : {file : File} {fault : LockFault} → IsTextOf bytes file → first_lock_fault (lock_faults (depends_of file)) ≡ Some fault → IsLockFault bytes fault
