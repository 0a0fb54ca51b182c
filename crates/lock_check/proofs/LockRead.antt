-- A reading of bytes by the reading of their items.
use Rattle.std.proofs.Common.{◌≡◌, ℕ, List, [], ap, subst, sym, ◌∙◌}
use Rattle.std.specs.Result.{IfErr, IfOk, OnOk}
use Rattle.std.specs.declared.option.Option.TheVariants.{Some}
use Rattle.std.specs.declared.result.Result.{Result}
use Rattle.std.specs.declared.result.Result.TheVariants.{Ok, Err}
use Rattle.opam_names.specs.ByteOrders.{in_order_by}
use Rattle.opam_names.specs.declared.packages.Pkg.{Pkg}
use Rattle.syntax_trees.specs.Faults.{IsFaultOf}
use Rattle.syntax_trees.specs.Trees.{IsTextOf}
use Rattle.syntax_trees.specs.declared.fault.SyntaxFault.{SyntaxFault}
use Rattle.syntax_trees.specs.declared.fault.SyntaxFault.TheVariants as syntax
use Rattle.syntax_trees.specs.declared.file.File.{File}
use Rattle.syntax_trees.specs.declared.tree.Node.{Node}
use Rattle.opam_filter.specs.Variables.{Values}
use Rattle.lock_check.specs.declared.lock.Lock.{Lock}
use Rattle.lock_check.specs.declared.lock_fault.LockFault.{LockFault}
use Rattle.lock_check.specs.declared.lock_fault.LockFault.TheVariants.{Syntax, Filter, Unbound, Twice, Memory}
use Rattle.lock_check.specs.LockFaults.{IsFirstLockFault, first_lock_fault}
use Rattle.lock_check.specs.LockItems.{bound_in, faults_behind, lock_faults, lock_items}
use Rattle.lock_check.specs.LockTexts.{IsLockFault, IsLockOf, no_memory, no_file, faulty, depends_of, told_lock_syntax}

-- the first fault, whatever it is
pub is_first : (faults : List LockFault) (fault : LockFault) → first_lock_fault faults ≡ Some fault → IsFirstLockFault faults fault
is_first faults (Syntax inner) is = is
is_first faults (Filter inner) is = is
is_first faults (Unbound span) is = is
is_first faults (Twice span) is = is
is_first faults Memory is = tt

-- a fault of the file
of_file : (bytes : List ℕ) (file : File) (fault : LockFault) → IsTextOf bytes file → IsFirstLockFault (lock_faults (depends_of file)) fault → IsLockFault bytes fault
of_file bytes file Memory text is = no_memory
of_file bytes file (Syntax inner) text is = faulty text is
of_file bytes file (Filter inner) text is = faulty text is
of_file bytes file (Unbound span) text is = faulty text is
of_file bytes file (Twice span) text is = faulty text is

-- a lock of the file
pub read_ok : (bytes : List ℕ) (globals : Values) (file : File) (items : List Node) (r : Result Lock LockFault) → IsTextOf bytes file → items ≡ lock_items (depends_of file)
    → OnOk r (faults_behind [] items ≡ []) → IfOk r (λ lock. lock.bound ≡ in_order_by (λ (pkg : Pkg). pkg.name) (bound_in globals items))
    → IfOk r (λ lock. IsLockOf bytes globals lock.bound)
read_ok bytes globals file items (Ok lock) text same sound binds = record {
  file = file;
  text = text;
  sound = let P : List Node → Type 0 = λ nodes. faults_behind [] nodes ≡ [] in subst P same sound;
  binds = binds ∙ ap (λ nodes. in_order_by (λ (pkg : Pkg). pkg.name) (bound_in globals nodes)) same;
}
read_ok bytes globals file items (Err fault) text same sound binds = tt

pub read_err : (bytes : List ℕ) (file : File) (items : List Node) (r : Result Lock LockFault) → IsTextOf bytes file → items ≡ lock_items (depends_of file)
    → IfErr r (λ fault. IsFirstLockFault (faults_behind [] items) fault) → IfErr r (λ fault. IsLockFault bytes fault)
read_err bytes file items (Ok lock) text same is = tt
read_err bytes file items (Err fault) text same is =
    let P : List Node → Type 0 = λ nodes. IsFirstLockFault (faults_behind [] nodes) fault in of_file bytes file fault text (subst P same is)

-- a fault of the syntax
of_syntax : (bytes : List ℕ) (fault : SyntaxFault) → IsFaultOf bytes fault → IsLockFault bytes (told_lock_syntax fault)
of_syntax bytes syntax.Memory is = no_memory
of_syntax bytes (syntax.Ended at) is = no_file (λ e. cc) is
of_syntax bytes (syntax.Stray at) is = no_file (λ e. cc) is
of_syntax bytes (syntax.Deep at) is = no_file (λ e. cc) is
of_syntax bytes (syntax.Doubled at) is = no_file (λ e. cc) is

pub told_so : (bytes : List ℕ) (fault : SyntaxFault) (told : LockFault) → told ≡ told_lock_syntax fault → IsFaultOf bytes fault → IsLockFault bytes told
told_so bytes fault told so is =
    let P : LockFault → Type 0 = λ f. IsLockFault bytes f in subst P (sym so) (of_syntax bytes fault is)
