-- What the file of a lock comes to, by what stands at its path. Its limit is this project's own.
use Rattle.std.specs.Prelude.{◌≢◌, ◌<◌, ◌≤◌, ℕ, List, length}
use Rattle.std.specs.declared.option.Option.{Option}
use Rattle.std.specs.declared.option.Option.TheVariants.{None, Some}
use Rattle.opam_names.specs.declared.packages.Pkg.{Pkg}
use Rattle.syntax_trees.specs.declared.limits.TheConstants.{FILE_LIMIT}
use Rattle.opam_filter.specs.Variables.{Values}
use Rattle.lock_check.specs.LockTexts.{IsLockFault, IsLockOf}
use Rattle.lock_check.specs.declared.lock_fault.LockFault.{LockFault}
use Rattle.lock_check.specs.declared.lock_fault.LockFault.TheVariants as lock_fault
use Rattle.change_front.specs.declared.refusal.Refusal.{Refusal}
use Rattle.change_front.specs.declared.refusal.Refusal.TheVariants.{NotFound, TooLong, BadLock}

-- a lock stands there that binds these packages
pub data IsLockAt (globals : Values) (bound : List Pkg) : Option (List ℕ) → Type 0 where
  lock : {bytes : List ℕ} → length bytes ≤ FILE_LIMIT → IsLockOf bytes globals bound → IsLockAt globals bound (Some bytes)

-- why a lock is refused: nothing stands at its path, or too many bytes, or bytes with this fault
pub data IsLockRefusal (path : List ℕ) : Option (List ℕ) → Refusal → Type 0 where
  absent : IsLockRefusal path None (NotFound path)
  too_long : {bytes : List ℕ} → FILE_LIMIT < length bytes → IsLockRefusal path (Some bytes) (TooLong path)
  faulty : {bytes : List ℕ} {fault : LockFault} → length bytes ≤ FILE_LIMIT → fault ≢ lock_fault.Memory → IsLockFault bytes fault → IsLockRefusal path (Some bytes) (BadLock path fault)
