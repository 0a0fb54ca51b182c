-- What the file of a lock comes to, by what the host gave.
use Rattle.std.proofs.Common.{◌≡◌, ◌∙◌, ℕ, ◌<◌, ◌≤◌, List, length, Option, Some, None, sym, subst}
use Rattle.std.specs.Prelude.{◌≢◌}
use Rattle.opam_names.specs.declared.packages.Pkg.{Pkg}
use Rattle.opam_filter.specs.Variables.{Values}
use Rattle.outside_io.specs.Hosts.{IsFound}
use Rattle.outside_io.specs.declared.host.Found.{Found}
use Rattle.outside_io.specs.declared.host.Found.TheVariants as given
use Rattle.syntax_trees.specs.declared.limits.TheConstants.{FILE_LIMIT}
use Rattle.lock_check.specs.LockTexts.{IsLockFault, IsLockOf}
use Rattle.lock_check.specs.declared.lock_fault.LockFault.{LockFault}
use Rattle.lock_check.specs.declared.lock_fault.LockFault.TheVariants as lock_fault
use Rattle.change_front.specs.Locks.{IsLockAt, IsLockRefusal, lock, absent, too_long, faulty}
use Rattle.change_front.specs.Turns.{IsLockRead}
use Rattle.change_front.specs.declared.locks.LockRead.{LockRead}
use Rattle.change_front.specs.declared.refusal.Refusal.{Refusal}
use Rattle.change_front.specs.declared.refusal.Refusal.TheVariants.{NotFound, TooLong, BadLock}

pub absent_at : (path : List ℕ) (stands : Option (List ℕ)) (limit : ℕ) (found : Found) (refusal : Refusal) → IsFound stands limit found → found ≡ given.Absent → refusal ≡ NotFound path
    → IsLockRefusal path stands refusal
absent_at path None limit found refusal is same told = let P : Refusal → Type 0 = λ r. IsLockRefusal path None r in subst P (sym told) absent
absent_at path (Some file) limit found refusal is same told = let Q : Found → Type 0 = λ f. IsFound (Some file) limit f in absurd (subst Q same is)

pub long_at : (path : List ℕ) (stands : Option (List ℕ)) (found : Found) (refusal : Refusal) → IsFound stands FILE_LIMIT found → found ≡ given.TooLong → refusal ≡ TooLong path
    → IsLockRefusal path stands refusal
long_at path None found refusal is same told = absurd (let e : given.Absent ≡ given.TooLong = sym is ∙ same in cc)
long_at path (Some file) found refusal is same told =
    let Q : Found → Type 0 = λ f. IsFound (Some file) FILE_LIMIT f in
    let P : Refusal → Type 0 = λ r. IsLockRefusal path (Some file) r in
    subst P (sym told) (too_long (subst Q same is))

pub read_at : (globals : Values) (path : List ℕ) (stands : Option (List ℕ)) (limit : ℕ) (found : Found) (bytes : List ℕ) (read : LockRead) → IsFound stands limit found
    → found ≡ given.Bytes bytes → IsLockRead globals path (Some bytes) read → IsLockRead globals path stands read
read_at globals path None limit found bytes read is same told = absurd (let e : given.Absent ≡ given.Bytes bytes = sym is ∙ same in cc)
read_at globals path (Some file) limit found bytes read is same told =
    let Q : Found → Type 0 = λ f. IsFound (Some file) limit f in
    let P : List ℕ → Type 0 = λ b. IsLockRead globals path (Some b) read in
    subst P (subst Q same is).0 told

pub long_bytes : (path bytes : List ℕ) (len : ℕ) (refusal : Refusal) → len ≡ length bytes → FILE_LIMIT < len → refusal ≡ TooLong path → IsLockRefusal path (Some bytes) refusal
long_bytes path bytes len refusal is long told =
    let P : Refusal → Type 0 = λ r. IsLockRefusal path (Some bytes) r in
    let Q : ℕ → Type 0 = λ n. FILE_LIMIT < n in
    subst P (sym told) (too_long (subst Q is long))

within : (bytes : List ℕ) (len : ℕ) → len ≡ length bytes → len ≤ FILE_LIMIT → length bytes ≤ FILE_LIMIT
within bytes len is short = let Q : ℕ → Type 0 = λ n. n ≤ FILE_LIMIT in subst Q is short

pub bound_bytes : (globals : Values) (bytes read : List ℕ) (len : ℕ) (bound : List Pkg) → len ≡ length bytes → len ≤ FILE_LIMIT → read ≡ bytes → IsLockOf read globals bound
    → IsLockAt globals bound (Some bytes)
bound_bytes globals bytes read len bound is short same of = let P : List ℕ → Type 0 = λ b. IsLockOf b globals bound in lock (within bytes len is short) (subst P same of)

pub bad_bytes : (path bytes read : List ℕ) (len : ℕ) (fault : LockFault) (refusal : Refusal) → len ≡ length bytes → len ≤ FILE_LIMIT → read ≡ bytes → refusal ≡ BadLock path fault
    → fault ≢ lock_fault.Memory → IsLockFault read fault → IsLockRefusal path (Some bytes) refusal
bad_bytes path bytes read len fault refusal is short same told known of =
    let P : Refusal → Type 0 = λ r. IsLockRefusal path (Some bytes) r in
    let Q : List ℕ → Type 0 = λ b. IsLockFault b fault in
    subst P (sym told) (faulty (within bytes len is short) known (subst Q same of))
