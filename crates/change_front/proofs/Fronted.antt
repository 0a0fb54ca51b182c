-- What is told of what requests come to.
use Rattle.std.proofs.Common.{◌≡◌, ◌∙◌, ℕ, ◌≤◌, List, length, Bool, true, false, Option, Some, None, Result, Ok, Err, IfOk, refl, sym, ap, subst}
use Rattle.opam_names.specs.ByteOrders.{RisesBy}
use Rattle.opam_names.specs.declared.fault.OutOfMemory.{OutOfMemory}
use Rattle.opam_filter.specs.Variables.{Values}
use Rattle.opam_package.specs.declared.package.Member.{Member}
use Rattle.opam_package.specs.declared.package.Target.{Target}
use Rattle.outside_io.specs.HostEffects.{has_host_failed}
use Rattle.outside_io.specs.declared.host.HostFault.{HostFault}
use Rattle.outside_io.specs.declared.host.HostFault.TheVariants.{Failed, Memory}
use Rattle.lock_check.specs.Removals.{AreAmong}
use Rattle.lock_check.specs.Targets.{member_name}
use Rattle.std.specs.FinMap.{get}
use Rattle.outside_io.specs.Counts.{Files}
use Rattle.lock_check.specs.Chased.{Chased, install_target, install_violations}
use Rattle.lock_check.specs.declared.lock.Lock.{Lock}
use Rattle.opam_names.specs.declared.packages.Pkg.{Pkg}
use Rattle.change_front.specs.Judging.{IsJudged}
use Rattle.change_front.specs.Reading.{IsBegun, Reads}
use Rattle.change_front.specs.Fronts.{Answers, AreInstalledOrRead, IsInstall, IsInstallOf, has_front_failed, judged, locked, stopped, unlocked}
use Rattle.change_front.specs.Turns.{IsLockRead, IsOwnFront, IsOwnPlan, IsPartFront, IsPartPlan, told_answer, told_front}
use Rattle.change_front.specs.declared.fault.FrontFault.{FrontFault}
use Rattle.change_front.specs.declared.front.Front.{Front}
use Rattle.change_front.specs.declared.front.Front.TheVariants.{Plans, Refuses}
use Rattle.change_front.specs.declared.front.Planned.{Planned}
use Rattle.change_front.specs.declared.limits.TheConstants.{READ_LIMIT}
use Rattle.change_front.specs.declared.locks.LockRead.{LockRead}
use Rattle.change_front.specs.declared.locks.LockRead.TheVariants as lock_read
use Rattle.change_front.specs.declared.reading.End.{End}
use Rattle.change_front.specs.declared.reading.End.TheVariants as ends
use Rattle.change_front.specs.declared.refusal.Refusal.{Refusal}

-- over a host
module _ (found : Result Front HostFault) (result : Result Planned FrontFault) (is : result ≡ told_front found) where
  pub answers_told : (P : Front → Type 0) → IfOk found P → Answers P result
  answers_told P all = let Q : Result Planned FrontFault → Type 0 = λ r. Answers P r in subst Q (sym is) (by found all)
    where
      by : (f : Result Front HostFault) → IfOk f P → Answers P (told_front f)
      by (Ok (Plans planned)) all = all
      by (Ok (Refuses refusal)) all = all
      by (Err Failed) all = tt
      by (Err Memory) all = tt

  pub failed_same : has_front_failed result ≡ has_host_failed found
  failed_same = ap has_front_failed is ∙ by found
    where
      by : (f : Result Front HostFault) → has_front_failed (told_front f) ≡ has_host_failed f
      by (Ok (Plans planned)) = refl
      by (Ok (Refuses refusal)) = refl
      by (Err Failed) = refl
      by (Err Memory) = refl

  -- a fact of each plan
  pub own_told : (installed : List Member) (globals : Values) (P : Planned → Type 0) → ((planned : Planned) → IsOwnPlan installed globals planned → P planned)
      → IfOk found (IsOwnFront installed globals) → IfOk result P
  own_told installed globals P says all = let Q : Result Planned FrontFault → Type 0 = λ r. IfOk r P in subst Q (sym is) (by found all)
    where
      by : (f : Result Front HostFault) → IfOk f (IsOwnFront installed globals) → IfOk (told_front f) P
      by (Ok (Plans planned)) all = says planned all
      by (Ok (Refuses refusal)) all = tt
      by (Err Failed) all = tt
      by (Err Memory) all = tt

-- without one
module _ (found : Result Front OutOfMemory) (result : Result Planned FrontFault) (is : result ≡ told_answer found) where
  pub answers_part : (P : Front → Type 0) → IfOk found P → Answers P result
  answers_part P all = let Q : Result Planned FrontFault → Type 0 = λ r. Answers P r in subst Q (sym is) (by found all)
    where
      by : (f : Result Front OutOfMemory) → IfOk f P → Answers P (told_answer f)
      by (Ok (Plans planned)) all = all
      by (Ok (Refuses refusal)) all = all
      by (Err fault) all = tt

  pub never_failed : has_front_failed result ≡ false
  never_failed = ap has_front_failed is ∙ by found
    where
      by : (f : Result Front OutOfMemory) → has_front_failed (told_answer f) ≡ false
      by (Ok (Plans planned)) = refl
      by (Ok (Refuses refusal)) = refl
      by (Err fault) = refl

  pub part_told : (installed : List Member) (P : Planned → Type 0) → ((planned : Planned) → IsPartPlan installed planned → P planned)
      → IfOk found (IsPartFront installed) → IfOk result P
  part_told installed P says all = let Q : Result Planned FrontFault → Type 0 = λ r. IfOk r P in subst Q (sym is) (by found all)
    where
      by : (f : Result Front OutOfMemory) → IfOk f (IsPartFront installed) → IfOk (told_answer f) P
      by (Ok (Plans planned)) all = says planned all
      by (Ok (Refuses refusal)) all = tt
      by (Err fault) all = tt

-- an `install` by its lock
module _ (files : Files) (lock_file repo : List ℕ) (names : List (List ℕ)) (installed : List Member) (roots : List (List ℕ)) (globals : Values) (read : LockRead) where
  pub lock_refused : (refusal : Refusal) → read ≡ lock_read.Refused refusal → IsLockRead globals lock_file (get files lock_file) read
      → IsInstall files lock_file repo names installed roots globals (Refuses refusal)
  lock_refused refusal same is = let P : LockRead → Type 0 = λ r. IsLockRead globals lock_file (get files lock_file) r in unlocked (subst P same is)

  pub lock_bound : (lock : Lock) → read ≡ lock_read.Bound lock → IsLockRead globals lock_file (get files lock_file) read → (result : Result Front HostFault)
      → IfOk result (IsInstallOf files repo lock.bound names installed roots globals) → IfOk result (IsInstall files lock_file repo names installed roots globals)
  lock_bound lock same is (Err fault) all = tt
  lock_bound lock same is (Ok front) all = let P : LockRead → Type 0 = λ r. IsLockRead globals lock_file (get files lock_file) r in locked (subst P same is) all

-- and by what is read
module _ (files : Files) (repo : List ℕ) (bound : List Pkg) (names : List (List ℕ)) (installed : List Member) (roots : List (List ℕ)) (globals : Values) (begun : Chased) (is_begun : IsBegun installed bound names begun) (end : End) where
  pub read_stopped : (refusal : Refusal) → end ≡ ends.Stops refusal → Reads files repo globals begun READ_LIMIT end → IsInstallOf files repo bound names installed roots globals (Refuses refusal)
  read_stopped refusal same reads = let P : End → Type 0 = λ e. Reads files repo globals begun READ_LIMIT e in stopped is_begun (subst P same reads)

  pub read_judged : (last : Chased) (front : Front) → end ≡ ends.Whole last → Reads files repo globals begun READ_LIMIT end
      → IsJudged installed (install_target last installed roots) (install_violations last (install_target last installed roots)) front → IsInstallOf files repo bound names installed roots globals front
  read_judged last front same reads is = let P : End → Type 0 = λ e. Reads files repo globals begun READ_LIMIT e in judged is_begun (subst P same reads) is
