-- What a repository answers, by what stands at the path and what the host gave.
use Rattle.std.proofs.Common.{◌≡◌, ℕ, ◌<◌, ◌≤◌, List, length, Result, Ok, Err, subst}
use Rattle.std.specs.FinMap.{get}
use Rattle.std.specs.declared.option.Option.{Option}
use Rattle.std.specs.declared.option.Option.TheVariants.{None, Some}
use Rattle.opam_names.specs.declared.packages.Pkg.{Pkg}
use Rattle.opam_filter.specs.Variables.{Values}
use Rattle.opam_package.specs.PackageTexts.{IsPackageFault}
use Rattle.opam_package.specs.declared.fault.PackageFault.{PackageFault}
use Rattle.opam_package.specs.declared.fault.PackageFault.TheVariants as faults
use Rattle.opam_package.specs.declared.package.Member.{Member}
use Rattle.outside_io.specs.Counts.{Files}
use Rattle.outside_io.specs.Hosts.{IsFound}
use Rattle.outside_io.specs.declared.host.Found.{Found}
use Rattle.outside_io.specs.declared.host.Found.TheVariants.{Absent, Bytes, TooLong}
use Rattle.outside_io.specs.declared.host.HostFault.{HostFault}
use Rattle.outside_io.specs.declared.host.HostFault.TheVariants as hosts
use Rattle.folder_repo.specs.Repository.{IsMemberFault, IsReadOf, IsRepoAnswer, read_limit, told_host, told_package, no_memory, too_long, faulty, failed, starved, absent, present, refused}
use Rattle.folder_repo.specs.declared.fault.RepoFault.{RepoFault}
use Rattle.folder_repo.specs.declared.fault.RepoFault.TheVariants as repo

-- a fault of the package
pub of_package : (bytes : List ℕ) (pkg : Pkg) (room : ℕ) (fault : PackageFault) → length bytes ≤ read_limit room → IsPackageFault bytes pkg fault
    → IsMemberFault bytes pkg room (told_package fault)
of_package bytes pkg room faults.Memory within is = no_memory
of_package bytes pkg room (faults.Syntax fault) within is = faulty within (λ e. cc) is
of_package bytes pkg room (faults.Filter fault) within is = faulty within (λ e. cc) is
of_package bytes pkg room (faults.WrongKind span) within is = faulty within (λ e. cc) is
of_package bytes pkg room (faults.NotText span) within is = faulty within (λ e. cc) is
of_package bytes pkg room (faults.Mismatch span) within is = faulty within (λ e. cc) is
of_package bytes pkg room (faults.OpamVersion span) within is = faulty within (λ e. cc) is
of_package bytes pkg room (faults.TooMany span) within is = faulty within (λ e. cc) is
of_package bytes pkg room (faults.EnvOperator span) within is = faulty within (λ e. cc) is
of_package bytes pkg room (faults.Unsafe span) within is = faulty within (λ e. cc) is

module _ (pkg : Pkg) (room : ℕ) (globals : Values) where
  -- a fault of the host can come wherever what stands
  pub of_host : (stands : Option (List ℕ)) (fault : HostFault) → IsRepoAnswer pkg room globals stands (Err (told_host fault))
  of_host stands hosts.Failed = failed
  of_host stands hosts.Memory = starved

  pub of_absent : (stands : Option (List ℕ)) → IsFound stands (read_limit room) Absent → IsRepoAnswer pkg room globals stands (Ok None)
  of_absent None is = absent
  of_absent (Some file) is = absurd is

  pub of_long : (stands : Option (List ℕ)) → IsFound stands (read_limit room) TooLong → IsRepoAnswer pkg room globals stands (Err repo.TooLong)
  of_long None is = absurd cc
  of_long (Some file) is = refused (too_long is)

  pub of_bytes : (stands : Option (List ℕ)) (bytes : List ℕ) (result : Result (Option Member) RepoFault) → IsFound stands (read_limit room) (Bytes bytes)
      → IsReadOf bytes pkg room globals result → IsRepoAnswer pkg room globals stands result
  of_bytes None bytes result is of = absurd cc
  of_bytes (Some file) bytes (Ok None) is of = absurd of
  of_bytes (Some file) bytes (Ok (Some member)) is of =
      let P : List ℕ → Type 0 = λ b. IsRepoAnswer pkg room globals (Some b) (Ok (Some member)) in subst P is.0 (present of)
  of_bytes (Some file) bytes (Err fault) is of =
      let P : List ℕ → Type 0 = λ b. IsRepoAnswer pkg room globals (Some b) (Err fault) in subst P is.0 (refused of)

-- what the host gave at the path
pub found_at : (told : Option Files) (path : List ℕ) (limit room : ℕ) (found given : Found)
    → ((files : Files) → told ≡ Some files → IsFound (get files path) limit found) → found ≡ given → limit ≡ read_limit room
    → (files : Files) → told ≡ Some files → IsFound (get files path) (read_limit room) given
found_at told path limit room found given tells same bound files is =
    let P : Found → Type 0 = λ f. IsFound (get files path) (read_limit room) f in
    let Q : ℕ → Type 0 = λ n. IsFound (get files path) n found in
    subst P same (subst Q bound (tells files is))

-- the test of the length, by the numbers that it compares
pub longer : (bytes : List ℕ) (pkg : Pkg) (room len limit : ℕ) → limit ≡ read_limit room → len ≡ length bytes → limit < len
    → IsMemberFault bytes pkg room repo.TooLong
longer bytes pkg room len limit bound same less =
    let P : ℕ → Type 0 = λ n. read_limit room < n in
    let Q : ℕ → Type 0 = λ n. n < len in
    too_long (subst P same (subst Q bound less))

pub not_longer : (bytes : List ℕ) (room len limit : ℕ) → limit ≡ read_limit room → len ≡ length bytes → len ≤ limit → length bytes ≤ read_limit room
not_longer bytes room len limit bound same le =
    let P : ℕ → Type 0 = λ n. n ≤ read_limit room in
    let Q : ℕ → Type 0 = λ n. len ≤ n in
    subst P same (subst Q bound le)
