use Rattle.std.proofs.Common.{subst, sym, Err}
use Rattle.std.specs.FinMap.{get}
use Rattle.outside_io.specs.declared.host.Found.TheVariants.{Absent, Bytes, TooLong}
use Rattle.folder_repo.specs.Repository.{IsRepoAnswer}
use Rattle.folder_repo.specs.declared.fault.RepoFault.{RepoFault}
use Rattle.folder_repo.proofs.Answered.{found_at, of_absent, of_bytes, of_host, of_long}
use Rattle.folder_repo.proofs.repository.find_at.Goals as goal

pub returns-in-Err-clause-told : goal.returns-in-Err-clause-told
returns-in-Err-clause-told g c = λ files is.
    let P : RepoFault → Type 0 = λ f. IsRepoAnswer c.args.pkg.now c.args.room c.args.globals.now (get files c.args.path.now) (Err f) in
    subst P (sym c.told_host.ensures) (of_host c.args.pkg.now c.args.room c.args.globals.now (get files c.args.path.now) c.in-Err.fault)

pub returns-in-Ok-Absent-clause-told : goal.returns-in-Ok-Absent-clause-told
returns-in-Ok-Absent-clause-told g c = λ files is.
    of_absent c.args.pkg.now c.args.room c.args.globals.now (get files c.args.path.now)
    (found_at (g.H.Host.files c.args.host.now) c.args.path.now c.read_limit.result c.args.room c.in-Ok-Absent.field-0 Absent
    c.in-Ok-Absent.ensures.told c.in-Ok-Absent.field-0-is c.read_limit.ensures files is)

pub returns-in-Ok-TooLong-clause-told : goal.returns-in-Ok-TooLong-clause-told
returns-in-Ok-TooLong-clause-told g c = λ files is.
    of_long c.args.pkg.now c.args.room c.args.globals.now (get files c.args.path.now)
    (found_at (g.H.Host.files c.args.host.now) c.args.path.now c.read_limit.result c.args.room c.in-Ok-TooLong.field-0 TooLong
    c.in-Ok-TooLong.ensures.told c.in-Ok-TooLong.field-0-is c.read_limit.ensures files is)

pub returns-in-Ok-Bytes-clause-told : goal.returns-in-Ok-Bytes-clause-told
returns-in-Ok-Bytes-clause-told g c = λ files is.
    of_bytes c.args.pkg.now c.args.room c.args.globals.now (get files c.args.path.now) c.in-Ok-Bytes.bytes c.read_found.result
    (found_at (g.H.Host.files c.args.host.now) c.args.path.now c.read_limit.result c.args.room c.in-Ok-Bytes.field-0 (Bytes c.in-Ok-Bytes.bytes)
    c.in-Ok-Bytes.ensures.told c.in-Ok-Bytes.field-0-is c.read_limit.ensures files is)
    c.read_found.ensures
