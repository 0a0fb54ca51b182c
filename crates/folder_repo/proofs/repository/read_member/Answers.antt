use Rattle.std.proofs.Common.{ℕ, List, subst, sym}
use Rattle.opam_package.specs.PackageTexts.{IsPackageFault}
use Rattle.folder_repo.specs.Repository.{IsMemberFault}
use Rattle.folder_repo.specs.declared.fault.RepoFault.{RepoFault}
use Rattle.folder_repo.proofs.Answered.{longer, not_longer, of_package}
use Rattle.folder_repo.proofs.repository.read_member.Goals as goal

pub returns-then-len-read_limit-clause-err : goal.returns-then-len-read_limit-clause-err
returns-then-len-read_limit-clause-err c =
    longer c.args.bytes c.args.pkg.now c.args.room c.len.result c.read_limit.result c.read_limit.ensures c.len.ensures c.if-len-read_limit.true

pub returns-in-Err-clause-err : goal.returns-in-Err-clause-err
returns-in-Err-clause-err c =
    let within = not_longer c.args.bytes c.args.room c.len.result c.read_limit.result c.read_limit.ensures c.len.ensures c.if-len-read_limit.false in
    let P : RepoFault → Type 0 = λ f. IsMemberFault c.args.bytes c.args.pkg.now c.args.room f in
    let Q : List ℕ → Type 0 = λ b. IsPackageFault b c.args.pkg.now c.in-Err.fault in
    subst P (sym c.told_package.ensures)
    (of_package c.args.bytes c.args.pkg.now c.args.room c.in-Err.fault within (subst Q c.as_slice.ensures c.in-Err.ensures.err))
