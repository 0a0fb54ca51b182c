use Rattle.opam_package.proofs.TextFaults.{read_err, told_so}
use Rattle.opam_package.proofs.package_texts.read_package.Goals as goal

pub returns-in-Ok-clause-err : goal.returns-in-Ok-clause-err
returns-in-Ok-clause-err c = read_err c.args.bytes.now c.args.pkg.now c.in-Ok.file c.package_of.result c.in-Ok.ensures.ok c.package_of.ensures.err

pub returns-in-Err-clause-err : goal.returns-in-Err-clause-err
returns-in-Err-clause-err c = told_so c.args.bytes.now c.args.pkg.now c.in-Err.fault c.told_syntax.result c.told_syntax.ensures c.in-Err.ensures.err
