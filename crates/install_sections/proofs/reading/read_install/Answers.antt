use Rattle.install_sections.proofs.Refused.{refused_text, told_so}
use Rattle.install_sections.proofs.reading.read_install.Goals as goal

pub returns-in-Ok-clause-err : goal.returns-in-Ok-clause-err
returns-in-Ok-clause-err c =
    refused_text c.args.bytes.now c.args.name.now c.in-Ok.file c.placements_of.result c.in-Ok.ensures.ok c.placements_of.ensures.err

pub returns-in-Err-clause-err : goal.returns-in-Err-clause-err
returns-in-Err-clause-err c = told_so c.args.bytes.now c.args.name.now c.in-Err.fault c.told_syntax.result c.told_syntax.ensures c.in-Err.ensures.err
