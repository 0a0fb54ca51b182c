use Rattle.std.proofs.Common.{◌∙◌}
use Rattle.install_sections.specs.Placements.{faults_in}
use Rattle.install_sections.proofs.Judged.{file_placements, is_first, told_fault}
use Rattle.install_sections.proofs.reading.placements_of.Goals as goal

pub returns-in-Some-clause-err : goal.returns-in-Some-clause-err
returns-in-Some-clause-err c =
    is_first (faults_in c.args.name.now c.args.file.now) c.in-Some.fault (told_fault c.args.name.now c.args.file.now c.in_ok-judgement.judgement _ _ c.in_ok-judgement.ensures c.excess_fault.ensures c.sooner.ensures ∙ c.in-Some.is)

pub returns-in-None-clause-ok : goal.returns-in-None-clause-ok
returns-in-None-clause-ok c = file_placements c.args.name.now c.args.file.now c.in_ok-judgement.judgement c.in_ok-judgement.ensures

pub returns-in-None-clause-sound : goal.returns-in-None-clause-sound
returns-in-None-clause-sound c =
    told_fault c.args.name.now c.args.file.now c.in_ok-judgement.judgement _ _ c.in_ok-judgement.ensures c.excess_fault.ensures c.sooner.ensures ∙ c.in-None.is
