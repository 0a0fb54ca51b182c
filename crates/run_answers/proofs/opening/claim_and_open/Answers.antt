use Rattle.std.proofs.Common.{◌∙◌, Ok, ap}
use Rattle.package_vars.specs.BuildVariables.{global_rows, variables_of}
use Rattle.run_answers.proofs.Openings.{is_failed, is_mine}
use Rattle.run_answers.proofs.opening.claim_and_open.Goals as goal

pub returns-in-Ok-Mine : goal.returns-in-Ok-Mine
returns-in-Ok-Mine g c = is_mine g.met.D.Disk.now_is (variables_of (global_rows c.args.facts.now.globals)) c.claim.result c.open_claimed.result (c.in-Ok-Mine.is ∙ ap Ok c.in-Ok-Mine.field-0-is) c.claim.ensures c.open_claimed.ensures

pub returns-in-Err : goal.returns-in-Err
returns-in-Err g c = is_failed g.met.D.Disk.now_is (variables_of (global_rows c.args.facts.now.globals)) c.claim.result c.in-Err.field-0 c.in-Err.is c.claim.ensures
