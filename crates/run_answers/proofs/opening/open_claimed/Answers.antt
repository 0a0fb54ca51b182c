use Rattle.run_answers.proofs.Openings.{opens_starved}
use Rattle.package_vars.specs.BuildVariables.{global_rows, variables_of}
use Rattle.run_answers.proofs.opening.open_claimed.Goals as goal

pub returns-in-Err : goal.returns-in-Err
returns-in-Err g c = opens_starved g.met.D.Disk.now_is (variables_of (global_rows c.args.facts.now.globals)) c.args.disk.now
