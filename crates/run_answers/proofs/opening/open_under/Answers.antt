use Rattle.run_answers.proofs.Openings.{opens_with}
use Rattle.run_answers.proofs.opening.open_under.Goals as goal

pub returns : goal.returns
returns g c =
    let it = c.recover-recovered.ensures in
    opens_with c.args.globals c.recover-recovered.result c.opened_with.result c.opened_with.ensures it.cause it.touches it.stands it.formed it.members it.commits it.damaged it.crash
