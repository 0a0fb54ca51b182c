use Rattle.std.proofs.Common.{rules, refl, subst}
use Rattle.child_pool.specs.Crews.{TellsFate}
use Rattle.child_pool.proofs.serial.SerialCrewCrew.take_end.Goals as goal

pub returns-in_err-fate-clause-oldest : goal.returns-in_err-fate-clause-oldest
returns-in_err-fate-clause-oldest g c =
    let taken = c.take_oldest-id in
    record { id = taken.result.0; job = taken.result.1; ran = taken.ensures.job; left = taken.ensures.jobs; ended = taken.ensures.events; number = search rules; fate = search rules }

pub returns-in_err-fate-clause-takes : goal.returns-in_err-fate-clause-takes
returns-in_err-fate-clause-takes g c = (0, returns-in_err-fate-clause-oldest g c)

pub returns-clause-oldest : goal.returns-clause-oldest
returns-clause-oldest g c =
    let taken = c.take_oldest-id in
    let told = subst (λ shop. TellsFate (g.W.Workshop.told shop) taken.result.1 c.in_ok-fate.fate) taken.ensures.shop c.in_ok-fate.ensures in
    record { id = taken.result.0; job = taken.result.1; ran = taken.ensures.job; left = taken.ensures.jobs; ended = taken.ensures.events; number = refl; fate = told }

pub returns-clause-takes : goal.returns-clause-takes
returns-clause-takes g c = (0, returns-clause-oldest g c)
