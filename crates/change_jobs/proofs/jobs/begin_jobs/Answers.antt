use Rattle.std.proofs.Common.{◌∙◌, ap, arith}
use Rattle.change_floor.specs.Floors.{floor_begun}
use Rattle.change_jobs.specs.Abreast.{all_names}
use Rattle.change_jobs.specs.Courses.{crew_of}
use Rattle.change_jobs.proofs.Abreasts.{abreast_begun}
use Rattle.change_jobs.proofs.jobs.begin_jobs.Goals as goal

pub returns-clause-abreast : goal.returns-clause-abreast
returns-clause-abreast g c = λ facts.
    abreast_begun c.args.target.now.members facts c.args.plan.now _ (crew_of g.C.Crew c.args.crew.now) c.requires.plan c.requires.some c.requires.idle c.requires.unused
    (c.in_ok-new.ensures ∙ ap (floor_begun c.args.plan.now) c.workers.ensures) (c.in_ok-names_of.ensures ∙ ap all_names c.as_slice.ensures) (omega (arith, c.in_ok-reserve.ensures.ok, c.len.ensures))
