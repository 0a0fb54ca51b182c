use Rattle.std.proofs.Common.{◌∙◌, refl, sym}
use Rattle.change_jobs.specs.Courses.{crew_of}
use Rattle.change_jobs.proofs.Steps.{next_fresh, next_within, short_job, start_abreast, start_course}
use Rattle.change_jobs.proofs.starting.start_next.Goals as goal

pub job_of-requires-clause-within : goal.job_of-requires-clause-within
job_of-requires-clause-within g c =
    next_within c.args.target.now.members c.args.facts.now c.args.jobs.now (crew_of g.C.Crew c.args.crew.now) c.requires.abreast c.in-Some.id (sym c.next_start.ensures ∙ c.in-Some.is)

pub start-requires-clause-fresh : goal.start-requires-clause-fresh
start-requires-clause-fresh g c =
    next_fresh c.args.target.now.members c.args.facts.now c.args.jobs.now (crew_of g.C.Crew c.args.crew.now) c.requires.abreast c.in-Some.id (sym c.next_start.ensures ∙ c.in-Some.is)

pub start-requires-clause-steps : goal.start-requires-clause-steps
start-requires-clause-steps g c = short_job c.args.target.now.members c.args.facts.now c.in-Some.id c.in_ok-job-in-Some.job c.requires.short c.in_ok-job-in-Some.ensures.job

pub returns-in_ok-start-in-Some-clause-abreast : goal.returns-in_ok-start-in-Some-clause-abreast
returns-in_ok-start-in-Some-clause-abreast g c =
    start_abreast c.args.target.now.members c.args.facts.now c.args.jobs.now _ (crew_of g.C.Crew c.args.crew.now) (crew_of g.C.Crew c.start.new.self) c.in-Some.id c.in_ok-job-in-Some.job
    (sym c.next_start.ensures ∙ c.in-Some.is) c.in_ok-job-in-Some.ensures.job c.started.ensures refl refl c.start.ensures.size c.in_ok-start-in-Some.ensures.runs c.in_ok-start-in-Some.ensures.started c.requires.abreast

pub returns-in_ok-start-in-Some-clause-course : goal.returns-in_ok-start-in-Some-clause-course
returns-in_ok-start-in-Some-clause-course g c = λ rule decisions course.
    start_course c.args.target.now.members c.args.facts.now rule decisions c.args.jobs.now _ (crew_of g.C.Crew c.args.crew.now) (crew_of g.C.Crew c.start.new.self) c.in-Some.id
    (sym c.next_start.ensures ∙ c.in-Some.is) c.requires.waits c.started.ensures refl c.start.ensures.told c.in_ok-start-in-Some.ensures.started c.requires.abreast course
