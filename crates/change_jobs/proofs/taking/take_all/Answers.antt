use Rattle.std.specs.Prelude.{Ok}
use Rattle.change_jobs.specs.Courses.{crew_of}
use Rattle.change_jobs.proofs.Lately.{is_over, none_late}
use Rattle.change_jobs.proofs.taking.take_all.Goals as goal

pub take_rest-requires-clause-late : goal.take_rest-requires-clause-late
take_rest-requires-clause-late g c =
    let r = c.requires.abreast in
    (r.0, r.1, c.args.jobs.now, crew_of g.C.Crew c.args.crew.now, Ok tt, none_late r.0 r.1 c.args.jobs.now (crew_of g.C.Crew c.args.crew.now) (Ok tt) r.2)

pub returns-clause-over : goal.returns-clause-over
returns-clause-over g c = λ members facts rule decisions abreast course.
    let crew = crew_of g.C.Crew c.args.crew.now in
    is_over members facts rule decisions c.args.jobs.now _ crew _ _ course
    (c.take_rest.ensures.late members facts c.args.jobs.now crew (Ok tt) (none_late members facts c.args.jobs.now crew (Ok tt) abreast)) c.take_rest.ensures.idle
