use Rattle.std.proofs.Common.{◌∙◌}
use Rattle.std.specs.Prelude.{Ok, Err}
use Rattle.change_jobs.specs.Courses.{crew_of}
use Rattle.change_jobs.proofs.Lately.{has_name, has_room, is_over, late_err, none_late}
use Rattle.change_jobs.proofs.Steps.{busy, end_abreast, end_course, ran_too}
use Rattle.change_jobs.proofs.taking.take_one.Goals as goal

pub take_end-requires-clause-busy : goal.take_end-requires-clause-busy
take_end-requires-clause-busy g c =
    let r = c.requires.abreast in busy r.0 r.1 c.args.jobs.now (crew_of g.C.Crew c.args.crew.now) r.2 c.requires.waits c.requires.full

pub ended-requires : goal.ended-requires
ended-requires g c =
    let r = c.requires.abreast in
    ran_too r.0 r.1 c.args.jobs.now (crew_of g.C.Crew c.args.crew.now) (crew_of g.C.Crew c.take_end.new.self) _ c.in-Ok.id c.in-Ok.fate c.take_end.ensures.takes c.in-Ok.is r.2

pub hear-requires-clause-room : goal.hear-requires-clause-room
hear-requires-clause-room g c =
    let r = c.requires.abreast in
    let crew = crew_of g.C.Crew c.args.crew.now in
    has_room r.0 r.1 c.args.jobs.now c.args.jobs.now crew crew (crew_of g.C.Crew c.take_end.new.self) (Ok tt) _ c.take_end.ensures.takes (none_late r.0 r.1 c.args.jobs.now crew (Ok tt) r.2)

pub hear-requires-clause-named : goal.hear-requires-clause-named
hear-requires-clause-named g c =
    let r = c.requires.abreast in
    let crew = crew_of g.C.Crew c.args.crew.now in
    has_name r.0 r.1 c.args.jobs.now c.args.jobs.now crew crew (crew_of g.C.Crew c.take_end.new.self) (Ok tt) _ c.in-Ok.id c.in-Ok.fate c.take_end.ensures.takes c.in-Ok.is (none_late r.0 r.1 c.args.jobs.now crew (Ok tt) r.2)

pub take_rest-requires-clause-late : goal.take_rest-requires-clause-late
take_rest-requires-clause-late g c =
    let r = c.requires.abreast in
    let crew = crew_of g.C.Crew c.args.crew.now in (
      r.0,
      r.1,
      c.args.jobs.now,
      crew,
      _,
      late_err r.0 r.1 c.args.jobs.now c.args.jobs.now crew crew (crew_of g.C.Crew c.take_end.new.self) (Ok tt) (Err c.in-Err.field-0) _ c.take_end.ensures.takes tt c.take_end.ensures.size c.take_end.ensures.told
          (none_late r.0 r.1 c.args.jobs.now crew (Ok tt) r.2),
    )

pub returns-in-Ok-clause-ended : goal.returns-in-Ok-clause-ended
returns-in-Ok-clause-ended g c =
    let r = c.requires.abreast in
    let runs = ran_too r.0 r.1 c.args.jobs.now (crew_of g.C.Crew c.args.crew.now) (crew_of g.C.Crew c.take_end.new.self) _ c.in-Ok.id c.in-Ok.fate c.take_end.ensures.takes c.in-Ok.is r.2 in
    (c.in-Ok.id, c.in-Ok.fate, runs, c.hear.ensures.floor ∙ c.ended.ensures)

pub returns-in-Ok-clause-abreast : goal.returns-in-Ok-clause-abreast
returns-in-Ok-clause-abreast g c = λ members facts abreast.
    end_abreast members facts c.args.jobs.now c.hear.new.self (crew_of g.C.Crew c.args.crew.now) (crew_of g.C.Crew c.take_end.new.self) _ c.in-Ok.id c.in-Ok.fate c.take_end.ensures.takes c.in-Ok.is c.take_end.ensures.size c.take_end.ensures.told
    (c.hear.ensures.floor ∙ c.ended.ensures) c.hear.ensures.room c.hear.ensures.names c.hear.ensures.heard abreast

pub returns-in-Ok-clause-course : goal.returns-in-Ok-clause-course
returns-in-Ok-clause-course g c = λ members facts rule decisions abreast course.
    end_course members facts c.args.jobs.now c.hear.new.self (crew_of g.C.Crew c.args.crew.now) (crew_of g.C.Crew c.take_end.new.self) _ c.in-Ok.id c.in-Ok.fate c.take_end.ensures.takes c.in-Ok.is c.take_end.ensures.size c.take_end.ensures.told
    (c.hear.ensures.floor ∙ c.ended.ensures) c.hear.ensures.room c.hear.ensures.names c.hear.ensures.heard abreast rule decisions c.requires.waits c.requires.full course

pub returns-in-Err-clause-over : goal.returns-in-Err-clause-over
returns-in-Err-clause-over g c = λ members facts rule decisions abreast course.
    let crew = crew_of g.C.Crew c.args.crew.now in
    is_over members facts rule decisions c.args.jobs.now _ crew _ _ course
    (c.take_rest.ensures.late members facts c.args.jobs.now crew (Err c.in-Err.field-0) (late_err members facts c.args.jobs.now c.args.jobs.now crew crew (crew_of g.C.Crew c.take_end.new.self) (Err c.in-Err.field-0) (Err c.in-Err.field-0) _
    c.take_end.ensures.takes tt c.take_end.ensures.size c.take_end.ensures.told (none_late members facts c.args.jobs.now crew (Err c.in-Err.field-0) abreast))) c.take_rest.ensures.idle
