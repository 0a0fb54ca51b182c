use Rattle.std.specs.Prelude.{Ok, Err}
use Rattle.change_jobs.specs.Courses.{crew_of}
use Rattle.change_jobs.proofs.Lately.{has_name, has_room, late_err, late_ok, one_fewer}
use Rattle.change_jobs.proofs.taking.take_late.Goals as goal

pub hear-requires-clause-room : goal.hear-requires-clause-room
hear-requires-clause-room g c =
    let r = c.requires.late in
    has_room r.0 r.1 r.2 c.args.jobs.now r.3 (crew_of g.C.Crew c.args.crew.now) (crew_of g.C.Crew c.take_end.new.self) r.4 _ c.take_end.ensures.takes r.5

pub hear-requires-clause-named : goal.hear-requires-clause-named
hear-requires-clause-named g c =
    let r = c.requires.late in
    has_name r.0 r.1 r.2 c.args.jobs.now r.3 (crew_of g.C.Crew c.args.crew.now) (crew_of g.C.Crew c.take_end.new.self) r.4 _ c.in-Ok.id c.in-Ok.fate c.take_end.ensures.takes c.in-Ok.is r.5

pub returns-in-Ok-clause-fewer : goal.returns-in-Ok-clause-fewer
returns-in-Ok-clause-fewer g c = one_fewer _ _ _ _ _ _ c.take_end.ensures.takes

pub returns-in-Ok-clause-late : goal.returns-in-Ok-clause-late
returns-in-Ok-clause-late g c = λ members facts first start earlier late.
    late_ok members facts first c.args.jobs.now c.hear.new.self start (crew_of g.C.Crew c.args.crew.now) (crew_of g.C.Crew c.take_end.new.self) earlier (Ok tt) _ c.in-Ok.id c.in-Ok.fate c.take_end.ensures.takes c.in-Ok.is
    c.take_end.ensures.size c.take_end.ensures.told c.hear.ensures.floor c.hear.ensures.room c.hear.ensures.names c.hear.ensures.heard late

pub returns-in-Ok-clause-some : goal.returns-in-Ok-clause-some
returns-in-Ok-clause-some g c =
    let r = c.requires.late in
    (r.0, r.1, r.2, r.3, _, returns-in-Ok-clause-late g c r.0 r.1 r.2 r.3 r.4 r.5)

pub returns-in-Err-clause-fewer : goal.returns-in-Err-clause-fewer
returns-in-Err-clause-fewer g c = one_fewer _ _ _ _ _ _ c.take_end.ensures.takes

pub returns-in-Err-clause-late : goal.returns-in-Err-clause-late
returns-in-Err-clause-late g c = λ members facts first start earlier late.
    late_err members facts first c.args.jobs.now start (crew_of g.C.Crew c.args.crew.now) (crew_of g.C.Crew c.take_end.new.self) earlier (Err c.in-Err.field-0) _ c.take_end.ensures.takes tt
    c.take_end.ensures.size c.take_end.ensures.told late

pub returns-in-Err-clause-some : goal.returns-in-Err-clause-some
returns-in-Err-clause-some g c =
    let r = c.requires.late in
    (r.0, r.1, r.2, r.3, _, returns-in-Err-clause-late g c r.0 r.1 r.2 r.3 r.4 r.5)
