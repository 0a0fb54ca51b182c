use Rattle.std.proofs.Common.{◌≡◌, length}
use Rattle.change_jobs.specs.Courses.{crew_of}
use Rattle.change_jobs.specs.Hearing.{LateGoesOn, SomeAreLate}
use Rattle.change_jobs.proofs.taking.take_rest.Given as goal

-- some were taken in late
abbrev pub invariant-loop-alloc : goal.invariant-loop-alloc
invariant-loop-alloc g l =
    let C = g.C.Crew in
    C.fit l.crew × (C.told l.crew ≡ C.told l.fn.crew) × (l.jobs.floor ≡ l.fn.jobs.floor) × SomeAreLate l.jobs (crew_of C l.crew)
    × LateGoesOn l.fn.jobs l.jobs (crew_of C l.fn.crew) (crew_of C l.crew) l.answer

abbrev pub decreases-loop-alloc : goal.decreases-loop-alloc
decreases-loop-alloc g l = length (g.C.Crew.running l.crew)
