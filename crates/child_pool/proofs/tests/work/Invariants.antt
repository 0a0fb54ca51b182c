use Rattle.std.proofs.Common.{◌≡◌, ◌<◌, ◌≤◌, ℕ, length}
use Rattle.child_pool.specs.Crews.{IsFresh}
use Rattle.child_pool.proofs.tests.work.Given as goal

-- no job from this number on was started, and no more run than may
abbrev pub invariant-loop-id : goal.invariant-loop-id
invariant-loop-id g l =
    let C = g.C.Crew in
    C.fit l.crew × (0 < C.size l.crew) × (length (C.running l.crew) ≤ C.size l.crew)
    × ((k : ℕ) → l.id ≤ k → IsFresh k (C.events l.crew))
