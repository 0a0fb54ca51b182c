use Rattle.std.proofs.Common.{◌≡◌, ◌≤◌, ◌+◌, length, vec_len, vec_capacity}
use Rattle.child_pool.proofs.Drains.{TakenIn}
use Rattle.child_pool.proofs.ends.drain.Given as goal

-- some were taken in, and there is room for the others
abbrev pub invariant-loop-alloc : goal.invariant-loop-alloc
invariant-loop-alloc g l =
    let C = g.C.Crew in
    C.fit l.crew × (C.size l.crew ≡ C.size l.fn.crew) × (C.told l.crew ≡ C.told l.fn.crew)
    × (vec_len l.taken + length (C.running l.crew) ≤ vec_capacity l.taken)
    × TakenIn (C.told l.fn.crew) (C.running l.fn.crew) (C.running l.crew) (C.events l.fn.crew) (C.events l.crew) l.fn.taken.items l.taken.items

abbrev pub decreases-loop-alloc : goal.decreases-loop-alloc
decreases-loop-alloc g l = length (g.C.Crew.running l.crew)
