-- What stands behind a number of values, where some of them are gone by.
use Rattle.std.proofs.Common.{◌≡◌, ℕ, ◌+◌, ◌-◌, ◌≤◌, List, ◌++◌, length, drop, sym, ap, ◌∙◌, arith}
use Rattle.std.proofs.Math.Seq.{drop-append-add}

-- values that fit into the room make it smaller
pub room_left : {X : Type 0} (room : ℕ) (nodes more : List X) → length nodes ≤ room → drop (room - length nodes) more ≡ drop room (nodes ++ more)
room_left room nodes more fits =
    let whole : length nodes + (room - length nodes) ≡ room = omega arith in
    sym (drop-append-add nodes more (room - length nodes)) ∙ ap (λ n. drop n (nodes ++ more)) whole
