-- The order in which a crew for tests takes its jobs. This project's own.
use Rattle.std.specs.Prelude.{ℕ, ◌%◌, List, [], ◌∷◌}

-- the place of the job that is taken next, of so many: the next pick modulo their number, and the oldest past the picks
abbrev pub next_place : List ℕ → ℕ → ℕ
next_place [] count = 0
next_place (pick ∷ picks) count = pick % count
