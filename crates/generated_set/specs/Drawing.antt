-- A set of packages that is made of two numbers: a seed, and how many there are. What each of them needs is drawn. This project's own.
use Rattle.std.specs.Prelude.{ℕ, zero, suc, ◌+◌, ◌*◌, ◌/◌, ◌%◌, List, [], ◌∷◌, ◌++◌, nat_eq, ◌==◌, if◌then◌else◌}
use Rattle.std.specs.List.{list_any}

-- the generator's next number, by a linear congruence
abbrev pub next_state : ℕ → ℕ
next_state state = (1103515245 * state + 12345) % 2147483648

-- what is drawn of it
abbrev pub value_of : ℕ → ℕ
value_of state = state / 65536

-- the generator, and the numbers of the packages that are drawn so far
pub record Drawn : Type 0 where
  pub state : ℕ
  pub needs : List ℕ

-- a number comes last, unless it is there
abbrev pub and_once : List ℕ → ℕ → List ℕ
and_once needs number = if list_any (nat_eq number) needs then needs else needs ++ number ∷ []

-- one of the packages before this place is drawn
abbrev pub with_draw : ℕ → Drawn → Drawn
with_draw place drawn = record { state = next_state drawn.state; needs = and_once drawn.needs (value_of (next_state drawn.state) % place) }

-- so many are drawn, one after another
abbrev pub with_draws : ℕ → ℕ → Drawn → Drawn
with_draws place zero drawn = drawn
with_draws place (suc count) drawn = with_draw place (with_draws place count drawn)

-- nothing is drawn yet
abbrev pub none_drawn : ℕ → Drawn
none_drawn state = record { state = state; needs = [] }

-- first it is drawn how many are drawn: none, one or two
abbrev pub drawn_after : ℕ → ℕ → Drawn
drawn_after place state = with_draws place (value_of state % 3) (none_drawn state)

-- what the package at a place needs: the first one nothing, for which nothing is drawn
abbrev pub drawn_at : ℕ → ℕ → Drawn
drawn_at place state = if place == 0 then none_drawn state else drawn_after place (next_state state)

-- the generator as the package at a place is drawn
abbrev pub state_at : ℕ → ℕ → ℕ
state_at seed zero = seed % 2147483648
state_at seed (suc place) = (drawn_at place (state_at seed place)).state

-- what the package at a place needs
abbrev pub needs_at : ℕ → ℕ → List ℕ
needs_at seed place = (drawn_at place (state_at seed place)).needs

-- what each of so many packages needs, by their places
abbrev pub needs_of : ℕ → ℕ → List (List ℕ)
needs_of seed zero = []
needs_of seed (suc count) = needs_of seed count ++ needs_at seed count ∷ []
