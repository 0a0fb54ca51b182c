-- Each package needs two others at most.
use Rattle.std.proofs.Common.{◌≡◌, ◌∙◌, ap, ◌+◌, ◌*◌, ◌<◌, ◌≤◌, ◌%◌, ℕ, zero, suc, List, [], ◌∷◌, ◌++◌, Bool, true, false, length, nat_eq, rules, arith, if◌then◌else◌, ◌==◌}
use Rattle.std.specs.List.{list_any, sum_by}
use Rattle.std.proofs.lemmas.List.Sums.{sum_by-append}
use Rattle.std.proofs.lemmas.List.{length-append}
use Rattle.generated_set.specs.Drawing.{Drawn, and_once, drawn_after, drawn_at, needs_at, needs_of, next_state, none_drawn, state_at, value_of, with_draw, with_draws}

once_by : (needs : List ℕ) (number : ℕ) (there : Bool) → length (if there then needs else (needs ++ number ∷ [])) ≤ 1 + length needs
once_by needs number true = search (rules, arith)
once_by needs number false = omega (arith, length-append needs (number ∷ []))

draws_few : (place count : ℕ) (drawn : Drawn) → length (with_draws place count drawn).needs ≤ count + length drawn.needs
draws_few place zero drawn = search (rules, arith)
draws_few place (suc count) drawn =
    let before = with_draws place count drawn in
    let one = once_by before.needs (value_of (next_state before.state) % place) (list_any (nat_eq (value_of (next_state before.state) % place)) before.needs) in
    omega (arith, one, draws_few place count drawn)

third_small : (n : ℕ) → n % 3 < 3
third_small n = search (rules, arith)

after_few : (place state : ℕ) → length (drawn_after place state).needs ≤ 2
after_few place state = omega (arith, draws_few place (value_of state % 3) (none_drawn state), third_small (value_of state))

at_by : (place state : ℕ) (first : Bool) → length (if first then none_drawn state else drawn_after place (next_state state)).needs ≤ 2
at_by place state true = search (rules, arith)
at_by place state false = after_few place (next_state state)

at_few : (place state : ℕ) → length (drawn_at place state).needs ≤ 2
at_few place state = at_by place state (place == 0)

sum_with : (rows : List (List ℕ)) (row : List ℕ) → sum_by length (rows ++ row ∷ []) ≡ sum_by length rows + length row
sum_with rows row = sum_by-append length rows (row ∷ []) ∙ ap (λ (n : ℕ). sum_by length rows + n) (omega arith)

pub needs_few : (seed count : ℕ) → sum_by length (needs_of seed count) ≤ 2 * count
needs_few seed zero = search (rules, arith)
needs_few seed (suc count) = omega (arith, sum_with (needs_of seed count) (needs_at seed count), at_few count (state_at seed count), needs_few seed count)
