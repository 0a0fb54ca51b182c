-- What is decided of the floor's turns is the outcome.
use Rattle.std.proofs.Common.{◌≡◌, ℕ, zero, suc, ◌+◌, List, [], ◌∷◌, ◌++◌, length, map, sym, ap, refl, ◌∙◌, append_assoc, subst}
use Rattle.std.specs.Prelude.{fold, is_some}
use Rattle.std.specs.declared.option.Option.TheVariants.{Some}
use Rattle.std.proofs.lemmas.List.{append-nil}
use Rattle.change_floor.specs.Decisions as floor
use Rattle.change_floor.specs.Decisions.{Rule, decisions_of}
use Rattle.change_floor.specs.FloorLaws.{ScheduleDoesNotDecide}
use Rattle.change_floor.specs.Floors.{turn_of}
use Rattle.change_floor.specs.declared.turn.Turn.{Turn}
use Rattle.change_outcome.specs.Changes.{Change, Point, Removal}
use Rattle.change_outcome.specs.Outcomes.{actions_decided, all_decided, first_decided}
use Rattle.change_outcome.specs.PutBacks.{backs_left, with_backs}
use Rattle.change_outcome.specs.ScheduleLaws.{Begins, SchedulesGiveTheOutcome, decided_by, fates_of, rule_of, turns_of}
use Rattle.change_outcome.specs.Steps.{Decided, back_of, decided_on, point_then, which_done, with_turn}

map_push : {X Y : Type 0} (f : X → Y) (xs : List X) (x : X) → map f (xs ++ x ∷ []) ≡ map f xs ++ f x ∷ []
map_push f [] x = refl
map_push f (y ∷ xs) x = ap (λ zs. f y ∷ zs) (map_push f xs x)

map_append : {X Y : Type 0} (f : X → Y) (xs ys : List X) → map f (xs ++ ys) ≡ map f xs ++ map f ys
map_append f [] ys = refl
map_append f (x ∷ xs) ys = ap (λ zs. f x ∷ zs) (map_append f xs ys)

pub fold_append : {X Y : Type 0} (f : Y → X → Y) (y : Y) (xs ys : List X) → fold f y (xs ++ ys) ≡ fold f (fold f y xs) ys
fold_append f y [] ys = refl
fold_append f y (x ∷ xs) ys = fold_append f (f y x) xs ys

-- the floor's decisions and the outcome's go together
record Together (change : Change) (start : Point) (decisions : List floor.Decision) (decided : List Decided) : Type 0 where
  same : decided_by change start (turns_of decisions) ≡ decided
  done : floor.done_in decisions ≡ which_done decided

together_next : (change : Change) (start : Point) (decisions : List floor.Decision) (decided : List Decided) (turn : Turn) → Together change start decisions decided
    → Together change start (floor.decided_next (rule_of change start) decisions turn) (with_turn change start decided turn)
together_next change start decisions decided turn both =
    let next : floor.Decision = record { turn = turn; done = rule_of change start decisions turn } in
    let pushed = ap (λ ts. decided_by change start ts) (map_push (λ (one : floor.Decision). one.turn) decisions next) in
    let folded = fold_append (with_turn change start) [] (turns_of decisions) (turn ∷ []) in
    let stepped = ap (λ ds. with_turn change start ds turn) both.same in
    let first_done = map_push (λ (one : floor.Decision). one.done) decisions next in
    let second_done = map_push (λ (one : Decided). is_some one.does) decided (decided_on change (point_then start decided) turn) in
    let by_rule = ap (λ ds. is_some (decided_on change (point_then start ds) turn).does) both.same in
    record {
      same = pushed ∙ folded ∙ stepped;
      done = first_done ∙ ap (λ bs. bs ++ rule_of change start decisions turn ∷ []) both.done ∙ ap (λ b. which_done decided ++ b ∷ []) by_rule ∙ sym second_done;
    }

together : (change : Change) (start : Point) (n : ℕ) → Together change start (decisions_of change.plan (rule_of change start) (fates_of change) n) (first_decided change start n)
together change start zero = record { same = refl; done = refl }
together change start (suc n) =
    let both = together change start n in
    let decisions : List floor.Decision = decisions_of change.plan (rule_of change start) (fates_of change) n in
    let decided : List Decided = first_decided change start n in
    let same_turn = ap (λ bs. turn_of change.plan bs (λ place. Some (fates_of change place))) both.done in
    let P : Turn → Type 0 = λ turn. Together change start (floor.decided_next (rule_of change start) decisions (turn_of change.plan (floor.done_in decisions) (λ place. Some (fates_of change place)))) (with_turn change start decided turn) in
    subst P same_turn (together_next change start decisions decided (turn_of change.plan (floor.done_in decisions) (λ place. Some (fates_of change place))) both)

-- more turns, and put backs, only add to what was decided
turns_add : (change : Change) (start : Point) (turns : List Turn) (before : List Decided) → Begins before (fold (with_turn change start) before turns)
turns_add change start [] before = ([], sym (append-nil before))
turns_add change start (turn ∷ turns) before =
    let one : List Decided = decided_on change (point_then start before) turn ∷ [] in
    let later = turns_add change start turns (with_turn change start before turn) in
    (one ++ later.0, later.1 ∙ append_assoc before one later.0)

backs_add : (start : Point) (removals : List Removal) (before : List Decided) → Begins before (with_backs start before removals)
backs_add start [] before = ([], sym (append-nil before))
backs_add start (removal ∷ removals) before =
    let one : List Decided = back_of (point_then start before) removal ∷ [] in
    let later = backs_add start removals (before ++ one) in
    (one ++ later.0, later.1 ∙ append_assoc before one later.0)

begins_through : (front middle whole : List Decided) → Begins front middle → Begins middle whole → Begins front whole
begins_through front middle whole one other = (one.0 ++ other.0, other.1 ∙ ap (λ ds. ds ++ other.0) one.1 ∙ append_assoc front one.0 other.0)

-- what is decided of the first turns begins what is decided of more
turns_begin : (change : Change) (start : Point) (front rest : List floor.Decision) → Begins (decided_by change start (turns_of front)) (decided_by change start (turns_of (front ++ rest)))
turns_begin change start front rest =
    let appended = ap (λ ts. decided_by change start ts) (map_append (λ (one : floor.Decision). one.turn) front rest) ∙ fold_append (with_turn change start) [] (turns_of front) (turns_of rest) in
    let added = turns_add change start (turns_of rest) (decided_by change start (turns_of front)) in
    (added.0, appended ∙ added.1)

pub schedules : ScheduleDoesNotDecide → SchedulesGiveTheOutcome
schedules law change start workers events moment leads ends =
    let rule : Rule = rule_of change start in
    let given = law change.plan workers rule (fates_of change) events moment leads ends in
    let n : ℕ = length change.plan.removals + length change.plan.installs in
    let whole = together change start n in
    let so_far = ap (λ ds. decided_by change start (turns_of ds)) given.so_far ∙ (together change start (length moment.decisions)).same in
    let front = turns_begin change start moment.decisions given.begins.0 in
    let P : List floor.Decision → Type 0 = λ ds. Begins (decided_by change start (turns_of moment.decisions)) (decided_by change start (turns_of ds)) in
    let among = subst P (sym given.begins.1) front in
    let Q : List Decided → Type 0 = λ ds. Begins (decided_by change start (turns_of moment.decisions)) ds in
    let first = subst Q whole.same among in
    record {
      so_far = so_far;
      begins = begins_through (decided_by change start (turns_of moment.decisions)) (actions_decided change start) (all_decided change start) first
          (backs_add start (backs_left (point_then start (actions_decided change start))) (actions_decided change start));
      whole = λ over. ap (λ ds. decided_by change start (turns_of ds)) (given.whole over) ∙ whole.same;
    }
