-- What a change decides, one action after another, by fates that are told beforehand. This project's own. Nothing here runs, and there are no
-- workers: it is one fold over the actions of a plan.
use Rattle.std.specs.Prelude.{ℕ, zero, suc, ◌+◌, Bool, List, [], ◌∷◌, ◌++◌, length, map}
use Rattle.std.specs.declared.option.Option.TheVariants.{Some}
use Rattle.outside_io.specs.declared.workshop.Fate.{Fate}
use Rattle.action_graph.specs.declared.plan.Plan.{Plan}
use Rattle.change_floor.specs.declared.turn.Turn.{Turn}
use Rattle.change_floor.specs.Floors.{turn_of}

-- an action as its turn had it, and whether it was done: a package was removed or installed
pub record Decision : Type 0 where
  pub turn : Turn
  pub done : Bool

-- Whether an action is done, by the decisions before it. A step that goes from state to state is such a rule, for the state is what the earlier
-- decisions have made of the first one.
abbrev pub Rule : Type 0
Rule = List Decision → Turn → Bool

-- of each decision whether its action was done
abbrev pub done_in : List Decision → List Bool
done_in decisions = map (λ (decision : Decision). decision.done) decisions

-- one more decision
abbrev pub decided_next : Rule → List Decision → Turn → List Decision
decided_next rule decisions turn = decisions ++ record { turn = turn; done = rule decisions turn } ∷ []

-- the first decisions, where fates are told by the place of each install
abbrev pub decisions_of : Plan → Rule → (ℕ → Fate) → ℕ → List Decision
decisions_of plan rule told zero = []
decisions_of plan rule told (suc count) =
    let before = decisions_of plan rule told count in
    decided_next rule before (turn_of plan (done_in before) (λ place. Some (told place)))

-- the decisions on all actions
abbrev pub outcome_of : Plan → Rule → (ℕ → Fate) → List Decision
outcome_of plan rule told = decisions_of plan rule told (length plan.removals + length plan.installs)
