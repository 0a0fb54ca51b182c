-- Least sets. This project's own.

-- what is in the least set that has all starts, and with each of its elements whatever a step leads to from there
pub data Reached {X : Type 0} (start : X → Type 0) (step : X → X → Type 0) : X → Type 0 where
  started : (to : X) → start to → Reached start step to
  stepped : (from to : X) → Reached start step from → step from to → Reached start step to
