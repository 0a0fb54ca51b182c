-- Words of private clauses: what an answer makes of a chase.
use Rattle.std.specs.Prelude.{◌≡◌, ◌++◌}
use Rattle.lock_check.specs.Chased.{Chased, IsNeeded, known_in, next_of, unknown_in}
use Rattle.lock_check.specs.declared.answer.Answer.{Answer}

-- the answer is noted, and the needed names are those by it
pub record IsGiven (before : Chased) (answer : Answer) (now : Chased) : Type 0 where
  pub same_installed : now.installed ≡ before.installed
  pub same_bound : now.bound ≡ before.bound
  pub same_asked : now.asked ≡ before.asked
  pub now_known : now.known ≡ before.known ++ known_in answer
  pub now_unknown : now.unknown ≡ before.unknown ++ unknown_in (next_of before) answer
  pub now_needed : IsNeeded now
