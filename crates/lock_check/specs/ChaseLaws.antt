-- Laws of a chase. What each says is this project's own.
use Rattle.std.specs.Prelude.{◌≡◌, ℕ, ◌<◌, ◌≤◌, List, ◌++◌, filter, length, Bool, not, ◌&&◌}
use Rattle.std.specs.declared.option.Option.TheVariants.{Some}
use Rattle.opam_names.specs.declared.packages.Pkg.{Pkg}
use Rattle.lock_check.specs.Chased.{Chased, IsAnswer, has_pkg, known_in, next_of, unknown_in}
use Rattle.lock_check.specs.Targets.{has_member}
use Rattle.lock_check.specs.declared.answer.Answer.{Answer}

-- the repository has said nothing of the package yet
abbrev pub is_unread : Chased → Pkg → Bool
is_unread chased pkg = not (has_member chased.known pkg.name) && not (has_pkg chased.unknown pkg.name)

-- of how many bound packages it has said nothing
abbrev pub unread_count : Chased → ℕ
unread_count chased = length (filter (is_unread chased) chased.bound)

-- after an answer, what was given is that of before with it
pub record IsGiven (before : Chased) (answer : Answer) (after : Chased) : Type 0 where
  pub bound : after.bound ≡ before.bound
  pub known : after.known ≡ before.known ++ known_in answer
  pub unknown : after.unknown ≡ before.unknown ++ unknown_in (next_of before) answer

-- A chase ends: with each answer on the package that is next there is one bound package less of which nothing was said, so there are at most
-- as many answers as bound packages.
pub record ChasesEnd : Type 0 where
  pub fewer : (before after : Chased) (answer : Answer) → IsAnswer (next_of before) answer → IsGiven before answer after → unread_count after < unread_count before
  pub most : (chased : Chased) → unread_count chased ≤ length chased.bound
