-- What comes of one token more, after those that followed one another (opam manual, file format: grammar; the
-- limit is this project's own).
use Rattle.std.specs.Prelude.{◌≡◌, ◌≤◌, ◌<◌, true}
use Rattle.std.specs.declared.option.Option.TheVariants.{None, Some}
use Rattle.syntax_trees.specs.Faults.{is_opening}
use Rattle.syntax_trees.specs.Following.{TokenControl, token_follows}
use Rattle.syntax_trees.specs.Heights.{height_step, token_height}
use Rattle.syntax_trees.specs.declared.limits.TheConstants.{NESTING_LIMIT}
use Rattle.syntax_trees.specs.declared.token.Token.{Token}
use Rattle.syntax_places.specs.Followed.{Followed}
use Rattle.syntax_places.specs.declared.step.Taken.{Taken}
use Rattle.syntax_places.specs.declared.step.Taken.TheVariants.{Follows, Refused, Deep}

-- it opens a bracket, or is a prefix operator, where as many are open as may be
pub record OpensTooDeep (before : Followed) (token : Token) : Type 0 where
  pub opening : is_opening token ≡ true
  pub deep : NESTING_LIMIT ≤ token_height before.height token

-- it follows, and nests no deeper than it may
pub record FollowsOn (before : Followed) (token : Token) (after : Followed) : Type 0 where
  pub control : token_follows before.control token ≡ Some after.control
  pub shallow : is_opening token ≡ true → token_height before.height token < NESTING_LIMIT
  pub height : after.height ≡ height_step before.height token

-- what comes of one token more: it follows, it may not, or it may but is too deep
abbrev pub IsTaken : Followed → Token → Taken → Type 0
IsTaken before token (Follows after) = FollowsOn before token after
IsTaken before token Refused = token_follows before.control token ≡ None
IsTaken before token Deep = (after : TokenControl) × (token_follows before.control token ≡ Some after) × OpensTooDeep before token
