-- A token that opens too deep, as its height is told.
use Rattle.std.proofs.Common.{◌≡◌, ◌≤◌, ℕ, Bool, true, false, refl, ap, subst, if◌then◌else◌}
use Rattle.std.specs.declared.option.Option.{Option}
use Rattle.std.specs.declared.option.Option.TheVariants.{None, Some}
use Rattle.syntax_trees.specs.Faults.{is_opening}
use Rattle.syntax_trees.specs.Following.{TokenControl}
use Rattle.syntax_trees.specs.Heights.{token_height}
use Rattle.syntax_trees.specs.declared.limits.TheConstants.{NESTING_LIMIT}
use Rattle.syntax_trees.specs.declared.token.Token.{Token}
use Rattle.syntax_places.specs.Controls.{Takes}
use Rattle.syntax_places.specs.Followed.{Followed}
use Rattle.syntax_places.specs.Steps.{OpensTooDeep}

-- the height in an option
abbrev height_in : Option ℕ → ℕ
height_in None = 0
height_in (Some h) = h

opens_so : (before : Followed) (token : Token) (opens : Bool) (h : ℕ) → is_opening token ≡ opens
    → Some h ≡ (if opens then Some (token_height before.height token) else None) → NESTING_LIMIT ≤ h → OpensTooDeep before token
opens_so before token true h i e d = record { opening = i; deep = subst (λ k. NESTING_LIMIT ≤ k) (ap height_in e) d }
opens_so before token false h i e d = absurd cc

pub opens_too_deep : (before : Followed) (token : Token) (h : ℕ) → Some h ≡ (if is_opening token then Some (token_height before.height token) else None)
    → NESTING_LIMIT ≤ h → OpensTooDeep before token
opens_too_deep before token h e d = opens_so before token (is_opening token) h refl e d

-- a token that was taken follows
pub taken_follows : (next : Option TokenControl) (after : TokenControl) (taken : Bool) → Takes next after taken → taken ≡ true → next ≡ Some after
taken_follows next after true t e = t
taken_follows next after false t e = absurd cc
