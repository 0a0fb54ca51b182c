use Rattle.std.proofs.Common.{arith, ap, sym, ◌∙◌, if◌then◌else◌}
use Rattle.std.specs.declared.option.Option.TheVariants.{None, Some}
use Rattle.syntax_trees.specs.Faults.{is_opening}
use Rattle.syntax_trees.specs.Following.{token_follows}
use Rattle.syntax_trees.specs.Heights.{token_height}
use Rattle.syntax_places.specs.Controls.{control_of}
use Rattle.syntax_places.specs.Followed.{Followed}
use Rattle.syntax_places.proofs.TooDeep.{opens_too_deep, taken_follows}
use Rattle.syntax_places.proofs.follower.Follower.take.Goals as goal

pub returns-then-height-ge-NESTING_LIMIT : goal.returns-then-height-ge-NESTING_LIMIT
returns-then-height-ge-NESTING_LIMIT c =
    let token = c.args.token.now in (
      control_of c.take.new.self,
      ap (λ (f : Followed). token_follows f.control token) (sym c.self.view_is) ∙ taken_follows _ _ c.in_ok-take.field-0 c.in_ok-take.ensures c.if-not-branch.false,
      opens_too_deep c.args.self token c.in-Some.height
          (sym c.in-Some.is ∙ c.opening.ensures ∙ ap (λ (f : Followed). if is_opening token then Some (token_height f.height token) else None) c.self.view_is)
          (omega (arith, c.if-height-ge-NESTING_LIMIT.true)),
    )
