use Rattle.std.proofs.Common.{◌++◌, ◌∙◌, ap, ℕ, List}
use Rattle.std.specs.Prelude.{codes}
use Rattle.opam_top.proofs.reasons.owned_text.Goals as goal

pub returns : goal.returns
returns c = c.in_ok-format.ensures.ok ∙ ap (λ (owner : List ℕ). c.args.path.now ++ (codes " is owned by " ++ owner)) c.in_ok-owner.ensures
