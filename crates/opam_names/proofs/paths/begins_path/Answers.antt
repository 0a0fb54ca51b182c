use Rattle.std.proofs.Common.{◌≡◌, true, false, ◌∙◌}
use Rattle.opam_names.proofs.Places.{need_ends}
use Rattle.opam_names.proofs.paths.begins_path.Goals as goal

pub returns-then-not-has_good_ends : goal.returns-then-not-has_good_ends
returns-then-not-has_good_ends c = (
  (λ t. let e : false ≡ true = t in cc),
  (λ b. c.if-not-has_good_ends.ensures ∙ need_ends c.args.front.now b),
)
