use Rattle.std.proofs.Common.{◌≡◌, true, false, sym, ◌∙◌}
use Rattle.opam_names.proofs.Places.{cut_fits, cut_none}
use Rattle.opam_names.proofs.paths.cut_begins.Goals as goal

pub returns-in-Some : goal.returns-in-Some
returns-in-Some c = cut_fits c.args.front.now c.args.whole c.in-Some.rest c.requires.valid (sym c.in-Some.ensures) c.requires.no_zero c.requires.ends c.requires.short

pub returns-in-None : goal.returns-in-None
returns-in-None c = (
  (λ t. let e : false ≡ true = t in cc),
  (λ b. absurd (cut_none c.args.front.now c.args.whole c.requires.valid (sym c.missing.ensures ∙ c.in-None.is) b)),
)
