use Rattle.std.proofs.Common.{refl}
use Rattle.opam_names.proofs.Places.{text_goes_on}
use Rattle.opam_names.proofs.paths.text_begins.Goals as goal

pub returns-then-front-lt-PATH_LIMIT : goal.returns-then-front-lt-PATH_LIMIT
returns-then-front-lt-PATH_LIMIT c =
    ((λ t. text_goes_on c.args.front.now c.requires.text c.requires.no_zero c.requires.ends c.if-front-lt-PATH_LIMIT.true), λ b. refl)
