use Rattle.opam_package.specs.Dependencies.{is_edge, is_need}
use Rattle.opam_package.proofs.laws.edges_rise.Goals as goal

pub returns : goal.returns
returns c =
    let kept = c.rising_is_kept.ensures in
    record { edges = λ dependent set rises. kept.chosen (is_edge dependent) set rises; needs = λ dependent set rises. kept.chosen (is_need dependent) set rises }
