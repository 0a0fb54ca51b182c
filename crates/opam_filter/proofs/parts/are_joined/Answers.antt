use Rattle.std.proofs.Common.{rules, List, ℕ, Bor, tests}
use Rattle.std.proofs.lemmas.Iterator.{YieldsList-from_slice}
use Rattle.std.proofs.lemmas.Iterator.Search.{all_from_yields_List}
use Rattle.opam_filter.specs.Scopes.{is_package_part}
use Rattle.opam_filter.proofs.PlusParts.{two_joined}
use Rattle.opam_filter.proofs.parts.are_joined.Goals as goal

pub returns-then-parts-ge2 : goal.returns-then-parts-ge2
returns-then-parts-ge2 c =
    let test = λ (part : Bor (List ℕ)). is_package_part part.now in
    let all = all_from_yields_List test _ _ c.all.result c.all.ensures.ran (YieldsList-from_slice c.args.parts.now cc) (λ x b q k. search (rules, tests)) in
    two_joined c.args.parts.now c.all.result c.if-parts-ge2.true all
