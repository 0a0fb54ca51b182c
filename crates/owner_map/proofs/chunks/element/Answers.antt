use Rattle.std.proofs.Common.{ℕ, ◌+◌, ◌-◌, ◌<◌, List, length, refl, sym, ◌∙◌, ap, subst, arith}
use Rattle.std.specs.Prelude.{slice_get}
use Rattle.std.proofs.lemmas.Option.{slice_get_read}
use Rattle.owner_map.proofs.Splitting.{IsPlaceFrom, chunk_is, drop_some, place_here, place_next}
use Rattle.owner_map.proofs.chunks.element.Goals as goal

pub loop-rest-init : goal.loop-rest-init
loop-rest-init g c = record { within = c.requires; is = refl }

pub bounds-chunks-at : goal.bounds-chunks-at
bounds-chunks-at g c = drop_some c.args.chunks.now c.loop-rest.at c.loop-rest.rest c.loop-rest.invariant.within

pub loop-rest-preserved : goal.loop-rest-preserved
loop-rest-preserved g c =
    let within = drop_some c.args.chunks.now c.loop-rest.at c.loop-rest.rest c.loop-rest.invariant.within in
    let next = place_next c.args.chunks.now c.args.place c.loop-rest.at c.loop-rest.rest c.index-chunks-at-in-loop-rest.result within c.index-chunks-at-in-loop-rest.is
    (omega (arith, c.len-rest.ensures, c.len.ensures, ap length (chunk_is c.args.chunks.now c.loop-rest.at c.index-chunks-at.result within c.index-chunks-at.is), ap length (chunk_is c.args.chunks.now c.loop-rest.at c.index-chunks-at-in-loop-rest.result within c.index-chunks-at-in-loop-rest.is), c.loop-rest-test.true)) c.loop-rest.invariant in
    let P : ℕ → Type 0 = λ n. IsPlaceFrom c.args.chunks.now c.args.place (c.loop-rest.at + 1) (c.loop-rest.rest - n) in
    subst P (sym c.len-rest.ensures) next

pub returns : goal.returns
returns g c =
    let within = drop_some c.args.chunks.now c.loop-rest.at c.loop-rest.rest c.loop-rest.invariant.within in
    let first = ap length (chunk_is c.args.chunks.now c.loop-rest.at c.index-chunks-at.result within c.index-chunks-at.is) in
    let second = ap length (chunk_is c.args.chunks.now c.loop-rest.at c.index-chunks-at-2.result within c.index-chunks-at-2.is) in
    let near : c.loop-rest.rest < length c.index-chunks-at-2.result = omega (arith, c.loop-rest-test.false, c.len.ensures, first, second) in
    let inside : c.loop-rest.rest < length c.as_slice.result.now = omega (arith, near, ap length c.as_slice.ensures) in
    place_here c.args.chunks.now c.args.place c.loop-rest.at c.loop-rest.rest c.index-chunks-at-2.result within c.index-chunks-at-2.is near c.loop-rest.invariant
    ∙ ap (λ (l : List g.row.T.Denot). slice_get l c.loop-rest.rest) (sym c.as_slice.ensures)
    ∙ slice_get_read c.as_slice.result.now (length c.as_slice.result.now) c.loop-rest.rest c.index-as_slice-rest.result refl inside c.index-as_slice-rest.is
