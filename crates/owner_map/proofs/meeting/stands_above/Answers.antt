use Rattle.std.proofs.Common.{sym, ◌∙◌, ap, length, drop, [], arith}
use Rattle.std.specs.Prelude.{bytes_eq, ◌&&◌}
use Rattle.opam_names.specs.Paths.{is_above}
use Rattle.owner_map.proofs.Texts.{above_short, above_splits}
use Rattle.owner_map.proofs.meeting.stands_above.Goals as goal

pub returns-then-below-above : goal.returns-then-below-above
returns-then-below-above c = sym (above_short c.args.above.now c.args.below.now c.if-below-above.true)

pub returns-then-eq : goal.returns-then-eq
returns-then-eq c =
    let p = c.args.above.now in
    let q = c.args.below.now in
    c.goes_on_below.ensures ∙ ap (is_above []) c.split_at.ensures.back
    ∙ ap (λ b. b && is_above [] (drop (length p) q)) (sym c.if-eq.true ∙ c.eq.ensures ∙ ap (λ x. bytes_eq x p) c.split_at.ensures.front)
    ∙ sym (above_splits p q (omega (arith, c.if-below-above.false)))

pub returns-else-eq : goal.returns-else-eq
returns-else-eq c =
    let p = c.args.above.now in
    let q = c.args.below.now in
    c.if-eq.false
    ∙ ap (λ b. b && is_above [] (drop (length p) q)) (sym c.if-eq.false ∙ c.eq.ensures ∙ ap (λ x. bytes_eq x p) c.split_at.ensures.front)
    ∙ sym (above_splits p q (omega (arith, c.if-below-above.false)))
