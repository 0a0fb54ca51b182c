use Rattle.std.proofs.Common.{sym, ◌∙◌, ◌+◌, ◌<◌, length, arith}
use Rattle.opam_names.proofs.Parts.{good_rest, bad_part, last_part, rest_short}
use Rattle.opam_names.proofs.paths.has_good_parts.Goals as goal

pub overflow_add-rest : goal.overflow_add-rest
overflow_add-rest c =
    let h : c.in-Some.slash < length c.loop-slash.rest.now = c.in-Some.ensures.within in
    omega (arith, c.loop-slash.invariant.1)

pub returns-then-not-is_good_part : goal.returns-then-not-is_good_part
returns-then-not-is_good_part c =
    bad_part c.loop-slash.rest.now c.in-Some.slash _ (sym c.in-Some.ensures.value) c.if-not-is_good_part.ensures c.loop-slash.invariant.0

pub loop-slash-preserved : goal.loop-slash-preserved
loop-slash-preserved c = (
  good_rest c.loop-slash.rest.now c.in-Some.slash _ (sym c.in-Some.ensures.value) c.if-not-is_good_part.ensures c.loop-slash.invariant.0,
  rest_short c.loop-slash.rest.now (c.in-Some.slash + 1) c.loop-slash.invariant.1,
)

pub returns : goal.returns
returns c = c.is_good_part-2.ensures ∙ last_part c.loop-slash.rest.now _ (sym c.first_slash.ensures.value ∙ c.in_default.is) c.loop-slash.invariant.0
