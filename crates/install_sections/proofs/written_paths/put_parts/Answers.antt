use Rattle.std.proofs.Common.{sym, ◌∙◌, ◌+◌}
use Rattle.install_sections.proofs.Parts.{next_part, last_grown, rest_short}
use Rattle.install_sections.proofs.written_paths.put_parts.Goals as goal

pub loop-slash-preserved : goal.loop-slash-preserved
loop-slash-preserved c = (
  next_part c.loop-slash.path.items _ _ c.loop-slash.rest.now c.in-Some.slash (sym c.in-Some.ensures.value) c.in_ok-put_part.ensures c.loop-slash.invariant.0,
  rest_short c.loop-slash.rest.now (c.in-Some.slash + 1) c.loop-slash.invariant.1,
)

pub returns : goal.returns
returns c =
    last_grown c.loop-slash.path.items _ _ c.loop-slash.rest.now (sym c.first_slash.ensures.value ∙ c.in_default.is) c.in_ok-put_part-2.ensures c.loop-slash.invariant.0
