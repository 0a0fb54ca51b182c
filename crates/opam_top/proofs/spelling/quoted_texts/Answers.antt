use Rattle.std.proofs.Common.{◌+◌, ap, length, sym, ◌∙◌, arith, length-drop}
use Rattle.opam_top.specs.Spellings.{before_quote}
use Rattle.opam_top.proofs.Quotes.{quoted_step, quoted_end, after_quote-shorter}
use Rattle.opam_top.proofs.spelling.quoted_texts.Goals as goal

pub loop-after-smaller : goal.loop-after-smaller
loop-after-smaller c = omega (arith, after_quote-shorter c.loop-after.rest.now c.in-Some.after.now (sym c.in-Some.ensures), ap length c.text_and_rest.ensures.rest, length-drop (before_quote c.in-Some.after.now + 1) c.in-Some.after.now)

pub loop-after-preserved : goal.loop-after-preserved
loop-after-preserved c = quoted_step c.loop-after.texts c.push.new.self c.args.bytes.now c.loop-after.rest.now c.in-Some.after.now c.in_ok-from_slice.field-0 c.text_and_rest.result.1.now (sym c.in-Some.ensures) (c.in_ok-from_slice.ensures ∙ c.text_and_rest.ensures.text) c.text_and_rest.ensures.rest c.in_ok-push.ensures.ok c.loop-after.invariant

pub returns : goal.returns
returns c = quoted_end c.loop-after.texts c.args.bytes.now c.loop-after.rest.now (sym c.in_default.ensures) c.loop-after.invariant
