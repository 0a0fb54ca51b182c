use Rattle.std.proofs.Common.{length, ap, arith}
use Rattle.syntax_trees.specs.Read.{read_fields, read_places}
use Rattle.syntax_trees.proofs.ParsedFields.{field_at, fields_end, fields_refused, fields_step, no_field_at, no_fields_read}
use Rattle.syntax_trees.proofs.parsing.fields.Goals as goal

pub returns-in-Some-clause-read : goal.returns-in-Some-clause-read
returns-in-Some-clause-read c =
    fields_end c.args.tokens.now (read_fields c.loop-to.fields) (read_places c.loop-to.fields) c.loop-to.tokens c.in-Some.to c.take_sign.new.self c.loop-to.invariant.so_far
    c.in-Some.ensures

pub returns-in_err-next-in-None-clause-read : goal.returns-in_err-next-in-None-clause-read
returns-in_err-next-in-None-clause-read c =
    no_fields_read c.args.tokens.now c.field.new.tokens c.from_residual.result c.in_err-next-in-None.field-0.0 c.from_residual.ensures.1
    (λ k. fields_refused c.args.tokens.now (read_fields c.loop-to.fields) (read_places c.loop-to.fields) c.loop-to.tokens c.loop-to.invariant.so_far c.in-None.ensures.1
    (no_field_at c.in-None.ensures.0 (c.in_err-next-in-None.ensures.read k)))

pub loop-to-preserved : goal.loop-to-preserved
loop-to-preserved c = record {
  so_far = fields_step c.args.tokens.now c.loop-to.fields c.loop-to.tokens c.in_ok-next-in-None.next c.field.new.tokens c.push.new.self
      c.loop-to.invariant.so_far (field_at c.in-None.ensures.0 c.in_ok-next-in-None.ensures.read) c.in_ok-push-in-None.ensures.ok;
  left = omega (arith, ap length c.in-None.ensures.0, c.in_ok-next-in-None.ensures.shorter, c.loop-to.invariant.left);
}
