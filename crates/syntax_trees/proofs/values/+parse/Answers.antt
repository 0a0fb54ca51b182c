use Rattle.std.proofs.Common.{◌∷◌, ◌∙◌, length, refl, sym, ap, arith}
use Rattle.std.specs.declared.option.Option.TheVariants.{Some}
use Rattle.syntax_trees.specs.Grammar.{ValueLevel, OrLevel, AndLevel, UnaryLevel, RelationLevel, BracedLevel, PrimaryLevel, node}
use Rattle.syntax_trees.specs.declared.tree.Value.TheOpen.{Value-F}
use Rattle.syntax_trees.specs.Tokens.{placed}
use Rattle.syntax_trees.specs.Parsing.{prefix_node, sign_token}
use Rattle.syntax_trees.proofs.ParsedLevels as level
use Rattle.syntax_trees.proofs.ParsedAll as all
use Rattle.syntax_trees.proofs.ParsedAny as any
use Rattle.syntax_trees.proofs.ParsedInside as inside
use Rattle.syntax_trees.proofs.ParsedResults.{node_is, token_is, ending, inside_ending, refused_at, parsed_at, refused_parse, none_enclosed, none_joined_all, none_joined_any, made_parse, parse_at, passed_parse, joined_all, joined_any}
use Rattle.syntax_trees.proofs.values.+parse.Goals as goal

pub braced-returns-in_err-before-clause-parsed : goal.braced-returns-in_err-before-clause-parsed
braced-returns-in_err-before-clause-parsed t c =
    refused_parse BracedLevel c.args.allowed c.args.tokens.now c.primary.new.tokens c.from_residual.result c.in_err-before.field-0.0 c.from_residual.ensures.1
    (λ k. level.braced_refused c.args.allowed c.args.tokens.now (c.in_err-before.ensures.parsed k))

pub braced-returns-in_err-inside-in-Some-clause-parsed : goal.braced-returns-in_err-inside-in-Some-clause-parsed
braced-returns-in_err-inside-in-Some-clause-parsed t c =
    refused_parse BracedLevel c.args.allowed c.args.tokens.now c.values_inside.new.tokens c.from_residual-in_err-inside-in-Some.result
    c.in_err-inside-in-Some.field-0.0 c.from_residual-in_err-inside-in-Some.ensures.1
    (λ k. level.inside_refused c.args.allowed c.args.tokens.now c.in-Some.field-0 c.take_sign.new.self c.in_ok-before.before
    (ending c.in-Some.ensures c.in_ok-before.ensures.parsed) (c.in_err-inside-in-Some.ensures.parsed k))

pub braced-returns-in-None-clause-parsed : goal.braced-returns-in-None-clause-parsed
braced-returns-in-None-clause-parsed t c =
    ending (sym c.in-None.ensures.0)
    (level.bare_parsed c.args.allowed c.args.tokens.now c.in_ok-before.before c.primary.new.tokens c.in_ok-before.ensures.parsed c.in-None.ensures.1)

pub braced-returns-in-None-take_sign-clause-parsed : goal.braced-returns-in-None-take_sign-clause-parsed
braced-returns-in-None-take_sign-clause-parsed t c =
    made_parse BracedLevel c.args.allowed c.args.tokens.now c.take_sign-in-Some.new.self
    (node (Value-F.Braced c.in_ok-before.before c.in_ok-inside-in-Some.inside.nodes) c.in_ok-before.before.span c.in_ok-inside-in-Some.inside.to)
    c.with_braces.result c.with_braces.ensures
    (ending (sym c.in-None-take_sign.ensures.0)
    (level.braced_parsed c.args.allowed c.args.tokens.now c.in-Some.field-0 c.in_ok-inside-in-Some.inside.to c.take_sign.new.self c.in_ok-before.before
    c.in_ok-inside-in-Some.inside.nodes c.values_inside.new.tokens
    (ending c.in-Some.ensures c.in_ok-before.ensures.parsed) c.in_ok-inside-in-Some.ensures.parsed c.in-None-take_sign.ensures.1))

pub braced-returns-in-Some-take_sign-clause-parsed : goal.braced-returns-in-Some-take_sign-clause-parsed
braced-returns-in-Some-take_sign-clause-parsed t c =
    λ k. level.twice_refused c.args.allowed c.args.tokens.now c.in-Some.field-0 c.in_ok-inside-in-Some.inside.to c.in-Some-take_sign.field-0
    c.take_sign.new.self c.take_sign-in-Some.new.self c.in_ok-before.before c.in_ok-inside-in-Some.inside.nodes
    (ending c.in-Some.ensures c.in_ok-before.ensures.parsed) (inside_ending c.in-Some-take_sign.ensures c.in_ok-inside-in-Some.ensures.parsed)

pub conjuncts-returns-in_err-first-clause-parsed : goal.conjuncts-returns-in_err-first-clause-parsed
conjuncts-returns-in_err-first-clause-parsed t c =
    refused_parse AndLevel c.args.allowed c.args.tokens.now c.unary.new.tokens c.from_residual.result c.in_err-first.field-0.0 c.from_residual.ensures.1
    (λ k. all.head_refused c.args.allowed c.args.tokens.now (c.in_err-first.ensures.parsed k))

pub conjuncts-returns-in-None-clause-parsed : goal.conjuncts-returns-in-None-clause-parsed
conjuncts-returns-in-None-clause-parsed t c =
    ending (sym c.in-None.ensures.0)
    (all.one_part_parsed c.args.allowed c.args.tokens.now c.in_ok-first.first c.unary.new.tokens c.in_ok-first.ensures.parsed c.in-None.ensures.1)

pub conjuncts-returns-in-Some-clause-parsed : goal.conjuncts-returns-in-Some-clause-parsed
conjuncts-returns-in-Some-clause-parsed t c =
    joined_all c.args.allowed c.args.tokens.now c.take_sign.new.self c.more_conjuncts.new.tokens c.in-Some.field-0 c.in_ok-first.first c.more_conjuncts.result
    (ending c.in-Some.ensures c.in_ok-first.ensures.parsed) c.more_conjuncts.ensures.joined

pub disjuncts-returns-in_err-first-clause-parsed : goal.disjuncts-returns-in_err-first-clause-parsed
disjuncts-returns-in_err-first-clause-parsed t c =
    refused_parse OrLevel c.args.allowed c.args.tokens.now c.conjuncts.new.tokens c.from_residual.result c.in_err-first.field-0.0 c.from_residual.ensures.1
    (λ k. any.head_refused c.args.allowed c.args.tokens.now (c.in_err-first.ensures.parsed k))

pub disjuncts-returns-in-None-clause-parsed : goal.disjuncts-returns-in-None-clause-parsed
disjuncts-returns-in-None-clause-parsed t c =
    ending (sym c.in-None.ensures.0)
    (any.one_part_parsed c.args.allowed c.args.tokens.now c.in_ok-first.first c.conjuncts.new.tokens c.in_ok-first.ensures.parsed c.in-None.ensures.1)

pub disjuncts-returns-in-Some-clause-parsed : goal.disjuncts-returns-in-Some-clause-parsed
disjuncts-returns-in-Some-clause-parsed t c =
    joined_any c.args.allowed c.args.tokens.now c.take_sign.new.self c.more_disjuncts.new.tokens c.in-Some.field-0 c.in_ok-first.first c.more_disjuncts.result
    (ending c.in-Some.ensures c.in_ok-first.ensures.parsed) c.more_disjuncts.ensures.joined

pub more_conjuncts-returns-in_err-part-clause-joined : goal.more_conjuncts-returns-in_err-part-clause-joined
more_conjuncts-returns-in_err-part-clause-joined t c =
    none_joined_all c.args.first c.args.allowed c.args.tokens.now c.unary.new.tokens c.from_residual-in_err-part.result c.in_err-part.field-0.0
    c.from_residual-in_err-part.ensures.1
    (λ k. all.all_refused c.args.allowed c.args.first c.args.tokens.now c.loop-parts.parts c.loop-parts.tokens c.loop-parts.invariant.so_far
    (c.in_err-part.ensures.parsed k))

pub more_conjuncts-returns-in-None-clause-joined : goal.more_conjuncts-returns-in-None-clause-joined
more_conjuncts-returns-in-None-clause-joined t c =
    all.all_answer c.args.allowed c.args.first c.args.tokens.now c.loop-parts.parts c.loop-parts.tokens c.in_ok-part.part c.unary.new.tokens
    c.take_sign.new.self c.push-in-loop-parts.new.self c.all_node.result c.loop-parts.invariant.so_far c.in_ok-part.ensures.parsed c.in-None.ensures
    c.in_ok-push-2.ensures.ok c.all_node.ensures

pub more_conjuncts-loop-parts-preserved : goal.more_conjuncts-loop-parts-preserved
more_conjuncts-loop-parts-preserved t c = record {
  so_far = all.listed_so_far c.in_ok-push-2.ensures.ok
      (all.all_step c.args.allowed c.args.first c.args.tokens.now c.loop-parts.parts c.loop-parts.tokens c.in_ok-part.part c.in-Some.field-0
      c.take_sign.new.self c.loop-parts.invariant.so_far (ending c.in-Some.ensures c.in_ok-part.ensures.parsed));
  start = refl;
  left = omega (arith, ap length c.in-Some.ensures, c.in_ok-part.ensures.shorter, c.loop-parts.invariant.left);
}

pub more_disjuncts-returns-in_err-part-clause-joined : goal.more_disjuncts-returns-in_err-part-clause-joined
more_disjuncts-returns-in_err-part-clause-joined t c =
    none_joined_any c.args.first c.args.allowed c.args.tokens.now c.conjuncts.new.tokens c.from_residual-in_err-part.result c.in_err-part.field-0.0
    c.from_residual-in_err-part.ensures.1
    (λ k. any.any_refused c.args.allowed c.args.first c.args.tokens.now c.loop-parts.parts c.loop-parts.tokens c.loop-parts.invariant.so_far
    (c.in_err-part.ensures.parsed k))

pub more_disjuncts-returns-in-None-clause-joined : goal.more_disjuncts-returns-in-None-clause-joined
more_disjuncts-returns-in-None-clause-joined t c =
    any.any_answer c.args.allowed c.args.first c.args.tokens.now c.loop-parts.parts c.loop-parts.tokens c.in_ok-part.part c.conjuncts.new.tokens
    c.take_sign.new.self c.push-in-loop-parts.new.self c.any_node.result c.loop-parts.invariant.so_far c.in_ok-part.ensures.parsed c.in-None.ensures
    c.in_ok-push-2.ensures.ok c.any_node.ensures

pub more_disjuncts-loop-parts-preserved : goal.more_disjuncts-loop-parts-preserved
more_disjuncts-loop-parts-preserved t c = record {
  so_far = any.listed_so_far c.in_ok-push-2.ensures.ok
      (any.any_step c.args.allowed c.args.first c.args.tokens.now c.loop-parts.parts c.loop-parts.tokens c.in_ok-part.part c.in-Some.field-0
      c.take_sign.new.self c.loop-parts.invariant.so_far (ending c.in-Some.ensures c.in_ok-part.ensures.parsed));
  start = refl;
  left = omega (arith, ap length c.in-Some.ensures, c.in_ok-part.ensures.shorter, c.loop-parts.invariant.left);
}

pub primary-returns-in_err-inside-in-OpenList-clause-parsed : goal.primary-returns-in_err-inside-in-OpenList-clause-parsed
primary-returns-in_err-inside-in-OpenList-clause-parsed t c =
    refused_parse PrimaryLevel c.args.allowed c.args.tokens.now c.values_inside.new.tokens c.from_residual.result c.in_err-inside-in-OpenList.field-0.0
    c.from_residual.ensures.1
    (λ k. refused_at (token_is c.in-Some.ensures c.in-OpenList.ensures)
    (level.list_refused c.args.allowed c.in-Some.field-0.span c.take.new.self (c.in_err-inside-in-OpenList.ensures.parsed k)))

pub primary-returns-in_ok-inside-in-OpenList-clause-parsed : goal.primary-returns-in_ok-inside-in-OpenList-clause-parsed
primary-returns-in_ok-inside-in-OpenList-clause-parsed t c =
    let inside = c.in_ok-inside-in-OpenList.inside in
    node_is c.list_node.ensures
    (parsed_at (token_is c.in-Some.ensures c.in-OpenList.ensures)
    (level.list_parsed c.args.allowed c.in-Some.field-0.span inside.to c.take.new.self inside.nodes c.values_inside.new.tokens
    c.in_ok-inside-in-OpenList.ensures.parsed))

pub primary-returns-in_err-inside-in-OpenGroup-clause-parsed : goal.primary-returns-in_err-inside-in-OpenGroup-clause-parsed
primary-returns-in_err-inside-in-OpenGroup-clause-parsed t c =
    refused_parse PrimaryLevel c.args.allowed c.args.tokens.now c.values_inside-in-OpenGroup.new.tokens c.from_residual-in_err-inside-in-OpenGroup.result c.in_err-inside-in-OpenGroup.field-0.0
    c.from_residual-in_err-inside-in-OpenGroup.ensures.1
    (λ k. refused_at (token_is c.in-Some.ensures c.in-OpenGroup.ensures)
    (level.group_refused c.args.allowed c.in-Some.field-0.span c.take.new.self (c.in_err-inside-in-OpenGroup.ensures.parsed k)))

pub primary-returns-in_ok-inside-in-OpenGroup-clause-parsed : goal.primary-returns-in_ok-inside-in-OpenGroup-clause-parsed
primary-returns-in_ok-inside-in-OpenGroup-clause-parsed t c =
    let inside = c.in_ok-inside-in-OpenGroup.inside in
    node_is c.group_node.ensures
    (parsed_at (token_is c.in-Some.ensures c.in-OpenGroup.ensures)
    (level.group_parsed c.args.allowed c.in-Some.field-0.span inside.to c.take.new.self inside.nodes c.values_inside-in-OpenGroup.new.tokens
    c.in_ok-inside-in-OpenGroup.ensures.parsed))

pub primary-returns-in-Atom-clause-parsed : goal.primary-returns-in-Atom-clause-parsed
primary-returns-in-Atom-clause-parsed t c =
    parsed_at (sym c.in-Some.ensures)
    (level.atom_parsed c.args.allowed c.in-Some.field-0.token c.in-Atom.value c.in-Some.field-0.span c.take.new.self c.in-Atom.ensures)

pub unary-returns-then-allowed-eq0-clause-parsed : goal.unary-returns-then-allowed-eq0-clause-parsed
unary-returns-then-allowed-eq0-clause-parsed t c =
    λ k. refused_at (sym c.in-Some.ensures)
    (level.prefix_refused c.args.allowed c.in-Some.prefix c.in-Some.from c.take_prefix.new.self (λ l. absurd (omega (arith, c.if-allowed-eq0.true))))

pub unary-returns-in_err-operand-in-Some-clause-parsed : goal.unary-returns-in_err-operand-in-Some-clause-parsed
unary-returns-in_err-operand-in-Some-clause-parsed t c =
    refused_parse UnaryLevel c.args.allowed c.args.tokens.now c.unary.new.tokens c.from_residual.result c.in_err-operand-in-Some.field-0.0
    c.from_residual.ensures.1
    (λ k. refused_at (sym c.in-Some.ensures)
    (level.prefix_refused c.args.allowed c.in-Some.prefix c.in-Some.from c.take_prefix.new.self (λ l. c.in_err-operand-in-Some.ensures.parsed k)))

pub unary-returns-in-None-clause-parsed : goal.unary-returns-in-None-clause-parsed
unary-returns-in-None-clause-parsed t c =
    passed_parse RelationLevel UnaryLevel c.args.allowed c.args.tokens.now c.relation.new.tokens c.relation.result
    (λ n p. level.no_prefix_parsed c.args.allowed c.args.tokens.now n c.relation.new.tokens p)
    (λ h. level.no_prefix_refused c.args.allowed c.args.tokens.now c.in-None.ensures.1 h)
    (parse_at RelationLevel c.args.allowed c.take_prefix.new.self c.args.tokens.now c.relation.new.tokens c.relation.result c.in-None.ensures.0
    c.relation.ensures.parsed)

pub unary-returns-in_ok-operand-in-Some-clause-parsed : goal.unary-returns-in_ok-operand-in-Some-clause-parsed
unary-returns-in_ok-operand-in-Some-clause-parsed t c =
    made_parse UnaryLevel c.args.allowed c.args.tokens.now c.unary.new.tokens
    (prefix_node c.in-Some.prefix c.in-Some.from c.in_ok-operand-in-Some.operand) c.prefixed.result c.prefixed.ensures
    (parsed_at (sym c.in-Some.ensures)
    (level.prefix_parsed c.args.allowed c.in-Some.prefix c.in-Some.from c.take_prefix.new.self c.in_ok-operand-in-Some.operand c.unary.new.tokens
    c.if-allowed-eq0.false c.in_ok-operand-in-Some.ensures.parsed))

pub whole_value-returns-in_err-left-clause-parsed : goal.whole_value-returns-in_err-left-clause-parsed
whole_value-returns-in_err-left-clause-parsed t c =
    refused_parse ValueLevel c.args.allowed c.args.tokens.now c.disjuncts.new.tokens c.from_residual.result c.in_err-left.field-0.0 c.from_residual.ensures.1
    (λ k. level.value_refused c.args.allowed c.args.tokens.now (c.in_err-left.ensures.parsed k))

pub whole_value-returns-in_err-right-in-Some-clause-parsed : goal.whole_value-returns-in_err-right-in-Some-clause-parsed
whole_value-returns-in_err-right-in-Some-clause-parsed t c =
    refused_parse ValueLevel c.args.allowed c.args.tokens.now c.disjuncts-in-Some.new.tokens c.from_residual-in_err-right-in-Some.result
    c.in_err-right-in-Some.field-0.0 c.from_residual-in_err-right-in-Some.ensures.1
    (λ k. level.update_refused c.args.allowed c.in-Some.op c.in-Some.field-0-1 c.args.tokens.now c.take_update.new.self c.in_ok-left.left
    (ending c.in-Some.ensures c.in_ok-left.ensures.parsed) (c.in_err-right-in-Some.ensures.parsed k))

pub whole_value-returns-in-None-clause-parsed : goal.whole_value-returns-in-None-clause-parsed
whole_value-returns-in-None-clause-parsed t c =
    ending (sym c.in-None.ensures.0)
    (level.no_update_parsed c.args.allowed c.args.tokens.now c.in_ok-left.left c.disjuncts.new.tokens c.in_ok-left.ensures.parsed c.in-None.ensures.1)

pub whole_value-returns-in-None-take_update-clause-parsed : goal.whole_value-returns-in-None-take_update-clause-parsed
whole_value-returns-in-None-take_update-clause-parsed t c =
    made_parse ValueLevel c.args.allowed c.args.tokens.now c.take_update-in-Some.new.self
    (node (Value-F.Env c.in-Some.op c.in_ok-left.left c.in_ok-right-in-Some.right) c.in_ok-left.left.span c.in_ok-right-in-Some.right.span)
    c.update.result c.update.ensures
    (ending (sym c.in-None-take_update.ensures.0)
    (level.update_parsed c.args.allowed c.in-Some.op c.in-Some.field-0-1 c.args.tokens.now c.take_update.new.self c.in_ok-left.left
    c.in_ok-right-in-Some.right c.disjuncts-in-Some.new.tokens
    (ending c.in-Some.ensures c.in_ok-left.ensures.parsed) c.in_ok-right-in-Some.ensures.parsed c.in-None-take_update.ensures.1))

pub whole_value-returns-in-Some-take_update-clause-parsed : goal.whole_value-returns-in-Some-take_update-clause-parsed
whole_value-returns-in-Some-take_update-clause-parsed t c =
    λ k. level.again_refused c.args.allowed c.in-Some.op c.in-Some-take_update.field-0.0 c.in-Some.field-0-1 c.in-Some-take_update.field-0.1
    c.args.tokens.now c.take_update.new.self c.take_update-in-Some.new.self c.in_ok-left.left c.in_ok-right-in-Some.right
    (ending c.in-Some.ensures c.in_ok-left.ensures.parsed) (ending c.in-Some-take_update.ensures c.in_ok-right-in-Some.ensures.parsed)

pub relation-returns-in_err-right-in-Some-clause-parsed : goal.relation-returns-in_err-right-in-Some-clause-parsed
relation-returns-in_err-right-in-Some-clause-parsed t c =
    refused_parse RelationLevel c.args.allowed c.args.tokens.now c.braced.new.tokens c.from_residual.result c.in_err-right-in-Some.field-0.0
    c.from_residual.ensures.1
    (λ k. refused_at (sym c.in-Some.ensures)
    (level.pre_relation_refused c.args.allowed c.in-Some.op c.in-Some.from c.take_relation.new.self (c.in_err-right-in-Some.ensures.parsed k)))

pub relation-returns-in_ok-right-in-Some-clause-parsed : goal.relation-returns-in_ok-right-in-Some-clause-parsed
relation-returns-in_ok-right-in-Some-clause-parsed t c =
    made_parse RelationLevel c.args.allowed c.args.tokens.now c.braced.new.tokens
    (node (Value-F.PreRel c.in-Some.op c.in_ok-right-in-Some.right) c.in-Some.from c.in_ok-right-in-Some.right.span)
    c.pre_relation.result c.pre_relation.ensures
    (parsed_at (sym c.in-Some.ensures)
    (level.pre_relation_parsed c.args.allowed c.in-Some.op c.in-Some.from c.take_relation.new.self c.in_ok-right-in-Some.right c.braced.new.tokens
    c.in_ok-right-in-Some.ensures.parsed))

pub relation-returns-in_err-left-in-None-clause-parsed : goal.relation-returns-in_err-left-in-None-clause-parsed
relation-returns-in_err-left-in-None-clause-parsed t c =
    refused_parse RelationLevel c.args.allowed c.args.tokens.now c.braced-in-None.new.tokens c.from_residual-in_err-left-in-None.result
    c.in_err-left-in-None.field-0.0 c.from_residual-in_err-left-in-None.ensures.1
    (λ k. level.left_refused c.args.allowed c.args.tokens.now c.in-None.ensures.1
    (refused_at c.in-None.ensures.0 (c.in_err-left-in-None.ensures.parsed k)))

pub relation-returns-in-None-take_relation-clause-parsed : goal.relation-returns-in-None-take_relation-clause-parsed
relation-returns-in-None-take_relation-clause-parsed t c =
    ending (sym c.in-None-take_relation.ensures.0)
    (level.alone_parsed c.args.allowed c.args.tokens.now c.in_ok-left-in-None.left c.braced-in-None.new.tokens
    (parsed_at c.in-None.ensures.0 c.in_ok-left-in-None.ensures.parsed) c.in-None-take_relation.ensures.1)

pub relation-returns-in_err-right-in-Some-take_relation-clause-parsed : goal.relation-returns-in_err-right-in-Some-take_relation-clause-parsed
relation-returns-in_err-right-in-Some-take_relation-clause-parsed t c =
    refused_parse RelationLevel c.args.allowed c.args.tokens.now c.braced-in-Some-take_relation.new.tokens
    c.from_residual-in_err-right-in-Some-take_relation.result c.in_err-right-in-Some-take_relation.field-0.0
    c.from_residual-in_err-right-in-Some-take_relation.ensures.1
    (λ k. level.right_refused c.args.allowed c.in-Some-take_relation.op c.in-Some-take_relation.field-0-1 c.args.tokens.now
    c.take_relation-in-None.new.self c.in_ok-left-in-None.left
    (ending c.in-Some-take_relation.ensures (parsed_at c.in-None.ensures.0 c.in_ok-left-in-None.ensures.parsed))
    (c.in_err-right-in-Some-take_relation.ensures.parsed k))

pub relation-returns-in_ok-right-in-Some-take_relation-clause-parsed : goal.relation-returns-in_ok-right-in-Some-take_relation-clause-parsed
relation-returns-in_ok-right-in-Some-take_relation-clause-parsed t c =
    let left = c.in_ok-left-in-None.left in
    let right = c.in_ok-right-in-Some-take_relation.right in
    made_parse RelationLevel c.args.allowed c.args.tokens.now c.braced-in-Some-take_relation.new.tokens
    (node (Value-F.Rel c.in-Some-take_relation.op left right) left.span right.span) c.related.result c.related.ensures
    (level.relation_parsed c.args.allowed c.in-Some-take_relation.op c.in-Some-take_relation.field-0-1 c.args.tokens.now
    c.take_relation-in-None.new.self left right c.braced-in-Some-take_relation.new.tokens
    (ending c.in-Some-take_relation.ensures (parsed_at c.in-None.ensures.0 c.in_ok-left-in-None.ensures.parsed))
    c.in_ok-right-in-Some-take_relation.ensures.parsed)

pub values_inside-returns-in-Some-clause-parsed : goal.values_inside-returns-in-Some-clause-parsed
values_inside-returns-in-Some-clause-parsed t c =
    inside.values_end c.args.bracket c.args.allowed c.args.tokens.now c.loop-to.nodes c.in-Some.to c.take_sign.new.self
    (inside.so_far_at (c.in-Some.ensures ∙ ap (λ s. placed (sign_token s) c.in-Some.to ∷ c.take_sign.new.self) c.closing.ensures) c.loop-to.invariant.so_far)

pub values_inside-returns-in_err-node-in-None-clause-parsed : goal.values_inside-returns-in_err-node-in-None-clause-parsed
values_inside-returns-in_err-node-in-None-clause-parsed t c =
    none_enclosed c.args.bracket c.args.allowed c.args.tokens.now c.value.new.tokens c.from_residual.result c.in_err-node-in-None.field-0.0
    c.from_residual.ensures.1
    (λ k. inside.values_refused c.args.bracket c.args.allowed c.args.tokens.now c.loop-to.nodes c.loop-to.tokens c.loop-to.invariant.so_far
    (λ e. c.in-None.ensures.1 (e ∙ ap Some (sym c.closing.ensures)))
    (refused_at c.in-None.ensures.0 (c.in_err-node-in-None.ensures.parsed k)))

pub values_inside-loop-to-preserved : goal.values_inside-loop-to-preserved
values_inside-loop-to-preserved t c = record {
  so_far = inside.listed_so_far c.in_ok-push-in-None.ensures.ok
      (inside.values_step c.args.bracket c.args.allowed c.args.tokens.now c.loop-to.nodes c.loop-to.tokens c.in_ok-node-in-None.node c.value.new.tokens
      c.loop-to.invariant.so_far (parsed_at c.in-None.ensures.0 c.in_ok-node-in-None.ensures.parsed));
  left = omega (arith, ap length c.in-None.ensures.0, c.in_ok-node-in-None.ensures.shorter, c.loop-to.invariant.left);
}

pub value-returns-in-Some-clause-parsed : goal.value-returns-in-Some-clause-parsed
value-returns-in-Some-clause-parsed t c = c.in-Some.ensures.0 c.args.allowed
