use Rattle.std.proofs.Common.{◌≡◌, ◌+◌, ◌*◌, ◌≤◌, length}
use Rattle.syntax_trees.proofs.ParsedAll.{AllSoFar}
use Rattle.syntax_trees.proofs.ParsedAny.{AnySoFar}
use Rattle.syntax_trees.proofs.ParsedInside.{ValuesSoFar}
use Rattle.syntax_trees.proofs.values.+parse.Given as goal

-- the tokens that are left, and among functions that take none first how deep the grammar's level is

abbrev pub decreases-value : goal.decreases-value
decreases-value l = 9 * length l.tokens.now + 7

abbrev pub decreases-whole_value : goal.decreases-whole_value
decreases-whole_value l = 9 * length l.tokens.now + 6

abbrev pub decreases-disjuncts : goal.decreases-disjuncts
decreases-disjuncts l = 9 * length l.tokens.now + 5

abbrev pub decreases-more_disjuncts : goal.decreases-more_disjuncts
decreases-more_disjuncts l = 9 * length l.tokens.now + 5

abbrev pub decreases-conjuncts : goal.decreases-conjuncts
decreases-conjuncts l = 9 * length l.tokens.now + 4

abbrev pub decreases-more_conjuncts : goal.decreases-more_conjuncts
decreases-more_conjuncts l = 9 * length l.tokens.now + 4

abbrev pub decreases-unary : goal.decreases-unary
decreases-unary l = 9 * length l.tokens.now + 3

abbrev pub decreases-relation : goal.decreases-relation
decreases-relation l = 9 * length l.tokens.now + 2

abbrev pub decreases-braced : goal.decreases-braced
decreases-braced l = 9 * length l.tokens.now + 1

abbrev pub decreases-primary : goal.decreases-primary
decreases-primary l = 9 * length l.tokens.now

abbrev pub decreases-values_inside : goal.decreases-values_inside
decreases-values_inside l = 9 * length l.tokens.now + 8

-- what was parsed is the beginning of whatever is there

abbrev pub invariant-more_conjuncts-loop-parts : goal.invariant-more_conjuncts-loop-parts
invariant-more_conjuncts-loop-parts l = record {
  so_far : AllSoFar l.allowed l.fn.first l.fn.tokens l.parts l.tokens;
  start : l.start ≡ l.fn.first.span;
  left : length l.tokens ≤ length l.fn.tokens;
}

abbrev pub decreases-more_conjuncts-loop-parts : goal.decreases-more_conjuncts-loop-parts
decreases-more_conjuncts-loop-parts l = length l.tokens

abbrev pub invariant-more_disjuncts-loop-parts : goal.invariant-more_disjuncts-loop-parts
invariant-more_disjuncts-loop-parts l = record {
  so_far : AnySoFar l.allowed l.fn.first l.fn.tokens l.parts l.tokens;
  start : l.start ≡ l.fn.first.span;
  left : length l.tokens ≤ length l.fn.tokens;
}

abbrev pub decreases-more_disjuncts-loop-parts : goal.decreases-more_disjuncts-loop-parts
decreases-more_disjuncts-loop-parts l = length l.tokens

abbrev pub invariant-values_inside-loop-to : goal.invariant-values_inside-loop-to
invariant-values_inside-loop-to l = record {
  so_far : ValuesSoFar l.bracket l.allowed l.fn.tokens l.nodes l.tokens;
  left : length l.tokens ≤ length l.fn.tokens;
}

abbrev pub decreases-values_inside-loop-to : goal.decreases-values_inside-loop-to
decreases-values_inside-loop-to l = length l.tokens
