-- Worked rows: where some short texts stop to begin a file, or have ended.
use Rattle.std.specs.Prelude.{codes}
use Rattle.syntax_trees.specs.declared.fault.SyntaxFault.TheVariants.{Ended, Stray}
use Rattle.syntax_trees.specs.Faults.{IsFaultOf}

-- these texts stop to begin a file, or have ended, at these places
pub record RowsAreTold : Type 0 where
  -- `!` could still become `!=`
  pub not_after_value : IsFaultOf (codes "a: b !x") (Stray 6)
  -- `a:` could still be a field, and `a:b` is a scoped name
  pub scope_for_name : IsFaultOf (codes "a:b: 1") (Stray 2)
  -- `12` could still become a name
  pub number_for_name : IsFaultOf (codes "12 ") (Stray 2)
  -- `\2` could still become `\200`
  pub code_too_large : IsFaultOf (codes "a: \"\\26") (Stray 6)
  -- `y:` could still become `y:z`
  pub colon_in_value : IsFaultOf (codes "f: x += y: z") (Stray 10)
  -- `-` could still become a number
  pub lone_minus : IsFaultOf (codes "a: 12 b: -") (Ended 10)
  -- `x+` could still become `x+=` or `x+y:z`
  pub lone_plus : IsFaultOf (codes "a: x+") (Ended 5)
  -- one quote is wanting
  pub two_quotes : IsFaultOf (codes "a: \"\"\"b\"\"") (Ended 9)
