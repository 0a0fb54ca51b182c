-- Worked rows: which texts spell what, and why some are no files.
use Rattle.std.specs.Prelude.{ℕ, List, [], ◌∷◌, ◌++◌, replicate, false, codes}
use Rattle.syntax_trees.specs.declared.fault.SyntaxFault.TheVariants.{Ended, Stray, Deep, Doubled}
use Rattle.syntax_trees.specs.Faults.{IsFaultOf}
use Rattle.syntax_trees.specs.Samples.{sample_text, sample, lock_text, lock, dune_text, dune, fmt_text, fmt, app_text, app, doubled_text}
use Rattle.syntax_trees.specs.Texts.{IsInside}
use Rattle.syntax_trees.specs.Trees.{IsSpelling}

-- every escape, in the order of the manual, and a line that is joined to the next
abbrev pub escapes_text : List ℕ
escapes_text = codes "\\\\\\\"\\'\\n\\t\\r\\b\\ \\065\\x4a\\\n \t z\""

-- the bytes that they stand for
abbrev pub escapes : List ℕ
escapes = 92 ∷ 34 ∷ 39 ∷ 10 ∷ 9 ∷ 13 ∷ 8 ∷ 32 ∷ 65 ∷ 74 ∷ 122 ∷ []

-- each of these texts spells what it looks like
pub record RowsAreSpelled : Type 0 where
  pub empty : IsSpelling [] []
  pub a_sample : IsSpelling sample_text sample
  pub a_lock : IsSpelling lock_text lock
  pub dune_file : IsSpelling dune_text dune
  pub fmt_file : IsSpelling fmt_text fmt
  pub app_file : IsSpelling app_text app
  pub all_escapes : IsInside false escapes_text escapes []

-- a field whose value opens so many lists
abbrev pub lists_opened : ℕ → List ℕ
lists_opened n = codes "a:" ++ replicate n 91

-- what is wrong with these texts, and where
pub record RowsAreFaulty : Type 0 where
  pub scoped_name : IsFaultOf (codes "a:x") (Stray 2)
  pub unknown_escape : IsFaultOf (codes "a: \"\\q\"") (Stray 5)
  pub lone_minus : IsFaultOf (codes "a: 12 b: -") (Ended 10)
  pub too_large : IsFaultOf (codes "a: 9223372036854775808") (Ended 22)
  pub too_large_and_over : IsFaultOf (codes "a: 9223372036854775808 ") (Stray 22)
  pub second_value : IsFaultOf (codes "a: x (y") (Stray 6)
  pub maybe_comment : IsFaultOf (codes "a: x (") (Ended 6)
  pub second_sign : IsFaultOf (codes "f: a = b = c") (Stray 10)
  pub twice : IsFaultOf doubled_text (Doubled 5)
  pub too_many_lists : IsFaultOf (lists_opened 65) (Deep 66)
