use Rattle.std.proofs.Common.{rules, tests}
use Rattle.std.proofs.lemmas.Iterator.Search.{all_from_yields_List}
use Rattle.std.proofs.lemmas.Iterator.Splits.{YieldsList-from_slice_split}
use Rattle.syntax_trees.specs.Lexed.{is_plus}
use Rattle.syntax_trees.specs.Words.{is_scope_part}
use Rattle.syntax_trees.proofs.words.are_cut_parts.Goals as goal

pub returns : goal.returns
returns c =
    all_from_yields_List is_scope_part _ _ _ c.all.ensures.ran
    (YieldsList-from_slice_split _ is_plus _ c.split.ensures.rest c.split.ensures.done c.split.ensures.closure (λ x b q h. search (rules, tests)))
    (λ x b q h. search (rules, tests))
