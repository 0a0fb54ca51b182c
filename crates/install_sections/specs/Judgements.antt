-- Words of private clauses alone: what a reading holds after some items.
use Rattle.std.specs.List.{fold}
use Rattle.std.specs.Prelude.{ℕ, List, [], ◌∷◌, ◌++◌}
use Rattle.std.specs.declared.option.Option.TheVariants.{None, Some}
use Rattle.syntax_trees.specs.Trees.{contents_of}
use Rattle.syntax_trees.specs.declared.file.Item.{Item}
use Rattle.syntax_trees.specs.declared.file.Key.{Key}
use Rattle.syntax_trees.specs.declared.tree.Span.{Span}
use Rattle.install_sections.specs.declared.judging.Judgement.{Judgement}
use Rattle.install_sections.specs.declared.placement.Verdict.{Verdict}
use Rattle.install_sections.specs.declared.placement.Verdict.TheVariants.{Places, Fails}
use Rattle.install_sections.specs.InstallFaults.{sooner}
use Rattle.install_sections.specs.Placements.{entry_verdicts}

-- nothing is read yet
abbrev pub unread : Judgement
unread = record { placements = []; fault = None }

-- one item more
abbrev pub with_verdict : Judgement → Verdict → Judgement
with_verdict judgement (Places placement) = record { placements = judgement.placements ++ placement ∷ []; fault = judgement.fault }
with_verdict judgement (Fails fault) = record { placements = judgement.placements; fault = sooner judgement.fault (Some fault) }

-- several items more
abbrev pub after : Judgement → List Verdict → Judgement
after judgement verdicts = fold with_verdict judgement verdicts

-- what comes of an item as code has it
abbrev pub told_verdicts : List ℕ → Key → Item → Span → List Verdict
told_verdicts name key item place = entry_verdicts name key.name (contents_of item) place
