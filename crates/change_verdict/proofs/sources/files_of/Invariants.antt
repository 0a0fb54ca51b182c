use Rattle.std.proofs.Common.{◌≡◌, ◌+◌, ◌≤◌, drop, length, false, Some}
use Rattle.std.specs.List.{list_any}
use Rattle.journal_text.specs.Parts.{is_own, paths_of}
use Rattle.outside_io.specs.Shops.{Told}
use Rattle.change_verdict.specs.Sources.{files_of}
use Rattle.change_verdict.specs.Verdicts.{bytes_total}
use Rattle.change_verdict.specs.declared.limits.TheConstants.{FILES_LIMIT}
use Rattle.change_verdict.proofs.Files.{and_files}
use Rattle.change_verdict.proofs.sources.files_of.Given as goal

-- the files so far and those of the rest are all
abbrev pub invariant-loop-placement : goal.invariant-loop-placement
invariant-loop-placement g l = record {
  few : length l.files ≤ l.placement-index;
  total : bytes_total l.files + l.room ≡ FILES_LIMIT;
  free : list_any is_own (paths_of l.files) ≡ false;
  told : (told : Told) → g.W.Workshop.told l.shop ≡ Some told → and_files l.files (files_of (told.files l.job) l.room (drop l.placement-index l.placements)) ≡ files_of (told.files l.job) FILES_LIMIT l.placements;
}
