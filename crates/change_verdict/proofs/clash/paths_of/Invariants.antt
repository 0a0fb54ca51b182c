use Rattle.std.proofs.Common.{◌≡◌, take}
use Rattle.journal_text.specs.Parts.{paths_of}
use Rattle.change_verdict.proofs.clash.paths_of.Given as goal

abbrev pub invariant-loop-file : goal.invariant-loop-file
invariant-loop-file l = l.paths ≡ paths_of (take l.file-index l.files)
