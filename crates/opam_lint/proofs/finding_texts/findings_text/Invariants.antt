use Rattle.std.proofs.Common.{◌≡◌, ◌++◌, drop}
use Rattle.std.specs.List.{flat_map}
use Rattle.opam_lint.specs.FindingTexts.{finding_line}
use Rattle.opam_lint.proofs.finding_texts.findings_text.Given as goal

-- the lines so far, and then those that are left
abbrev pub invariant-loop-finding : goal.invariant-loop-finding
invariant-loop-finding l = l.text.items ++ flat_map (finding_line l.file) (drop l.finding-index l.findings) ≡ flat_map (finding_line l.file) l.findings
