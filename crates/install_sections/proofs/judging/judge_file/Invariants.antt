use Rattle.std.proofs.Common.{◌≡◌, fold}
use Rattle.install_sections.specs.Judgements.{unread, with_verdict}
use Rattle.install_sections.specs.Placements.{all_verdicts, file_verdicts}
use Rattle.install_sections.proofs.Told.{told}
use Rattle.install_sections.proofs.judging.judge_file.Given as goal

-- what is known so far, and then the items that are left
abbrev pub invariant-loop-key : goal.invariant-loop-key
invariant-loop-key l =
    fold with_verdict l.judgement (all_verdicts l.name (told l.key-iterator) l.places)
    ≡ fold with_verdict unread (file_verdicts l.name l.file)
