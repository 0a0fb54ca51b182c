use Rattle.std.proofs.Common.{◌≡◌, ◌++◌, length}
use Rattle.opam_top.specs.Spellings.{quoted}
use Rattle.opam_top.proofs.spelling.quoted_texts.Given as goal

-- the texts so far and those of the rest are all
abbrev pub invariant-loop-after : goal.invariant-loop-after
invariant-loop-after l = l.texts ++ quoted l.rest ≡ quoted l.bytes

abbrev pub decreases-loop-after : goal.decreases-loop-after
decreases-loop-after l = length l.rest
