use Rattle.std.proofs.Common.{◌≡◌, length}
use Rattle.opam_top.specs.Spellings.{after_quote}
use Rattle.opam_top.proofs.spelling.rest_after_quote.Given as goal

abbrev pub invariant-loop-rest : goal.invariant-loop-rest
invariant-loop-rest l = after_quote l.rest ≡ after_quote l.bytes

abbrev pub decreases-loop-rest : goal.decreases-loop-rest
decreases-loop-rest l = length l.rest
