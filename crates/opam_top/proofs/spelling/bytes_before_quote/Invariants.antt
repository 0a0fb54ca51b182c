use Rattle.std.proofs.Common.{◌≡◌, ◌+◌, drop}
use Rattle.opam_top.specs.Spellings.{before_quote}
use Rattle.opam_top.proofs.spelling.bytes_before_quote.Given as goal

abbrev pub invariant-loop-place : goal.invariant-loop-place
invariant-loop-place l = l.place + before_quote (drop l.place l.bytes) ≡ before_quote l.bytes
