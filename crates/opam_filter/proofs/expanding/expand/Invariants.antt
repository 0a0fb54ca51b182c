use Rattle.std.proofs.Common.{◌≡◌, ◌++◌, length, string_bytes}
use denote.Shadow.{shadow}
use denote.Text.{Utf8}
use Rattle.opam_filter.specs.Texts.{expanded}
use Rattle.opam_filter.proofs.expanding.expand.Given as goal

-- what is written, and then the expansion of what is left
abbrev pub invariant-loop-hole : goal.invariant-loop-hole
invariant-loop-hole l = shadow (Utf8 l.rest) × (string_bytes l.whole ++ expanded l.vars l.rest ≡ expanded l.vars l.text)

abbrev pub decreases-loop-hole : goal.decreases-loop-hole
decreases-loop-hole l = length l.rest
