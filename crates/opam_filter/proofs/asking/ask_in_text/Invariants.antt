use Rattle.std.proofs.Common.{◌≡◌, fold, length}
use denote.Text.{Utf8}
use denote.Shadow.{shadow}
use Rattle.opam_filter.specs.Asked.{names_in_text}
use Rattle.opam_filter.specs.NameSets.{with_name}
use Rattle.opam_filter.proofs.asking.ask_in_text.Given as goal

-- what is added, and then what is left
abbrev pub invariant-loop-hole : goal.invariant-loop-hole
invariant-loop-hole l =
    shadow (Utf8 l.rest) × (fold with_name l.names.keys (names_in_text l.rest) ≡ fold with_name l.fn.names.keys (names_in_text l.fn.text))

abbrev pub decreases-loop-hole : goal.decreases-loop-hole
decreases-loop-hole l = length l.rest
