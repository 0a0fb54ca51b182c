use Rattle.std.proofs.Common.{◌≡◌, length}
use Rattle.std.specs.FinMap.{from_entries}
use Rattle.opam_filter.proofs.Maps.{put_over}
use Rattle.opam_filter.proofs.vars.Vars.copy.Given as goal

-- with the entries that are left it is the map
abbrev pub invariant-loop-var : goal.invariant-loop-var
invariant-loop-var l = put_over l.copy l.left ≡ l.self

abbrev pub decreases-loop-var : goal.decreases-loop-var
decreases-loop-var l = length l.left
