use Rattle.std.proofs.Common.{◌≡◌, map, drop}
use Rattle.opam_filter.specs.Scopes.{all_in}
use Rattle.opam_filter.specs.Truths.{both}
use Rattle.opam_filter.proofs.scopes.all_in.Given as goal

-- the truth so far, and that of the parts that are left
abbrev pub invariant-loop-part : goal.invariant-loop-part
invariant-loop-part l =
    (both l.truth (all_in l.vars l.name (map (λ part. part.now) (drop l.part-index l.parts))) ≡ all_in l.vars l.name (map (λ part. part.now) l.parts))
    × (l.variable.name ≡ l.name)
