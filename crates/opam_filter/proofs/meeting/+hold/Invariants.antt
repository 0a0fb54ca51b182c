use Rattle.std.proofs.Common.{◌≡◌, map, drop}
use Rattle.std.specs.List.{list_all, list_any}
use Rattle.opam_filter.specs.Sets.{holds}
use Rattle.opam_filter.proofs.meeting.+hold.Given as goal

-- what is left decides
abbrev pub invariant-all_hold-loop-part : goal.invariant-all_hold-loop-part
invariant-all_hold-loop-part l =
    list_all (λ part. part) (map (λ part. holds part l.set) (drop l.part-index l.parts))
    ≡ list_all (λ part. part) (map (λ part. holds part l.set) l.parts)

abbrev pub invariant-some_holds-loop-part : goal.invariant-some_holds-loop-part
invariant-some_holds-loop-part l =
    list_any (λ part. part) (map (λ part. holds part l.set) (drop l.part-index l.parts))
    ≡ list_any (λ part. part) (map (λ part. holds part l.set) l.parts)
