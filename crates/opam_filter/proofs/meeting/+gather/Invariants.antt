use Rattle.std.proofs.Common.{◌≡◌, drop, fold, map}
use Rattle.std.specs.List.{flat_map}
use Rattle.opam_filter.specs.NameSets.{with_name}
use Rattle.opam_filter.specs.Sets.{kept_names}
use Rattle.opam_filter.proofs.meeting.+gather.Given as goal

-- what is gathered, and then what is left
abbrev pub invariant-gather_all-loop-part : goal.invariant-gather_all-loop-part
invariant-gather_all-loop-part l =
    fold with_name l.found.keys (flat_map (λ names. names) (map kept_names (drop l.part-index l.parts)))
    ≡ fold with_name l.fn.found.keys (flat_map (λ names. names) (map kept_names l.parts))
