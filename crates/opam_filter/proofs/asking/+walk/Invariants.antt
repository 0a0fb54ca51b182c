use Rattle.std.proofs.Common.{◌≡◌, fold, map, drop}
use Rattle.std.specs.List.{flat_map}
use Rattle.opam_filter.specs.Asked.{names_in}
use Rattle.opam_filter.specs.NameSets.{with_name}
use Rattle.opam_filter.proofs.asking.+walk.Given as goal

-- what is added, and then what is left
abbrev pub invariant-ask_all-loop-part : goal.invariant-ask_all-loop-part
invariant-ask_all-loop-part l =
    fold with_name l.names.keys (flat_map (λ found. found) (map names_in (drop l.part-index l.parts)))
    ≡ fold with_name l.fn.names.keys (flat_map (λ found. found) (map names_in l.parts))
