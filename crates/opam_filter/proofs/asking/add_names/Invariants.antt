use Rattle.std.proofs.Common.{◌≡◌, filter, fold, map, drop}
use Rattle.opam_names.specs.Names.{is_name}
use Rattle.opam_filter.specs.NameSets.{with_name}
use Rattle.opam_filter.proofs.asking.add_names.Given as goal

-- what is added, and then what is left
abbrev pub invariant-loop-part : goal.invariant-loop-part
invariant-loop-part l =
    fold with_name l.names.keys (filter is_name (map (λ part. part.now) (drop l.part-index l.parts)))
    ≡ fold with_name l.fn.names.keys (filter is_name (map (λ part. part.now) l.parts))
