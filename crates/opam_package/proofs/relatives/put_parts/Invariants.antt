use Rattle.std.proofs.Common.{◌≡◌, ℕ, List, [], fold, map, drop, string_bytes, Bor}
use Rattle.opam_package.specs.PartPaths.{with_part}
use Rattle.opam_package.proofs.relatives.put_parts.Given as goal

-- the path so far, and then the parts that are left
abbrev pub invariant-loop-part : goal.invariant-loop-part
invariant-loop-part l =
    fold with_part (string_bytes l.path) (map (λ (part : Bor (List ℕ)). part.now) (drop l.part-index l.parts))
    ≡ fold with_part [] (map (λ (part : Bor (List ℕ)). part.now) l.parts)
