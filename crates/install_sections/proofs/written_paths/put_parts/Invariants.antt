use Rattle.std.proofs.Common.{◌≡◌, ◌≤◌, [], fold, length}
use Rattle.opam_names.specs.Paths.{parts}
use Rattle.install_sections.specs.PathGrowth.{with_part}
use Rattle.install_sections.proofs.written_paths.put_parts.Given as goal

-- the path so far, and then the parts that are left
abbrev pub invariant-loop-slash : goal.invariant-loop-slash
invariant-loop-slash l = (fold with_part l.path.items (parts l.rest) ≡ fold with_part [] (parts l.text)) × (length l.rest ≤ 1024)

abbrev pub decreases-loop-slash : goal.decreases-loop-slash
decreases-loop-slash l = length l.rest
